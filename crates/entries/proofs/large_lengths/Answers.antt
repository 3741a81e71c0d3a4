use native.Mathlib.Omega.{arith}
use Rattle.table.specs.Lengths.{squares}
use Rattle.table.proofs.Table.{known_each}
use Rattle.entries.proofs.large_lengths.Goals as goal

pub returns : goal.returns
returns c = known_each squares _ (omega arith) tt
