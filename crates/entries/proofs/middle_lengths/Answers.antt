use native.Mathlib.Omega.{arith}
use Rattle.table.specs.Lengths.{middle_side, sums_of}
use Rattle.table.proofs.Table.{known_each}
use Rattle.entries.proofs.middle_lengths.Goals as goal

pub returns : goal.returns
returns c = known_each (sums_of middle_side) _ (omega arith) tt
