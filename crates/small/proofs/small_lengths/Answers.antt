use native.Mathlib.Omega.{arith}
use Rattle.table.specs.Lengths.{small_side, sums_of}
use Rattle.table.proofs.Table.{known_each}
use Rattle.small.proofs.small_lengths.Goals as goal

pub returns : goal.returns
returns c = known_each (sums_of small_side) _ (omega arith) tt
