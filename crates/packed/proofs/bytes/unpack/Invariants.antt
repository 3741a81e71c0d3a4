-- `packed::bytes::unpack` writes the cells one after the other. The loop's invariant: those so far, and beyond them what the
-- slice held.
use mathlib.Core.Path.{◌≡◌}
use mathlib.Core.List.{◌++◌}
use lib.ListN.{drop}
use Rattle.bits.specs.Packed.{entries, cell_of}
use Rattle.packed.proofs.bytes.unpack.Given as goal

abbrev pub invariant-loop-k : goal.invariant-loop-k
invariant-loop-k l = l.cell-items ≡ entries l.k (cell_of l.packed l.width) ++ drop l.k l.initial.cell-items
