-- `packed::bytes::pack` writes the packed bytes one after the other. The loop's invariant: those so far, and beyond them what
-- the slice held.
use mathlib.Core.Path.{◌≡◌}
use mathlib.Core.List.{◌++◌}
use lib.ListN.{drop}
use Rattle.bits.specs.Packed.{entries, byte_from}
use Rattle.packed.proofs.bytes.pack.Given as goal

abbrev pub invariant-loop-i : goal.invariant-loop-i
invariant-loop-i l = l.byte-items ≡ entries l.i (byte_from l.cells l.width) ++ drop l.i l.initial.byte-items
