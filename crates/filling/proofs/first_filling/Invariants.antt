-- `filling::first_filling` looks at the last byte of each row. The loop's invariant: no byte of the rows before has a
-- filling bit set.
use mathlib.Core.Path.{◌≡◌}
use Prim.Native.Nat.{◌*◌, ◌-◌}
use Rattle.laws.specs.Below.{first_where}
use Rattle.bits.specs.Packed.{row_bytes, has_filling}
use Rattle.filling.proofs.first_filling.Given as goal

abbrev pub invariant-loop-end : goal.invariant-loop-end
invariant-loop-end l = first_where ((l.end - 1) * row_bytes l.width) (has_filling l.packed l.width) ≡ (l.end - 1) * row_bytes l.width
