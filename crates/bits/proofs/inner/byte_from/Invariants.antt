-- `bits::inner::byte_from` joins the bits for eight columns. The loop's invariant: the byte so far is made of those so far.
use mathlib.Core.Path.{◌≡◌}
use Prim.Native.Nat.{ℕ, ◌+◌}
use Rattle.bits.specs.Packed.{joined, bit_from}
use Rattle.bits.proofs.inner.byte_from.Given as goal

abbrev pub invariant-loop-place : goal.invariant-loop-place
invariant-loop-place l = l.byte ≡ joined l.place (λ (p : ℕ). bit_from l.cells l.width (l.x + p) l.y)
