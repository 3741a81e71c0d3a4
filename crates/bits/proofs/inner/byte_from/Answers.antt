use mathlib.Core.Path.{◌≡◌, sym}
use Prim.Native.Nat.{ℕ, ◌+◌, ◌<◌}
use mathlib.Core.List.{List}
use native.Mathlib.Omega.{arith}
use Rattle.bits.specs.Inner.{Bits}
use Rattle.bits.specs.Packed.{joined, bit_from}
use Rattle.bits.proofs.Digits.{joined_none, joined_more, joined_fits}
use Rattle.bits.proofs.Trips.{bit_from_le}
use Rattle.bits.proofs.inner.byte_from.Goals as goal

-- a bit is 0 or 1, so the byte has room for it
room : (cells : List ℕ) (width x y : ℕ) → Bits cells → (n : ℕ) → n < 8 → {byte : ℕ} → byte ≡ joined n (λ (p : ℕ). bit_from cells width (x + p) y) → byte < 128
room cells width x y bits n l e =
    rw e (joined_fits (λ (p : ℕ). bit_from cells width (x + p) y) (λ (p : ℕ). bit_from_le cells width bits.bit (x + p) y) n l)

pub loop-place-init : goal.loop-place-init
loop-place-init c = sym (joined_none _)

pub overflow_mul-byte : goal.overflow_mul-byte
overflow_mul-byte c =
    let a = c.args in
    omega (arith, room a.cells.now a.width a.x a.y c.requires.bits c.loop-place.place (omega arith) c.loop-place.invariant)

pub overflow_add-byte : goal.overflow_add-byte
overflow_add-byte c =
    let a = c.args in
    let r = room a.cells.now a.width a.x a.y c.requires.bits c.loop-place.place (omega arith) c.loop-place.invariant in
    omega (arith, r, c.bit_from.ensures, bit_from_le a.cells.now a.width c.requires.bits.bit (a.x + c.loop-place.place) a.y)

pub loop-place-preserved : goal.loop-place-preserved
loop-place-preserved c = rw (c.bit_from.ensures, c.loop-place.invariant) (sym (joined_more _ _))
