-- The square of a difference, taken with signed numbers of 64 bits: on the largest board nothing overflows. Assumes nothing.
use mathlib.Core.Path.{◌≡◌, refl, sym, ap₂, ◌∙◌, subst}
use Prim.Native.Nat.{ℕ, ◌*◌, ◌≤◌}
use native.Mathlib.Nat.{mul-le-mul}
use native.Mathlib.Omega.{arith}
use lib.Dec.{T}
use lib.IntN.{ℤ, pos, negsuc, nat_abs, ◌-ℤ◌, ◌*ℤ◌}
use lib.Signed.{non_neg}
use borrow.Author.Tests.{lt-ltb}
use mir.Syntax.{w64}
use mir.Val.{SFits, Fits, to_z, of_z}
use mir.ValLaws.{to_z-of_z}
use Rattle.board.specs.Limits.{largest_side}
use Rattle.spans.specs.Legs.{step}
use Rattle.spans.proofs.Legs.{step_size}

-- a small number keeps its value
signed : (n : ℕ) → n ≤ largest_side → to_z w64 n ≡ pos n
signed n l = rw (lt-ltb n 9223372036854775808 (omega arith)) refl

fits : (z : ℤ) → nat_abs z ≤ largest_side * largest_side → SFits w64 z
fits (pos n) l = record { sfits = omega arith }
fits (negsuc n) l = record { sfits = omega arith }

-- the square of a signed number
product : (z : ℤ) → z *ℤ z ≡ pos (nat_abs z * nat_abs z)
product (pos n) = refl
product (negsuc n) = refl

pub square_most : (a b n : ℕ) → a ≤ n → b ≤ n → nat_abs (step a b) * nat_abs (step a b) ≤ n * n
square_most a b n l h = mul-le-mul small small
  where
    small : nat_abs (step a b) ≤ n
    small = omega (arith, step_size a b)

module _ (a b : ℕ) (l : a ≤ largest_side) (h : b ≤ largest_side) where
  small : nat_abs (step a b) ≤ largest_side
  small = omega (arith, step_size a b)

  pub square_small : nat_abs (step a b) * nat_abs (step a b) ≤ largest_side * largest_side
  square_small = square_most a b largest_side l h

  difference : to_z w64 b -ℤ to_z w64 a ≡ step a b
  difference = ap₂ (λ (x y : ℤ). x -ℤ y) (signed b h) (signed a l)

  pub difference_fits : SFits w64 (to_z w64 b -ℤ to_z w64 a)
  difference_fits = subst (λ (z : ℤ). SFits w64 z) (sym difference) (fits (step a b) (omega (arith, small)))

  -- the difference as the code has it
  abbrev d : ℤ
  d = to_z w64 (of_z w64 (to_z w64 b -ℤ to_z w64 a))

  square : d *ℤ d ≡ pos (nat_abs (step a b) * nat_abs (step a b))
  square = let e = to_z-of_z w64 (to_z w64 b -ℤ to_z w64 a) difference_fits ∙ difference in ap₂ (λ (x y : ℤ). x *ℤ y) e e ∙ product (step a b)

  pub square_fits : SFits w64 (d *ℤ d)
  square_fits = subst (λ (z : ℤ). SFits w64 z) (sym square) (fits (pos (nat_abs (step a b) * nat_abs (step a b))) square_small)

  pub square_is : to_z w64 (of_z w64 (d *ℤ d)) ≡ pos (nat_abs (step a b) * nat_abs (step a b))
  square_is = to_z-of_z w64 (d *ℤ d) square_fits ∙ square

  pub square_cast : T (non_neg (to_z w64 (of_z w64 (d *ℤ d)))) × Fits w64 (nat_abs (to_z w64 (of_z w64 (d *ℤ d))))
  square_cast = subst (λ (x : ℤ). T (non_neg x) × Fits w64 (nat_abs x)) (sym square_is) (tt, record { fits = omega (arith, square_small) })
