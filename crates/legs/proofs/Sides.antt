-- The side of a point, an integer, as a difference of two natural numbers. Assumes nothing.
use Prim.Native.Nat.{ℕ, zero, suc, ◌+◌, ◌*◌}
use mathlib.Core.Path.{◌≡◌, sym}
use native.Mathlib.Omega.{arith}
use borrow.Author.Tests.{lt-ltb, le-ltb}
use lib.Dec.{ltb}
use lib.IntN.{ℤ, pos, negsuc, neg_ℤ, ◌-ℤ◌, ◌*ℤ◌}
use Rattle.legs.specs.Sight.{side, is_positive, is_negative, positive, negative}
use Rattle.laws.proofs.Differences.{Diff, diff_move, diff_neg, diff_add, diff_mul, diff_pos}

-- the side multiplied out: what is added, and what is taken away
unfoldable pub plus : (ax ay bx by px py : ℕ) → ℕ
plus ax ay bx by px py = bx * py + by * ax + ay * px

unfoldable pub minus : (ax ay bx by px py : ℕ) → ℕ
minus ax ay bx by px py = bx * ay + ax * py + by * px

sign_positive : (z : ℤ) (a b : ℕ) → Diff z a b → is_positive z ≡ ltb b a
sign_positive (pos zero) a b p = sym (le-ltb b a (omega arith))
sign_positive (pos (suc k)) a b p = sym (lt-ltb b a (omega arith))
sign_positive (negsuc k) a b p = sym (le-ltb b a (omega arith))

sign_negative : (z : ℤ) (a b : ℕ) → Diff z a b → is_negative z ≡ ltb a b
sign_negative (pos k) a b p = sym (le-ltb a b (omega arith))
sign_negative (negsuc k) a b p = sym (lt-ltb a b (omega arith))

module _ (ax ay bx by px py : ℕ) where
  side_is : Diff (side ax ay bx by px py) (plus ax ay bx by px py) (minus ax ay bx by px py)
  unfolding side plus minus
  side_is =
      let u = pos bx -ℤ pos ax in
      let v = pos py -ℤ pos ay in
      let x = pos by -ℤ pos ay in
      let y = pos px -ℤ pos ax in
      diff_move (u *ℤ v -ℤ x *ℤ y) ((bx * py + ax * ay) + (by * ax + ay * px)) ((bx * ay + ax * py) + (by * px + ay * ax)) _ _
      (diff_add (u *ℤ v) (neg_ℤ (x *ℤ y)) _ _ _ _ (diff_mul u v bx ax py ay (diff_pos bx ax) (diff_pos py ay))
      (diff_neg (x *ℤ y) _ _ (diff_mul x y by ay px ax (diff_pos by ay) (diff_pos px ax)))) (omega arith)

  pub positive_is : positive ax ay bx by px py ≡ ltb (minus ax ay bx by px py) (plus ax ay bx by px py)
  unfolding positive
  positive_is = sign_positive (side ax ay bx by px py) (plus ax ay bx by px py) (minus ax ay bx by px py) side_is

  pub negative_is : negative ax ay bx by px py ≡ ltb (plus ax ay bx by px py) (minus ax ay bx by px py)
  unfolding negative
  negative_is = sign_negative (side ax ay bx by px py) (plus ax ay bx by px py) (minus ax ay bx by px py) side_is

  -- seen from the other end the signs change places
  pub turned : (plus bx by ax ay px py ≡ minus ax ay bx by px py) × (minus bx by ax ay px py ≡ plus ax ay bx by px py)
  unfolding plus minus
  turned = (omega arith, omega arith)
