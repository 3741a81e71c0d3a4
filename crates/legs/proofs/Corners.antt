-- Some corner of a cell passes a test: which one does, and that one is enough. Assumes nothing.
use Prim.Native.Nat.{ℕ, ◌+◌, ◌≤◌, ◌<◌}
use mathlib.Core.Path.{◌≡◌}
use mathlib.Core.Logic.{⊎_elim}
use mathlib.Core.Bool.{Bool, true}
use native.Mathlib.Nat.{eq-or-lt_of_le}
use native.Mathlib.Omega.{arith}
use Rattle.laws.proofs.Tests.{or_cases, or_left, or_right}
use Rattle.legs.specs.Sight.{some_corner}

pub corner_same : (f g : ℕ → ℕ → Bool) (i j : ℕ) → ((x y : ℕ) → f x y ≡ g x y) → some_corner f i j ≡ some_corner g i j
unfolding some_corner
corner_same f g i j e = rw (e i j, e (i + 1) j, e i (j + 1), e (i + 1) (j + 1))

-- (x, y) is a corner of the cell (i, j)
pub record CornerOf (i j x y : ℕ) : Type 0 where
  pub left : i ≤ x
  pub right : x ≤ i + 1
  pub top : j ≤ y
  pub bottom : y ≤ j + 1

module _ (f : ℕ → ℕ → Bool) (i j : ℕ) where
  corner : {x y : ℕ} → i ≤ x → x ≤ i + 1 → j ≤ y → y ≤ j + 1 → CornerOf i j x y
  corner a b c d = record { left = a; right = b; top = c; bottom = d }

  pub corner_of_lem : some_corner f i j ≡ true → (x : ℕ) × (y : ℕ) × CornerOf i j x y × (f x y ≡ true)
  unfolding some_corner
  corner_of_lem h =
      ⊎_elim (λ p. (i, j, corner (omega arith) (omega arith) (omega arith) (omega arith), p))
      (λ h₁. ⊎_elim (λ p. (i + 1, j, corner (omega arith) (omega arith) (omega arith) (omega arith), p))
      (λ h₂. ⊎_elim (λ p. (i, j + 1, corner (omega arith) (omega arith) (omega arith) (omega arith), p))
      (λ p. (i + 1, j + 1, corner (omega arith) (omega arith) (omega arith) (omega arith), p)) (or_cases _ _ h₂)) (or_cases _ _ h₁)) (or_cases _ _ h)

  pub corner_at : (x y : ℕ) → CornerOf i j x y → f x y ≡ true → some_corner f i j ≡ true
  unfolding some_corner
  corner_at x y c p =
      ⊎_elim (λ (ex : i ≡ x). ⊎_elim (λ (ey : j ≡ y). let q : f i j ≡ true = rw (ex, ey) p in or_left _ q)
      (λ (ey : j < y). let q : f i (j + 1) ≡ true = rw (ex, up y j ey c.bottom) p in or_right (f i j) (or_right (f (i + 1) j) (or_left _ q))) (eq-or-lt_of_le c.top))
      (λ (ex : i < x). ⊎_elim (λ (ey : j ≡ y). let q : f (i + 1) j ≡ true = rw (up x i ex c.right, ey) p in or_right (f i j) (or_left _ q))
      (λ (ey : j < y). let q : f (i + 1) (j + 1) ≡ true = rw (up x i ex c.right, up y j ey c.bottom) p in or_right (f i j) (or_right (f (i + 1) j) (or_right (f i (j + 1)) q))) (eq-or-lt_of_le c.top)) (eq-or-lt_of_le c.left)
    where
      up : (p i : ℕ) → i < p → p ≤ i + 1 → i + 1 ≡ p
      up p i h k = omega arith
