-- A direction by its rows. Assumes nothing.
use mathlib.Core.Path.{◌≡◌}
use mathlib.Core.Bool.{true, false, ◌&&◌}
use Prim.Native.Nat.{ℕ, ◌^◌, ◌≤◌, ◌<◌}
use lib.IntN.{ℤ, nat_abs}
use lib.Dec.{eqb}
use Rattle.board.specs.Limits.{largest_side}
use Rattle.board.specs.Handed.{refused, answer, judged}
use Rattle.length.specs.Units.{square, units}
use Rattle.length.proofs.Units.{units_positive, units_fit, different}
use Rattle.direction.specs.Answers.{no_direction, direction_of, aim_row}

-- the units of a leg between different vertices divide, and an f64 holds them
pub divisor : (dx dy : ℤ) {u : ℕ} → (eqb (nat_abs dx) 0 && eqb (nat_abs dy) 0) ≡ false → nat_abs dx ≤ largest_side → nat_abs dy ≤ largest_side → u ≡ units dx dy
    → (0 < u) × (u < 2 ^ 53)
divisor dx dy e p q f =
    rw f (units_positive (square dx dy) (different (nat_abs dx) (nat_abs dy) e), units_fit (nat_abs dx) (nat_abs dy) p q)

-- row 9, case by case
module _ (dx dy : ℤ) where
  pub aim_equal : (eqb (nat_abs dx) 0 && eqb (nat_abs dy) 0) ≡ true → judged no_direction (refused 9 0 0) ≡ aim_row dx dy
  unfolding aim_row
  aim_equal e = rw e

  pub aim_of : (eqb (nat_abs dx) 0 && eqb (nat_abs dy) 0) ≡ false → answer (direction_of dx dy) ≡ aim_row dx dy
  unfolding aim_row
  aim_of e = rw e
