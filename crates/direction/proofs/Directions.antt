-- What document 01 says of a leg's direction, shown of what the calls hand back with number 0. Assumes nothing.
use mathlib.Core.Path.{◌≡◌, refl, ap, ◌∙◌, subst}
use mathlib.Core.Bool.{Bool, true, false, ◌&&◌}
use Prim.Native.Nat.{ℕ, zero, suc, ◌+◌, ◌*◌, ◌<◌}
use native.Mathlib.Nat.{zero-lt-suc}
use native.Mathlib.Omega.{arith}
use lib.IntN.{ℤ, pos, nat_abs}
use lib.Signed.{lt_z}
use lib.Dec.{eqb}
use lib.Ieee.{fin}
use Rattle.board.specs.Handed.{row, answer, unless}
use Rattle.length.specs.Units.{square, units}
use Rattle.spans.specs.Legs.{step}
use Rattle.direction.specs.Answers.{quotient, no_direction, direction_of, aim_row, direction_row, direction_between_row}
use Rattle.direction.specs.Directions.{Directed}
use Rattle.length.proofs.Units.{units_level, units_upright, units_width, units_height, units_positive, different}
use Rattle.direction.proofs.Floats.{quotient_zero, quotient_axis, quotient_most}
use Rattle.spans.proofs.Legs.{no_zero, differences_given, vertices_given}

-- a size whose square is not 0
some : (n : ℕ) → 0 < n * n + 0 * 0 → 0 < n
some zero h = absurd (no h)
  where
    no : 0 < 0 * 0 + 0 * 0 → ⊥
    no h = omega arith
some (suc n) h = zero-lt-suc n

module _ (dx dy : ℤ) (p : 0 < square dx dy) where
  -- along an axis the length is the difference itself
  level : dy ≡ pos 0 → quotient dx (units dx dy) ≡ fin (lt_z dx (pos 0)) 1 (pos 0)
  level e =
      let q : 0 < square dx (pos 0) = subst (λ (z : ℤ). 0 < square dx z) e p in
      rw (e, units_level dx) (quotient_axis dx (some (nat_abs dx) q))

  upright : dx ≡ pos 0 → quotient dy (units dx dy) ≡ fin (lt_z dy (pos 0)) 1 (pos 0)
  upright e =
      let q : 0 < square dy (pos 0) = omega (arith, subst (λ (z : ℤ). 0 < square z dy) e p) in
      rw (e, units_upright dy) (quotient_axis dy (some (nat_abs dy) q))

directed : (dx dy : ℤ) → 0 < square dx dy → Directed dx dy (direction_of dx dy)
directed dx dy p =
    let u = units dx dy in
    let U : 0 < u = units_positive (square dx dy) p in
    record {
      zero_x = λ e. ap (λ (z : ℤ). quotient z u) e ∙ quotient_zero u U;
      zero_y = λ e. ap (λ (z : ℤ). quotient z u) e ∙ quotient_zero u U;
      axis_x = level dx dy p;
      axis_y = upright dx dy p;
      most_x = quotient_most dx u U (units_width (nat_abs dx) (nat_abs dy));
      most_y = quotient_most dy u U (units_height (nat_abs dx) (nat_abs dy));
    }

-- row 9 has passed
aimed : (dx dy : ℤ) → (aim_row dx dy).number ≡ 0 → Directed dx dy (aim_row dx dy).values
unfolding aim_row
aimed dx dy = go (eqb (nat_abs dx) 0 && eqb (nat_abs dy) 0) refl
  where
    go : (b : Bool) → (eqb (nat_abs dx) 0 && eqb (nat_abs dy) 0) ≡ b → (unless no_direction (row b 9 0) (answer (direction_of dx dy))).number ≡ 0
        → Directed dx dy (unless no_direction (row b 9 0) (answer (direction_of dx dy))).values
    go true f e = absurd (no_zero 8 e)
    go false f e = directed dx dy (different (nat_abs dx) (nat_abs dy) f)

-- of `Direction::of`
pub directions : (dx dy : ℤ) → (direction_row dx dy).number ≡ 0 → Directed dx dy (direction_row dx dy).values
unfolding direction_row
directions dx dy e =
    let v = differences_given dx dy no_direction (aim_row dx dy) e in
    rw v (aimed dx dy (rw v at e))

-- of `Direction::between`
pub directions_between : (ax ay bx by : ℕ) → (direction_between_row ax ay bx by).number ≡ 0
    → Directed (step ax bx) (step ay by) (direction_between_row ax ay bx by).values
unfolding direction_between_row
directions_between ax ay bx by e =
    let v = vertices_given ax ay bx by no_direction (aim_row (step ax bx) (step ay by)) e in
    rw v (aimed (step ax bx) (step ay by) (rw v at e))
