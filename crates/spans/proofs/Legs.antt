-- A leg that a call was given: the difference of two coordinates, and what the rows 4 and 5 leave. Assumes nothing.
use mathlib.Core.Path.{◌≡◌, refl}
use mathlib.Core.Bool.{Bool, true, false, ◌||◌}
use Prim.Native.Nat.{ℕ, suc, ◌+◌, ◌-◌, ◌≤◌}
use native.Mathlib.Omega.{arith}
use lib.IntN.{ℤ, pos, negsuc, nat_abs}
use lib.Dec.{ltb}
use mir.Syntax.{w32}
use mir.Val.{SFits}
use borrow.Author.Tests.{ltb-false}
use Rattle.laws.proofs.Differences.{diff_pos, diff_size}
use Rattle.laws.proofs.Tests.{or_neither}
use Rattle.board.specs.Limits.{largest_side}
use Rattle.board.proofs.Verdicts.{row_passes, both_pass}
use Rattle.board.specs.Handed.{passes, row, and_then, Handed, unless}
use Rattle.spans.specs.Legs.{step, difference_rows, vertex_rows}

-- ---- from one coordinate to another

pub step_size : (a b : ℕ) → nat_abs (step a b) ≡ (b - a) + (a - b)
step_size a b = diff_size (step a b) b a (diff_pos b a)

pub step_small : {a b : ℕ} → a ≤ largest_side → b ≤ largest_side → nat_abs (step a b) ≤ largest_side
step_small {a} {b} p q = omega (arith, step_size a b)

-- (x, y) is a vertex of the largest board
pub record OnLargest (x y : ℕ) : Type 0 where
  pub x_on : x ≤ largest_side
  pub y_on : y ≤ largest_side

-- ---- small differences fit

pub small_fits : (d : ℤ) → nat_abs d ≤ largest_side → SFits w32 d
small_fits (pos k) h = record { sfits = omega arith }
small_fits (negsuc k) h = record { sfits = omega arith }

-- ---- the rows 4 and 5

-- no refusal has the number 0
pub no_zero : (k : ℕ) → suc k ≡ 0 → ⊥
no_zero k e = omega arith

-- two rows pass where 0 is handed back
passing : {Values : Type 0} (none : Values) (rest : Handed Values) (p q : Bool) → (unless none (and_then (row p 4 0) (row q 5 0)) rest).number ≡ 0
    → and_then (row p 4 0) (row q 5 0) ≡ passes
passing none rest true q e = absurd (no_zero 3 e)
passing none rest false true e = absurd (no_zero 4 e)
passing none rest false false e = refl

-- of two rows that pass neither condition holds
neither : (p q : Bool) → and_then (row p 4 0) (row q 5 0) ≡ passes → (p ≡ false) × (q ≡ false)
neither p q e = let t = both_pass (row p 4 0) (row q 5 0) e in (row_passes p 4 0 t.0, row_passes q 5 0 t.1)

module _ (dx dy : ℤ) where
  pub differences_given : {Values : Type 0} (none : Values) (rest : Handed Values) → (unless none (difference_rows dx dy) rest).number ≡ 0 → difference_rows dx dy ≡ passes
  unfolding difference_rows
  differences_given none rest e = passing none rest (ltb largest_side (nat_abs dx)) (ltb largest_side (nat_abs dy)) e

  -- differences that pass are small
  pub differences_small : difference_rows dx dy ≡ passes → (nat_abs dx ≤ largest_side) × (nat_abs dy ≤ largest_side)
  unfolding difference_rows
  differences_small e =
      let n = neither (ltb largest_side (nat_abs dx)) (ltb largest_side (nat_abs dy)) e in
      (ltb-false largest_side (nat_abs dx) n.0, ltb-false largest_side (nat_abs dy) n.1)

module _ (ax ay bx by : ℕ) where
  pub vertices_given : {Values : Type 0} (none : Values) (rest : Handed Values) → (unless none (vertex_rows ax ay bx by) rest).number ≡ 0
      → vertex_rows ax ay bx by ≡ passes
  unfolding vertex_rows
  vertices_given none rest e = passing none rest (ltb largest_side ax || ltb largest_side ay) (ltb largest_side bx || ltb largest_side by) e

on_largest : (x y : ℕ) → (ltb largest_side x || ltb largest_side y) ≡ false → OnLargest x y
on_largest x y e =
    let n = or_neither (ltb largest_side x) (ltb largest_side y) e in
    record { x_on = ltb-false largest_side x n.0; y_on = ltb-false largest_side y n.1 }

-- vertices that pass are on the largest board
pub vertices_on : (ax ay bx by : ℕ) → vertex_rows ax ay bx by ≡ passes → OnLargest ax ay × OnLargest bx by
unfolding vertex_rows
vertices_on ax ay bx by e =
    let n = neither (ltb largest_side ax || ltb largest_side ay) (ltb largest_side bx || ltb largest_side by) e in
    (on_largest ax ay n.0, on_largest bx by n.1)
