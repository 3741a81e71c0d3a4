-- Single moves: from any corner of a free cell to any other, and along any unit edge with a free side; they join visible
-- neighbours. Assumes nothing.
use Prim.Native.Nat.{ℕ, ◌+◌, ◌-◌, ◌≤◌, ◌<◌, min}
use mathlib.Core.Path.{◌≡◌, refl, ◌∙◌}
use mathlib.Core.Logic.{⊎_elim}
use mathlib.Core.Bool.{Bool, true, false, ◌&&◌, ◌||◌}
use native.Mathlib.Nat.{eq-or-lt_of_le}
use native.Mathlib.Omega.{arith}
use borrow.Author.Tests.{ne_eqb}
use lib.Dec.{eqb}
use Rattle.laws.proofs.Tests.{order, and_false}
use Rattle.board.specs.Board.{Board, blocked, number, column, row}
use Rattle.board.specs.Inner.{OnBoard}
use Rattle.board.proofs.Numbers.{number_below, column_number, row_number}
use Rattle.board.proofs.Cells.{free_cell}
use Rattle.legs.specs.Pinched.{admitted}
use Rattle.legs.specs.Sight.{row_wall, column_wall, sees}
use Rattle.legs.specs.Leg.{far}
use Rattle.legs.specs.Neighbours.{neighbours, visible}
use Rattle.legs.specs.Inner.{EndsOn}
use Rattle.legs.proofs.Corners.{CornerOf}
use Rattle.legs.proofs.Neighbours.{level_step, upright_step, diagonal_step, neighbours_of}
use Rattle.legs.proofs.Visible.{visible_of}

-- a single move: from a vertex of the board to a neighbour that it has sight of
pub record Move (b : Board) (ax ay bx by : ℕ) : Type 0 where
  pub ends : EndsOn b ax ay bx by
  pub neighbour : neighbours ax ay bx by ≡ true
  pub seen : sees b ax ay bx by ≡ true

-- it joins visible neighbours, where both ends are admitted
pub move_visible : (b : Board) (start goal : ℕ) {ax ay bx by : ℕ} → Move b ax ay bx by
    → admitted b start goal (number b ax ay) ≡ true → admitted b start goal (number b bx by) ≡ true
    → visible b start goal (number b ax ay) (number b bx by) ≡ true
move_visible b start goal {ax} {ay} {bx} {by} M f g =
    let A = M.ends.first in
    let B = M.ends.second in
    let u : ℕ = number b ax ay in
    let v : ℕ = number b bx by in
    let n : neighbours (column b u) (row b u) (column b v) (row b v) ≡ true =
    rw (column_number b.width ax ay A.x_on, row_number b.width ax ay A.x_on, column_number b.width bx by B.x_on, row_number b.width bx by B.x_on)
    M.neighbour in
    let s : sees b (column b u) (row b u) (column b v) (row b v) ≡ true =
    rw (column_number b.width ax ay A.x_on, row_number b.width ax ay A.x_on, column_number b.width bx by B.x_on, row_number b.width bx by B.x_on)
    M.seen in
    visible_of b start goal u v (number_below b.width b.height ax ay A.x_on A.y_on)
    (number_below b.width b.height bx by B.x_on B.y_on) f g n s

-- ---- along a unit edge

module _ (b : Board) where
  pub level_move : (x x' y : ℕ) → EndsOn b x y x' y → far x x' ≡ 1 → row_wall b (min x x') y ≡ false → Move b x y x' y
  level_move x x' y on e clear = record {
    ends = on;
    neighbour = neighbours_of x y x' y (omega arith) (omega arith) (λ h k. omega arith);
    seen = level_step b x y x' y on refl e ∙ rw clear;
  }

  pub upright_move : (x y y' : ℕ) → EndsOn b x y x y' → far y y' ≡ 1 → column_wall b x (min y y') ≡ false → Move b x y x y'
  upright_move x y y' on e clear = record {
    ends = on;
    neighbour = neighbours_of x y x y' (omega arith) (omega arith) (λ h k. omega arith);
    seen = upright_step b x y x y' on refl e ∙ rw clear;
  }

-- ---- in a free cell

-- an edge beside a line's free cell j is no wall
open_edge : (line : ℕ → Bool) (j y : ℕ) → line j ≡ false → j ≤ y → y ≤ j + 1 → ((eqb y 0 || line (y - 1)) && line y) ≡ false
open_edge line j y free h k =
    ⊎_elim (λ (e : j ≡ y). and_false (eqb y 0 || line (y - 1)) (rw (← e) free))
    (λ (l : j < y). let z : y - 1 ≡ j = omega arith in rw (ne_eqb y 0 (λ e. omega arith), z, free)) (eq-or-lt_of_le h)

module _ (b : Board) {i j : ℕ} (free : blocked b i j ≡ false) where
  -- its corners are on the board
  corner_board : {x y : ℕ} → CornerOf i j x y → OnBoard b x y
  corner_board c = let f = free_cell b free in record { x_on = omega (arith, c.right); y_on = omega (arith, c.bottom) }

  module _ {x y x' y' : ℕ} (c : CornerOf i j x y) (c' : CornerOf i j x' y') (differ : x ≡ x' → y ≡ y' → ⊥) where
    on : EndsOn b x y x' y'
    on = record { first = corner_board c; second = corner_board c' }

    -- each of its edges has a free side, and a diagonal crosses it alone
    corners_see : sees b x y x' y' ≡ true
    unfolding row_wall column_wall
    corners_see =
        ⊎_elim
        (λ (l : far x x' < 1).
        let e : x ≡ x' = omega arith in
        let d : y ≡ y' → ⊥ = differ e in
        let m : min y y' ≡ j = omega (arith, c, c') in
        upright_step b x y x' y' on e (omega (arith, c, c'))
        ∙ rw (m, open_edge (λ (i : ℕ). blocked b i j) i x free c.left c.right))
        (λ (l : 1 ≤ far x x').
        let m : min x x' ≡ i = omega (arith, c, c') in
        ⊎_elim
        (λ (k : far y y' < 1).
        level_step b x y x' y' on (omega arith) (omega (arith, c, c'))
        ∙ rw (m, open_edge (λ (j : ℕ). blocked b i j) j y free c.top c.bottom))
        (λ (k : 1 ≤ far y y').
        let w : min y y' ≡ j = omega (arith, c, c') in
        diagonal_step b x y x' y' on (omega (arith, c, c')) (omega (arith, c, c')) ∙ rw (m, w, free))
        (order (far y y') 1))
        (order (far x x') 1)

    -- from corner to corner
    pub corner_move : Move b x y x' y'
    corner_move = record {
      ends = on;
      neighbour = neighbours_of x y x' y' (omega (arith, c, c')) (omega (arith, c, c')) differ;
      seen = corners_see;
    }
