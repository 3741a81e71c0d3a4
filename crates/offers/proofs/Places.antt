-- Vertices by place and by number: what the problem of a board says of them, and which vertices are beside one. Assumes nothing.
use mathlib.Core.Path.{◌≡◌, refl, sym, ap, ◌∙◌}
use mathlib.Core.Logic.{◌≢◌}
use mathlib.Core.Bool.{Bool, true, false, not, ◌&&◌, ◌||◌, and-true}
use Prim.Native.Nat.{ℕ, ◌+◌, ◌*◌, ◌≤◌, ◌<◌}
use native.Mathlib.Nat.{suc-mul, mul-le-mul_right}
use native.Mathlib.Omega.{arith}
use native.Mathlib.Decide.{ℕ_discrete}
use lib.Dec.{eqb, leb}
use borrow.Author.Tests.{ne_eqb, lt-ltb, le-leb}
use Rattle.laws.proofs.Tests.{and_both, and_false}
use Rattle.board.specs.Board.{Board, vertices, number_of, column_of, row_of, column, row}
use Rattle.board.proofs.Numbers.{number_below, column_number, row_number}
use Rattle.spans.specs.Legs.{step}
use Rattle.length.specs.Units.{units}
use Rattle.legs.specs.Sight.{sees}
use Rattle.legs.specs.Pinched.{pinched, admitted}
use Rattle.legs.specs.Neighbours.{neighbours, visible}
use Rattle.legs.proofs.Visible.{visible_neighbours, visible_sees, visible_below}
use Rattle.reach.specs.Turns.{at}
use Rattle.offers.specs.declared.request.Request.{Request}
use Rattle.offers.specs.declared.Spot.{Spot}
use Rattle.theta.specs.Search.{State}
use Rattle.problem.specs.Problem.{problem}
use Rattle.problem.proofs.Admitted.{reached_admitted}
use Rattle.offers.specs.Request.{board_of, asked, admits, size_of, Placed}
use Rattle.offers.specs.Offers.{Taken, Offered, Beside}

-- a row ends within the rows
pub rows_le : (wide rows y : ℕ) → y < rows → y * wide + wide ≤ rows * wide
rows_le wide rows y l = rw (sym (suc-mul y wide)) (mul-le-mul_right wide l)

-- ---- by number

module _ {b : Board} {s : Spot} (P : Placed b s) where
  pub placed_below : s.number < vertices b
  placed_below = rw P.numbered (number_below b.width b.height s.x s.y P.on.x_on P.on.y_on)

  placed_column : column b s.number ≡ s.x
  placed_column = ap (column_of b.width) P.numbered ∙ column_number b.width s.x s.y P.on.x_on

  placed_row : row b s.number ≡ s.y
  placed_row = ap (row_of b.width) P.numbered ∙ row_number b.width s.x s.y P.on.x_on

-- the same place has the same number, and the other way round
same_place : {b : Board} {s t : Spot} → Placed b s → Placed b t → s.x ≡ t.x → s.y ≡ t.y → s.number ≡ t.number
same_place P Q e f = P.numbered ∙ rw (e, f) (sym Q.numbered)

module _ (b : Board) (sx sy gx gy : ℕ) where
  module _ {s t : Spot} (P : Placed b s) (Q : Placed b t) where
    sees_placed : (problem b sx sy gx gy).sees s.number t.number ≡ sees b s.x s.y t.x t.y
    unfolding problem
    sees_placed = rw (placed_column P, placed_row P, placed_column Q, placed_row Q) refl

    len_placed : (problem b sx sy gx gy).len s.number t.number ≡ units (step s.x t.x) (step s.y t.y)
    unfolding problem
    len_placed = rw (placed_column P, placed_row P, placed_column Q, placed_row Q) refl

  -- the leg from the parent or from u itself, as the sight test tells, is what w is offered
  module _ {from u w : Spot} (F : Placed b from) (U : Placed b u) (W : Placed b w)
      {seen : Bool} (told : seen ≡ sees b from.x from.y w.x w.y) {parent length : ℕ} where
    pub offered_parent : seen ≡ true → parent ≡ from.number → length ≡ units (step from.x w.x) (step from.y w.y)
        → Offered (problem b sx sy gx gy) u.number from.number w.number parent length
    offered_parent e f g =
        record { parent_is = rw (sees_placed F W, ← told, e) f; units_are = rw f (g ∙ sym (len_placed F W)) }

    pub offered_own : seen ≡ false → parent ≡ u.number → length ≡ units (step u.x w.x) (step u.y w.y)
        → Offered (problem b sx sy gx gy) u.number from.number w.number parent length
    offered_own e f g =
        record { parent_is = rw (sees_placed F W, ← told, e) f; units_are = rw f (g ∙ sym (len_placed U W)) }

  -- a spot that is not pinched is admitted; one that is pinched, if it is the start or the goal
  module _ {s : Spot} (P : Placed b s) {r : Bool} (e : r ≡ pinched b s.x s.y) where
    pub open_admitted : r ≡ false → true ≡ admitted b (number_of b.width sx sy) (number_of b.width gx gy) s.number
    unfolding admitted
    open_admitted z = rw (placed_column P, placed_row P, ← e, z) refl

    pub pinched_admitted : r ≡ true → {v w : ℕ} → v ≡ number_of b.width sx sy
        → w ≡ number_of b.width gx gy
        → (eqb s.number v || eqb s.number w) ≡ admitted b (number_of b.width sx sy) (number_of b.width gx gy) s.number
    unfolding admitted
    pinched_admitted z f g = rw (placed_column P, placed_row P, ← e, z, f, g) refl

-- ---- beside a vertex

module _ {b : Board} {u w : Spot} (P : Placed b u) (B : Beside b u w) (d : w.number ≢ u.number) where
  beside_neighbours : neighbours u.x u.y w.x w.y ≡ true
  unfolding neighbours
  beside_neighbours = and_both (differ (ℕ_discrete u.x w.x) (ℕ_discrete u.y w.y)) (and_both (and_both left right) (and_both above below))
    where
      left : leb u.x (w.x + 1) ≡ true
      left = le-leb u.x (w.x + 1) B.left

      right : leb w.x (u.x + 1) ≡ true
      right = le-leb w.x (u.x + 1) B.right

      above : leb u.y (w.y + 1) ≡ true
      above = le-leb u.y (w.y + 1) B.above

      below : leb w.y (u.y + 1) ≡ true
      below = le-leb w.y (u.y + 1) B.below

      differ : Dec (u.x ≡ w.x) → Dec (u.y ≡ w.y) → not (eqb u.x w.x && eqb u.y w.y) ≡ true
      differ (yes e) (yes f) = absurd (d (same_place B.placed P (sym e) (sym f)))
      differ (no e) f = rw (ne_eqb u.x w.x e) refl
      differ (yes e) (no f) = rw (ne_eqb u.y w.y f, and_false (eqb u.x w.x) refl) refl

  -- it is near if it is admitted, where u is admitted
  pub beside_near : (sx sy gx gy : ℕ) → admitted b (number_of b.width sx sy) (number_of b.width gx gy) u.number ≡ true
      → admitted b (number_of b.width sx sy) (number_of b.width gx gy) w.number ≡ (problem b sx sy gx gy).near u.number w.number
  unfolding problem visible
  beside_near sx sy gx gy e =
      rw (
        placed_column P,
        placed_row P,
        placed_column B.placed,
        placed_row B.placed,
        lt-ltb u.number (vertices b) (placed_below P),
        lt-ltb w.number (vertices b) (placed_below B.placed),
        beside_neighbours,
        e,
        B.seen,
      ) (sym (and-true (admitted b (number_of b.width sx sy) (number_of b.width gx gy) w.number)))

-- ---- near it

module _ (b : Board) (sx sy gx gy : ℕ) {u : Spot} (P : Placed b u) (v : ℕ) (h : (problem b sx sy gx gy).near u.number v ≡ true) where
  pub near_neighbours : neighbours u.x u.y (column_of b.width v) (row_of b.width v) ≡ true
  unfolding problem
  near_neighbours = rw (placed_column P, placed_row P) at (visible_neighbours b _ _ u.number v h)

  pub near_seen : sees b u.x u.y (column_of b.width v) (row_of b.width v) ≡ true
  unfolding problem
  near_seen = rw (placed_column P, placed_row P) at (visible_sees b _ _ u.number v h)

  pub near_below : v < vertices b
  unfolding problem
  near_below = visible_below b _ _ u.number v h

-- ---- the vertices that have been seen are admitted, and the taken one among them

module _ {q : Request} {u from : Spot} {s : State} (T : Taken q u from s) where
  pub seen_admitted : (v : ℕ) → v < size_of q → at s.mark v ≢ 0 → admits q v ≡ true
  unfolding problem
  seen_admitted v l h = reached_admitted (board_of q) _ _ (T.ready.reached v l h)

  pub taken_admitted : admits q u.number ≡ true
  taken_admitted = seen_admitted u.number (placed_below T.placed) (λ e. omega (arith, T.ready.done))
