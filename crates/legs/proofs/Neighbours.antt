-- Sight between neighbours in closed form: a diagonal step needs its one cell free, a step along an axis one of two. Assumes nothing.
use Prim.Native.Nat.{ℕ, ◌+◌, ◌≤◌, ◌<◌, min}
use mathlib.Core.Path.{◌≡◌, refl, ap, ◌∙◌}
use mathlib.Core.Logic.{⊎_elim}
use mathlib.Core.Bool.{Bool, true, false, not, ◌&&◌}
use native.Mathlib.Omega.{arith}
use borrow.Author.Tests.{le-leb, leb-true, eqb-true, eq-eqb}
use lib.Dec.{leb, eqb}
use Rattle.laws.proofs.Tests.{order, and_both, and_left, and_right, not_of, not_both}
use Rattle.board.specs.Board.{Board, blocked}
use Rattle.legs.specs.Sight.{crossed, row_wall, column_wall, sees}
use Rattle.legs.specs.Leg.{far, vertex_at, cell_at}
use Rattle.legs.specs.Stops.{is_clear, first_of, cell_stop, place_stop, column_stop, cells_stop, walled, edge_stop, step_stop, edges_stop}
use Rattle.legs.specs.Neighbours.{next_to, neighbours}
use Rattle.legs.specs.Inner.{EndsOn}
use Rattle.legs.proofs.Axis.{cell_up, cell_down}
use Rattle.legs.proofs.Crossing.{cross_in}
use Rattle.legs.proofs.First.{cond_clear, edge_stops, start_clear, first_corner, level_stop, upright_stop, slanted_stop}
use Rattle.legs.proofs.Nearest.{sees_clear}

-- one step along an axis, by its cell
step_cell : (a b : ℕ) → far a b ≡ 1 → cell_at a b 0 ≡ min a b
step_cell a b e =
    ⊎_elim (λ (l : a < b). omega (arith, cell_up a b 0 l)) (λ (g : b ≤ a). omega (arith, cell_down a b 0 g)) (order a b)

module _ (b : Board) (ax ay bx by : ℕ) (on : EndsOn b ax ay bx by) where
  -- the one step of a leg along an axis: its first end does not stop it, and so its edge decides
  step_clear : (level : Bool) (c p q : ℕ) → far p q ≡ 1
      → is_clear (edges_stop b level c p q) ≡ not (walled b level c (min p q))
  unfolding edges_stop step_stop edge_stop first_of
  step_clear level c p q e =
      rw (e, first_corner b level c p q, step_cell p q e)
      (cond_clear (walled b level c (min p q)) _ (edge_stops level c (vertex_at p q 0) (vertex_at p q 1)))

  pub level_step : ay ≡ by → far ax bx ≡ 1 → sees b ax ay bx by ≡ not (row_wall b (min ax bx) ay)
  unfolding walled
  level_step e f = sees_clear b ax ay bx by on ∙ ap is_clear (level_stop b ax ay bx by e) ∙ step_clear true ay ax bx f

  pub upright_step : ax ≡ bx → far ay by ≡ 1 → sees b ax ay bx by ≡ not (column_wall b ax (min ay by))
  unfolding walled
  upright_step e f =
      sees_clear b ax ay bx by on ∙ ap is_clear (upright_stop b ax ay bx by (λ h. omega arith) e) ∙ step_clear false ax ay by f

  pub diagonal_step : far ax bx ≡ 1 → far ay by ≡ 1 → sees b ax ay bx by ≡ not (blocked b (min ax bx) (min ay by))
  unfolding cells_stop column_stop place_stop cell_stop first_of
  diagonal_step e f =
      let x : crossed ax ay bx by (cell_at ax bx 0) (cell_at ay by 0) ≡ true =
      cross_in ax ay bx by 0 0 (omega arith) (omega arith) (omega arith, omega arith) in
      sees_clear b ax ay bx by on ∙ ap is_clear (slanted_stop b ax ay bx by (λ h. omega arith) (λ h. omega arith))
      ∙ rw (e, f, start_clear b ax ay bx by, x, step_cell ax bx e, step_cell ay by f)
      (cond_clear (blocked b (min ax bx) (min ay by)) _ refl)

-- neighbours differ by at most 1 each way, and by 1 in some way
module _ (ax ay bx by : ℕ) (h : neighbours ax ay bx by ≡ true) where
  neighbours_parts : (not (eqb ax bx && eqb ay by) ≡ true) × (next_to ax bx ≡ true) × (next_to ay by ≡ true)
  unfolding neighbours
  neighbours_parts =
      let p : Bool = not (eqb ax bx && eqb ay by) in
      let q : Bool = next_to ax bx && next_to ay by in
      let r = and_right p q h in
      (and_left p q h, and_left (next_to ax bx) (next_to ay by) r, and_right (next_to ax bx) (next_to ay by) r)

  pub neighbours_near : (far ax bx ≤ 1) × (far ay by ≤ 1)
  neighbours_near = let (n, x, y) = neighbours_parts in (next_far ax bx x, next_far ay by y)
    where
      next_far : (a b : ℕ) → next_to a b ≡ true → far a b ≤ 1
      next_far a b e =
          let p : Bool = leb a (b + 1) in
          let q : Bool = leb b (a + 1) in
          omega (arith, leb-true a (b + 1) (and_left p q e), leb-true b (a + 1) (and_right p q e))

  pub neighbours_differ : ax ≡ bx → ay ≡ by → ⊥
  neighbours_differ e f =
      not_both (eqb ax bx) (eqb ay by) neighbours_parts.0 (eq-eqb ax bx e) (eq-eqb ay by f)

-- and vertices that do so are neighbours
pub neighbours_of : (ax ay bx by : ℕ) → far ax bx ≤ 1 → far ay by ≤ 1 → (ax ≡ bx → ay ≡ by → ⊥) → neighbours ax ay bx by ≡ true
unfolding neighbours
neighbours_of ax ay bx by h k differ =
    and_both
    (not_of (eqb ax bx && eqb ay by) (λ q.
    differ (eqb-true ax bx (and_left (eqb ax bx) (eqb ay by) q)) (eqb-true ay by (and_right (eqb ax bx) (eqb ay by) q))))
    (and_both (next ax bx h) (next ay by k))
  where
    next : (a b : ℕ) → far a b ≤ 1 → next_to a b ≡ true
    next a b h = and_both (le-leb a (b + 1) (omega arith)) (le-leb b (a + 1) (omega arith))
