-- A leg has sight exactly if nothing blocks it. Assumes nothing.
use Prim.Native.Nat.{ℕ, ◌+◌, ◌≤◌, ◌<◌, min}
use mathlib.Core.Path.{◌≡◌, refl}
use mathlib.Core.Logic.{inl}
use mathlib.Core.Bool.{Bool, true, false, not, ◌&&◌, ◌||◌, false≢true}
use native.Mathlib.Omega.{arith}
use borrow.Author.Tests.{lt-ltb, ltb-true, eqb-true, eq-eqb}
use lib.Dec.{ltb, eqb}
use Rattle.laws.specs.Below.{every}
use Rattle.laws.proofs.Below.{every_at, every_of}
use Rattle.laws.proofs.Tests.{and_both, and_left, and_right, not_both, not_of}
use Rattle.board.specs.Board.{Board, is_cell, blocked}
use Rattle.legs.specs.declared.Stop.{Stop}
use Rattle.legs.specs.declared.Stop.TheVariants.{Cell, Edge, Vertex}
use Rattle.legs.specs.Pinched.{pinched}
use Rattle.legs.specs.Sight.{crossed, row_wall, column_wall, between, cells_free, edges_open, strictly_inside, vertices_open, sees}
use Rattle.legs.specs.Nearer.{Blocks, cell, level, upright, vertex}
use Rattle.legs.specs.Inner.{EndsOn}
use Rattle.legs.proofs.Axis.{axis_on}
use Rattle.legs.proofs.Crossing.{cross_placed, axis_uncrossed}
use Rattle.legs.proofs.Inside.{none_inside}
use Rattle.legs.proofs.Pinches.{pinched_inside}
use Rattle.legs.proofs.UnitEdges.{between_out, edge_of, no_unit_edge}

-- ---- the unit edges of a leg whose ends have one coordinate in common, if they have

open_at : (same : Bool) (p q size : ℕ) (wall : ℕ → Bool)
    → (not same || every size (λ (k : ℕ). not (between p q k && wall k))) ≡ true
    → same ≡ true → (k : ℕ) → k < size → between p q k ≡ true → wall k ≡ true → ⊥
open_at true p q size wall h e k l = not_both (between p q k) (wall k) (every_at _ size h k l)
open_at false p q size wall h e k l = absurd (false≢true e)

open_of : (same : Bool) (p q size : ℕ) (wall : ℕ → Bool) → (same ≡ true → (k : ℕ) → between p q k ≡ true → wall k ≡ true → ⊥)
    → (not same || every size (λ (k : ℕ). not (between p q k && wall k))) ≡ true
open_of true p q size wall none =
    every_of _ size (λ k l. not_of (between p q k && wall k) (λ w.
    none refl k (and_left (between p q k) (wall k) w) (and_right (between p q k) (wall k) w)))
open_of false p q size wall none = refl

edge_on : (p q k size : ℕ) → between p q k ≡ true → p ≤ size → q ≤ size → k < size
edge_on p q k size e hp hq = omega (arith, between_out p q k e)

module _ (b : Board) (ax ay bx by : ℕ) where
  abbrev level_open : Bool
  level_open = not (eqb ay by) || every b.width (λ (x : ℕ). not (between ax bx x && row_wall b x ay))

  abbrev upright_open : Bool
  upright_open = not (eqb ax bx) || every b.height (λ (y : ℕ). not (between ay by y && column_wall b ax y))

  -- a leg between vertices of the board crosses no cell outside it
  pub crossed_on_board : EndsOn b ax ay bx by → (i j : ℕ) → crossed ax ay bx by i j ≡ true → is_cell b i j ≡ true
  crossed_on_board on i j x =
      let ((u, hu, ei), (v, hv, ej)) = cross_placed ax ay bx by i j x in
      and_both (lt-ltb i b.width (rw ei at (axis_on ax bx u hu b.width on.first.x_on on.second.x_on)))
      (lt-ltb j b.height (rw ej at (axis_on ay by v hv b.height on.first.y_on on.second.y_on)))

  -- ---- a leg with sight

  module _ (h : sees b ax ay bx by ≡ true) where
    parts : (cells_free b ax ay bx by ≡ true) × (level_open ≡ true) × (upright_open ≡ true) × (vertices_open b ax ay bx by ≡ true)
    unfolding sees edges_open
    parts =
        let c : Bool = cells_free b ax ay bx by in
        let v : Bool = vertices_open b ax ay bx by in
        let l = and_left (c && (level_open && upright_open)) v h in
        let e = and_right c (level_open && upright_open) l in
        let w = and_right (c && (level_open && upright_open)) v h in
        (and_left c (level_open && upright_open) l, and_left level_open upright_open e, and_right level_open upright_open e, w)

    -- it has no pinched vertex strictly inside
    pub inside_unpinched : (x y : ℕ) → strictly_inside ax ay bx by x y ≡ true → pinched b x y ≡ true → ⊥
    unfolding vertices_open
    inside_unpinched x y i w =
        let (hx, hy) = pinched_inside b x y w in
        not_both (strictly_inside ax ay bx by x y) (pinched b x y)
        (every_at _ (b.width + 1) (every_at _ (b.height + 1) parts.3 y (omega arith)) x (omega arith)) i w

  module _ (on : EndsOn b ax ay bx by) (h : sees b ax ay bx by ≡ true) where
    -- it crosses no blocked cell
    cell_free : (i j : ℕ) → crossed ax ay bx by i j ≡ true → blocked b i j ≡ true → ⊥
    unfolding cells_free
    cell_free i j x w =
        let c = crossed_on_board on i j x in
        let hi = ltb-true i b.width (and_left (ltb i b.width) (ltb j b.height) c) in
        let hj = ltb-true j b.height (and_right (ltb i b.width) (ltb j b.height) c) in
        not_both (crossed ax ay bx by i j) (blocked b i j)
        (every_at _ b.width (every_at _ b.height (parts h).0 j hj) i hi) x w

    pub sees_unblocked : (t : Stop) → Blocks b ax ay bx by t → ⊥
    sees_unblocked _ (cell {i} {j} x w) = cell_free i j x w
    sees_unblocked _ (level {p} {q} e edge w) =
        let below = edge_on ax bx (min p q) b.width edge.on on.first.x_on on.second.x_on in
        open_at (eqb ay by) ax bx b.width (λ (x : ℕ). row_wall b x ay) (parts h).1 (eq-eqb ay by e) (min p q) below edge.on w
    sees_unblocked _ (upright {p} {q} e edge w) =
        let below = edge_on ay by (min p q) b.height edge.on on.first.y_on on.second.y_on in
        open_at (eqb ax bx) ay by b.height (column_wall b ax) (parts h).2 (eq-eqb ax bx e) (min p q) below edge.on w
    sees_unblocked _ (vertex {x} {y} i w) = inside_unpinched h x y i w

  -- ---- a leg that nothing blocks

  module _ (none : (t : Stop) → Blocks b ax ay bx by t → ⊥) where
    all_free : cells_free b ax ay bx by ≡ true
    unfolding cells_free
    all_free =
        every_of _ b.height (λ j hj. every_of _ b.width (λ i hi.
        let x : Bool = crossed ax ay bx by i j in
        let w : Bool = blocked b i j in
        not_of (x && w) (λ q. none (Cell i j) (cell (and_left x w q) (and_right x w q)))))

    level_open_lem : level_open ≡ true
    level_open_lem =
        open_of (eqb ay by) ax bx b.width (λ (x : ℕ). row_wall b x ay) (λ e k h w.
        let (p, q, edge, f) = edge_of ax bx k h in
        none (Edge p ay q ay) (level (eqb-true ay by e) edge (rw f w)))

    upright_open_lem : upright_open ≡ true
    upright_open_lem =
        open_of (eqb ax bx) ay by b.height (column_wall b ax) (λ e k h w.
        let (p, q, edge, f) = edge_of ay by k h in
        none (Edge ax p ax q) (upright (eqb-true ax bx e) edge (rw f w)))

    all_unpinched : vertices_open b ax ay bx by ≡ true
    unfolding vertices_open
    all_unpinched =
        every_of _ (b.height + 1) (λ y hy. every_of _ (b.width + 1) (λ x hx.
        let i : Bool = strictly_inside ax ay bx by x y in
        let w : Bool = pinched b x y in
        not_of (i && w) (λ q. none (Vertex x y) (vertex (and_left i w q) (and_right i w q)))))

    pub unblocked_sees : sees b ax ay bx by ≡ true
    unfolding sees edges_open
    unblocked_sees = and_both (and_both all_free (and_both level_open_lem upright_open_lem)) all_unpinched

-- a vertex has sight of itself
pub sees_itself : (b : Board) (x y : ℕ) → sees b x y x y ≡ true
sees_itself b x y = unblocked_sees b x y x y none
  where
    none : (t : Stop) → Blocks b x y x y t → ⊥
    none _ (cell c w) = axis_uncrossed x y x y _ _ (inl refl) c
    none _ (level e edge w) = no_unit_edge x x _ _ refl edge
    none _ (upright e edge w) = no_unit_edge y y _ _ refl edge
    none _ (vertex i w) = none_inside x y x y _ _ (omega arith) (omega arith) i
