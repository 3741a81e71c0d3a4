-- Sight of the eight neighbours: each is seen where not all cells beside the step to it are shut. Assumes nothing.
use Prim.Native.Nat.{ℕ, zero, suc, ◌+◌, ◌-◌, ◌/◌, ◌%◌, ◌≤◌, ◌<◌, min, max}
use mathlib.Core.Path.{◌≡◌, refl, sym, ap, ap₂, ◌∙◌}
use mathlib.Core.Logic.{◌≢◌, ◌⊎◌, inl, inr, ⊎_elim}
use mathlib.Core.Bool.{Bool, true, false, not, ◌&&◌, and_self}
use native.Mathlib.Omega.{arith}
use native.Mathlib.Nat.{add-zero}
use Rattle.laws.proofs.Tests.{order, and_both}
use Rattle.board.specs.Board.{Board, blocked}
use Rattle.board.specs.Inner.{OnBoard}
use Rattle.legs.specs.Leg.{far}
use Rattle.legs.specs.Inner.{EndsOn}
use Rattle.legs.specs.Sight.{row_wall, column_wall, sees}
use Rattle.legs.proofs.Neighbours.{level_step, upright_step, diagonal_step}
use Rattle.guard.specs.Guard.{shut_above}
use Rattle.glance.specs.Glance.{four_cells, InSight, Glanced}
use Rattle.glance.proofs.Bits.{answer, hidden, pick, cell_of, told, told_in, place_of, answer_bit}
use Rattle.guard.proofs.Shut.{free_above, shut_cell}
use Rattle.glance.proofs.Cells.{shut_row, shut_column}

-- the cells beside a step: two along an axis, else the same one twice
abbrev beside : Board → (x y p q : ℕ) → Bool
beside b x y p q = shut_above b (max x p) (max y q) && shut_above b (min x p + 1) (min y q + 1)

module _ (b : Board) (x y p q : ℕ) (on : EndsOn b x y p q) where
  -- along a row, along a column, and across
  level : far x p ≡ 1 → y ≡ q → sees b x y p q ≡ not (beside b x y p q)
  unfolding row_wall
  level h e =
      let c : max x p ≡ min x p + 1 = omega arith in
      let r : max y q ≡ y = omega arith in
      let s : min y q ≡ y = omega arith in
      level_step b x y p q on e h ∙ sym (rw (c, r, s, shut_row b (min x p) y, shut_cell b (min x p) y refl refl))

  upright : x ≡ p → far y q ≡ 1 → sees b x y p q ≡ not (beside b x y p q)
  unfolding column_wall
  upright e h =
      let c : max y q ≡ min y q + 1 = omega arith in
      let r : max x p ≡ x = omega arith in
      let s : min x p ≡ x = omega arith in
      upright_step b x y p q on e h ∙ sym (rw (c, r, s, shut_column b x (min y q), shut_cell b x (min y q) refl refl))

  diagonal : far x p ≡ 1 → far y q ≡ 1 → sees b x y p q ≡ not (beside b x y p q)
  diagonal h k =
      let c : max x p ≡ min x p + 1 = omega arith in
      let r : max y q ≡ min y q + 1 = omega arith in
      diagonal_step b x y p q on h k ∙ sym (rw (c, r, shut_cell b (min x p) (min y q) refl refl, and_self (blocked b (min x p) (min y q))))

  -- a neighbour is seen where not all cells beside the step are shut
  pub neighbour_sight : far x p ≤ 1 → far y q ≤ 1 → (x ≡ p → y ≡ q → ⊥) → sees b x y p q ≡ not (beside b x y p q)
  neighbour_sight h k differ =
      ⊎_elim (λ (l : far x p < 1). let e : x ≡ p = omega arith in let d : y ≡ q → ⊥ = differ e in upright e (omega arith))
      (λ (g : 1 ≤ far x p).
      ⊎_elim (λ (l : far y q < 1). level (omega arith) (omega arith)) (λ (m : 1 ≤ far y q). diagonal (omega arith) (omega arith)) (order (far y q) 1))
      (order (far x p) 1)

-- of two lines side by side, the one u on
pick_at : (line : ℕ → Bool) (a u : ℕ) → u ≤ 1 → pick (line a) (line (a + 1)) u ≡ line (a + u)
pick_at line a zero h = ap line (sym (add-zero a))
pick_at line a (suc zero) h = refl
pick_at line a (suc (suc u)) h = absurd (omega arith)

-- of two cells that are not both shut one is free
one_free : (s t : Bool) → (s && t) ≡ false → (s ≡ false) ⊎ (t ≡ false)
one_free true t h = inr h
one_free false t h = inl refl

module _ (b : Board) (x y : ℕ) (at : OnBoard b x y) where
  -- the four cells round (x, y)
  abbrev nw : Bool
  nw = shut_above b x y

  abbrev ne : Bool
  ne = shut_above b (x + 1) y

  abbrev sw : Bool
  sw = shut_above b x (y + 1)

  abbrev se : Bool
  se = shut_above b (x + 1) (y + 1)

  abbrev cell : ℕ → ℕ → Bool
  cell = cell_of nw ne sw se

  cell_at_lem : (u v : ℕ) → u ≤ 1 → v ≤ 1 → cell u v ≡ shut_above b (x + u) (y + v)
  cell_at_lem u v h k =
      pick_at (λ (j : ℕ). pick (shut_above b x j) (shut_above b (x + 1) j) u) y v k ∙ pick_at (λ (i : ℕ). shut_above b i (y + v)) x u h

  -- the neighbour in the column i and the row j of the places
  module _ (i j : ℕ) (h : i ≤ 2) (k : j ≤ 2) where
    hidden_at : hidden cell i j ≡ (shut_above b (x + i / 2) (y + j / 2) && shut_above b (x + (i + 1) / 2) (y + (j + 1) / 2))
    hidden_at = ap₂ ◌&&◌ (cell_at_lem (i / 2) (j / 2) (omega arith) (omega arith)) (cell_at_lem ((i + 1) / 2) ((j + 1) / 2) (omega arith) (omega arith))

    -- is a vertex of the board
    abbrev Stands : Type 0
    Stands = ((1 ≤ x + i) × (1 ≤ y + j)) × OnBoard b (x + i - 1) (y + j - 1)

    -- it is one where a cell beside the step is free
    stands_by : (u v : ℕ) → (i / 2 ≤ u) × (u ≤ (i + 1) / 2) → (j / 2 ≤ v) × (v ≤ (j + 1) / 2) → shut_above b (x + u) (y + v) ≡ false → Stands
    stands_by u v c r s = let f = free_above b (x + u) (y + v) s in ((omega arith, omega arith), record { x_on = omega arith; y_on = omega arith })

    free_stands : hidden cell i j ≡ false → Stands
    free_stands e =
        ⊎_elim (stands_by (i / 2) (j / 2) (omega arith) (omega arith)) (stands_by ((i + 1) / 2) ((j + 1) / 2) (omega arith) (omega arith))
        (one_free (shut_above b (x + i / 2) (y + j / 2)) (shut_above b (x + (i + 1) / 2) (y + (j + 1) / 2)) (sym hidden_at ∙ e))

    -- and is then seen exactly where one is
    seen_free : (i ≡ 1 → j ≡ 1 → ⊥) → Stands → sees b x y (x + i - 1) (y + j - 1) ≡ not (hidden cell i j)
    seen_free other ((l, m), on) =
        let p : ℕ = x + i - 1 in
        let q : ℕ = y + j - 1 in
        let c : max x p ≡ x + i / 2 = omega arith in
        let d : max y q ≡ y + j / 2 = omega arith in
        let e : min x p + 1 ≡ x + (i + 1) / 2 = omega arith in
        let f : min y q + 1 ≡ y + (j + 1) / 2 = omega arith in
        let s : beside b x y p q ≡ hidden cell i j = rw (c, d, e, f) (sym hidden_at) in
        neighbour_sight b x y p q (record { first = at; second = on }) (omega arith) (omega arith) (λ g o. other (omega arith) (omega arith))
        ∙ ap not s

  -- the place k
  module _ (k : ℕ) where
    told_seen : told cell k ≡ true → InSight b x y k
    told_seen h =
        let (c, r, o, free) = told_in cell k h in
        let s = free_stands (k % 4) (k / 4) c r free in
        record {
          column_in = c;
          row_in = r;
          column_some = s.0.0;
          row_some = s.0.1;
          on = s.1;
          seen = seen_free (k % 4) (k / 4) c r (λ e f. o (omega arith)) s ∙ ap not free;
        }

    seen_told : InSight b x y k → k ≢ 5 → told cell k ≡ true
    seen_told s o =
        let free : sees b x y (x + k % 4 - 1) (y + k / 4 - 1) ≡ not (hidden cell (k % 4) (k / 4)) =
        seen_free (k % 4) (k / 4) s.column_in s.row_in (λ e f. o (omega arith)) ((s.column_some, s.row_some), s.on) in
        and_both (place_of k s.column_in s.row_in o) (sym free ∙ s.seen)

  -- the answer for the four cells' number
  pub glanced : {c : ℕ} → c ≡ four_cells b x y → Glanced b x y (answer c)
  unfolding four_cells
  glanced {c} e = rw e record {
    sound = λ k h. told_seen k (sym (answer_bit nw ne sw se k) ∙ h);
    complete = λ k s o. answer_bit nw ne sw se k ∙ seen_told k s o;
  }
