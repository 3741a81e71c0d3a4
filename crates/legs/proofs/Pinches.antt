-- A pinched vertex, told by the four cells round it as a leg passes them. Assumes nothing.
use Prim.Native.Nat.{ℕ, ◌+◌, ◌-◌, ◌≤◌, ◌<◌, min}
use mathlib.Core.Path.{◌≡◌, refl, sym, ◌∙◌}
use mathlib.Core.Logic.{◌⊎◌, inl, inr, ⊎_elim}
use mathlib.Core.Bool.{Bool, true, false, not, ◌&&◌, ◌||◌, and_comm, or_comm, and-true}
use native.Mathlib.Omega.{arith}
use borrow.Author.Tests.{lt-ltb, le-ltb, ltb-true}
use lib.Dec.{ltb}
use Rattle.laws.proofs.Tests.{order, and_both, and_left, and_right, and_false}
use Rattle.board.specs.Board.{Board, blocked}
use Rattle.legs.specs.Pinched.{on_inside, crosswise, pinched}
use Rattle.legs.specs.Leg.{far, vertex_at, cell_at}
use Rattle.legs.proofs.Axis.{vertex_up, vertex_down, cell_up, cell_down}

-- where a vertex on the inside of the board stands
pub inside_at : (b : Board) (x y : ℕ) → on_inside b x y ≡ true → (0 < x) × (x < b.width) × (0 < y) × (y < b.height)
inside_at b x y h =
    let p : Bool = ltb 0 x && ltb x b.width in
    let q : Bool = ltb 0 y && ltb y b.height in
    let l = and_left p q h in
    let r = and_right p q h in (
      ltb-true 0 x (and_left (ltb 0 x) (ltb x b.width) l),
      ltb-true x b.width (and_right (ltb 0 x) (ltb x b.width) l),
      ltb-true 0 y (and_left (ltb 0 y) (ltb y b.height) r),
      ltb-true y b.height (and_right (ltb 0 y) (ltb y b.height) r),
    )

-- a pinched vertex does
pub pinched_inside : (b : Board) (x y : ℕ) → pinched b x y ≡ true → (x < b.width) × (y < b.height)
unfolding pinched
pinched_inside b x y h = let i = inside_at b x y (and_left (on_inside b x y) _ h) in (i.1, i.3)

-- ---- the four cells, taken in another order

mirrored : (nw ne sw se : Bool) → crosswise nw ne sw se ≡ crosswise ne nw se sw
mirrored nw ne sw se = or_comm ((nw && se) && not (ne || sw)) ((ne && sw) && not (nw || se))

turned : (nw ne sw se : Bool) → crosswise nw ne sw se ≡ crosswise nw sw ne se
turned nw ne sw se = rw (or_comm ne sw, and_comm ne sw)

-- where both lines of cells are one
one_line : (one other : Bool) → crosswise one other one other ≡ false
one_line true true = refl
one_line true false = refl
one_line false true = refl
one_line false false = refl

-- ---- the vertex s + 1 steps from a, between the cells s and s + 1 steps from it

module _ (a b s : ℕ) (hs : s + 1 < far a b) where
  abbrev x : ℕ
  x = vertex_at a b (s + 1)

  pub cells_beside : ((x - 1 ≡ cell_at a b s) × (x ≡ cell_at a b (s + 1))) ⊎ ((x - 1 ≡ cell_at a b (s + 1)) × (x ≡ cell_at a b s))
  cells_beside =
      ⊎_elim (λ (l : a < b). inl (omega (arith, vertex_up a b (s + 1) l, cell_up a b s l, cell_up a b (s + 1) l)))
      (λ (g : b ≤ a). inr (omega (arith, vertex_down a b (s + 1) g, cell_down a b s g, cell_down a b (s + 1) g))) (order a b)

  -- it lies between two lines of cells
  between_lines : (lines : ℕ) → a ≤ lines → b ≤ lines → (ltb 0 x && ltb x lines) ≡ true
  between_lines lines ha hb =
      ⊎_elim
      (λ (l : a < b).
      let e = vertex_up a b (s + 1) l in
      and_both (lt-ltb 0 x (omega arith)) (lt-ltb x lines (omega arith)))
      (λ (g : b ≤ a).
      let e = vertex_down a b (s + 1) g in
      and_both (lt-ltb 0 x (omega arith)) (lt-ltb x lines (omega arith)))
      (order a b)

  -- the four cells where it meets the lines k and l
  pub met_along : (cell : ℕ → ℕ → Bool) (k l : ℕ)
      → crosswise (cell (x - 1) k) (cell x k) (cell (x - 1) l) (cell x l)
      ≡ crosswise (cell (cell_at a b s) k) (cell (cell_at a b (s + 1)) k) (cell (cell_at a b s) l) (cell (cell_at a b (s + 1)) l)
  met_along cell k l =
      ⊎_elim (λ e. rw (e.0, e.1))
      (λ e. rw (e.0, e.1) (mirrored (cell (cell_at a b (s + 1)) k) (cell (cell_at a b s) k) (cell (cell_at a b (s + 1)) l) (cell (cell_at a b s) l)))
      cells_beside

-- ---- the line c of vertices, by the lines of cells before and behind it: at a border of the `lines` lines they are one

module _ (cell : ℕ → ℕ → Bool) (c lines : ℕ) (some : 0 < lines) (on : c ≤ lines) (i j : ℕ) where
  abbrev round : (behind : ℕ) → Bool
  round behind = crosswise (cell i (c - 1)) (cell j (c - 1)) (cell i behind) (cell j behind)

  line_read : ((ltb 0 c && ltb c lines) && round c) ≡ round (min c (lines - 1))
  line_read =
      ⊎_elim (λ (z : c < 1). border (rw (le-ltb 0 c (omega arith))) (omega arith))
      (λ (p : 1 ≤ c). ⊎_elim (λ (l : c < lines). inside p l) (λ (g : lines ≤ c). border (and_false (ltb 0 c) (le-ltb c lines g)) (omega arith))
      (order c lines)) (order c 1)
    where
      border : (ltb 0 c && ltb c lines) ≡ false → min c (lines - 1) ≡ c - 1 → ((ltb 0 c && ltb c lines) && round c) ≡ round (min c (lines - 1))
      border e f = rw (e, f) (sym (one_line (cell i (c - 1)) (cell j (c - 1))))

      inside : 1 ≤ c → c < lines → ((ltb 0 c && ltb c lines) && round c) ≡ round (min c (lines - 1))
      inside p l = let m : min c (lines - 1) ≡ c = omega arith in rw (lt-ltb 0 c p, lt-ltb c lines l, m)

-- ---- a vertex on a leg

module _ (b : Board) (p q u c : ℕ) (hu : u + 1 < far p q) where
  -- along the row c
  pub pinched_level : 0 < b.height → c ≤ b.height → p ≤ b.width → q ≤ b.width →
      let low = c - 1 in
      let high = min c (b.height - 1) in
      pinched b (vertex_at p q (u + 1)) c
      ≡ crosswise (blocked b (cell_at p q u) low) (blocked b (cell_at p q (u + 1)) low) (blocked b (cell_at p q u) high) (blocked b (cell_at p q (u + 1)) high)
  unfolding pinched
  pinched_level some on hp hq =
      rw (between_lines p q u hu b.width hp hq)
      (line_read (blocked b) c b.height some on (vertex_at p q (u + 1) - 1) (vertex_at p q (u + 1)) ∙ met_along p q u hu (blocked b) (c - 1) (min c (b.height - 1)))

  -- along the column c
  pub pinched_upright : 0 < b.width → c ≤ b.width → p ≤ b.height → q ≤ b.height →
      let low = c - 1 in
      let high = min c (b.width - 1) in
      pinched b c (vertex_at p q (u + 1))
      ≡ crosswise (blocked b low (cell_at p q u)) (blocked b low (cell_at p q (u + 1))) (blocked b high (cell_at p q u)) (blocked b high (cell_at p q (u + 1)))
  unfolding pinched
  pinched_upright some on hp hq =
      let y : ℕ = vertex_at p q (u + 1) in
      let cell : ℕ → ℕ → Bool = λ (k l : ℕ). blocked b l k in
      rw (between_lines p q u hu b.height hp hq, and-true, turned (blocked b (c - 1) (y - 1)) (blocked b c (y - 1)) (blocked b (c - 1) y) (blocked b c y))
      (line_read cell c b.width some on (y - 1) y ∙ met_along p q u hu cell (c - 1) (min c (b.width - 1)))

-- across rows and columns: the leg comes by one of the four cells and goes on by the opposite one
module _ (b : Board) (ax ay bx by u v : ℕ) (hu : u + 1 < far ax bx) (hv : v + 1 < far ay by) where
  abbrev shut : (u v : ℕ) → Bool
  shut u v = blocked b (cell_at ax bx u) (cell_at ay by v)

  pub pinched_slanted : ax ≤ b.width → bx ≤ b.width → ay ≤ b.height → by ≤ b.height
      → pinched b (vertex_at ax bx (u + 1)) (vertex_at ay by (v + 1)) ≡ crosswise (shut u v) (shut (u + 1) v) (shut u (v + 1)) (shut (u + 1) (v + 1))
  unfolding pinched
  pinched_slanted hax hbx hay hby =
      let y : ℕ = vertex_at ay by (v + 1) in
      let i : ℕ = cell_at ax bx u in
      let j : ℕ = cell_at ax bx (u + 1) in
      rw (between_lines ax bx u hu b.width hax hbx, between_lines ay by v hv b.height hay hby)
      (met_along ax bx u hu (blocked b) (y - 1) y ∙ turned (blocked b i (y - 1)) (blocked b j (y - 1)) (blocked b i y) (blocked b j y)
      ∙ met_along ay by v hv (λ (k l : ℕ). blocked b l k) i j ∙ turned (shut u v) (shut u (v + 1)) (shut (u + 1) v) (shut (u + 1) (v + 1)))
