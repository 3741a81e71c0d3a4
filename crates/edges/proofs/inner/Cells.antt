-- The cells on both sides of a leg by their indices: what the byte at one tells, and a step along the leg. Assumes nothing.
use Prim.Native.Nat.{ℕ, ◌+◌, ◌*◌, ◌-◌, ◌≤◌, ◌<◌}
use mathlib.Core.Path.{◌≡◌, sym, ◌∙◌}
use mathlib.Core.Bool.{Bool, true, false, ◌&&◌, cond}
use native.Mathlib.Nat.{mul-le-mul}
use native.Mathlib.Omega.{arith}
use lib.Dec.{eqb}
use lib.ListN.{length, get_or}
use Rattle.board.specs.Limits.{largest_side, most_vertices}
use Rattle.board.specs.Board.{Board}
use Rattle.board.specs.Inner.{Sound}
use Rattle.board.proofs.Numbers.{cell_index}
use Rattle.board.proofs.Cells.{byte_is}
use Rattle.legs.specs.Leg.{far, cell_at}
use Rattle.walls.specs.Leg.{forward}
use Rattle.walls.proofs.leg.Indices.{forward_fits, cell_next}
use Rattle.legs.specs.Pinched.{crosswise}
use Rattle.legs.specs.Stops.{edges_stop}
use Rattle.edges.specs.declared.Along.TheVariants.{Wall, Pinch}
use Rattle.edges.specs.Edges.{cell_on, index_on, stop_after}
use Rattle.edges.proofs.inner.Counting.{Lines, along_in, AtEdge, vertex_found, edge_found, edge_passed}

-- ---- level or upright

-- the cell at k of a line of cells: its index is on the board, and the byte there tells whether it is blocked
module _ (b : Board) (line k : ℕ) where
  abbrev On : (level : Bool) → Type 0
  On level = (line < cond level b.height b.width) × (k < cond level b.width b.height)

  index_below : (level : Bool) → On level → index_on level b.width line k < b.width * b.height
  unfolding index_on
  index_below true (hl, hk) = cell_index b.width b.height k line hk hl
  index_below false (hl, hk) = cell_index b.width b.height line k hl hk

  byte_on : (level : Bool) → On level → (i : ℕ) → i ≡ index_on level b.width line k → eqb (get_or b.cells i 0) 1 ≡ cell_on b level line k
  unfolding index_on cell_on
  byte_on true (hl, hk) i e = sym (byte_is b k line i hk hl e)
  byte_on false (hl, hk) i e = sym (byte_is b line k i hl hk e)

-- a step from the cell after u steps to the next one
index_next : (level : Bool) (width line p q u : ℕ) → u + 1 < far p q →
    let along = cond level 1 width in
    index_on level width line (cell_at p q (u + 1)) + forward q p along ≡ index_on level width line (cell_at p q u) + forward p q along
unfolding index_on
index_next true width line p q u h = omega (arith, cell_next p q 1 u h)
index_next false width line p q u h = omega (arith, cell_next p q width u h)

-- a stride is small
stride_few : {b : Board} (level : Bool) → Sound b → cond level 1 b.width ≤ largest_side
stride_few true s = omega arith
stride_few false s = s.narrow

-- what a step along the leg adds to an index, and what it takes from it
pub record StepOf (b : Board) (level : Bool) (p q ahead back : ℕ) : Type 0 where
  pub ahead_is : ahead ≡ forward p q (cond level 1 b.width)
  pub back_is : back ≡ forward q p (cond level 1 b.width)

pub step_of : {b : Board} {level : Bool} {p q along ahead back : ℕ} → along ≡ cond level 1 b.width → ahead ≡ forward p q along
    → back ≡ forward q p along → StepOf b level p q ahead back
step_of e ahead_is back_is = record { ahead_is = rw (← e) ahead_is; back_is = rw (← e) back_is }

-- ---- along the leg

-- i is the index of the cell after u steps, of a leg that goes on, on a line of cells beside it
pub record OnLine (b : Board) (level : Bool) (c p q n low high line u i : ℕ) : Type 0 where
  pub lines : Lines b level c p q n low high
  pub line_in : line < cond level b.height b.width
  pub u_in : u < n
  pub index_is : i ≡ index_on level b.width line (cell_at p q u)

module _ {b : Board} {level : Bool} {c p q n low high line u i : ℕ} (s : OnLine b level c p q n low high line u i) where
  on_board : On b line (cell_at p q u) level
  on_board = (s.line_in, along_in s.lines u s.u_in)

  -- the index is on the board
  index_small : i < b.width * b.height
  index_small = rw s.index_is (index_below b line (cell_at p q u) level on_board)

  pub index_in : i < length b.cells
  index_in = omega (arith, index_small, s.lines.sound.full)

  pub index_few : i < most_vertices
  index_few = omega (arith, index_small, mul-le-mul s.lines.sound.narrow s.lines.sound.low)

  -- the byte there tells whether the cell is blocked
  pub byte_read : eqb (get_or b.cells i 0) 1 ≡ cell_on b level line (cell_at p q u)
  byte_read = byte_on b line (cell_at p q u) level on_board i s.index_is

  -- a step stays small, and comes to the next cell
  module _ {ahead back : ℕ} (step : StepOf b level p q ahead back) where
    pub step_small : i + ahead < 2 * most_vertices
    step_small = omega (arith, index_few, forward_fits p q _ step.ahead_is, stride_few level s.lines.sound)

    step_next : u + 1 < n → index_on level b.width line (cell_at p q (u + 1)) + back ≡ i + ahead
    step_next h =
        rw (s.index_is, step.ahead_is, step.back_is) (index_next level b.width line p q u (omega (arith, s.lines.n_is)))

    pub step_fits : u + 1 < n → back ≤ i + ahead
    step_fits h = omega (arith, step_next h)

    pub step_on : u + 1 < n → OnLine b level c p q n low high line (u + 1) (i + ahead - back)
    step_on h = record { lines = s.lines; line_in = s.line_in; u_in = h; index_is = omega (arith, step_next h) }

-- what is known u steps from the first end of a leg that goes on, with the indices of the next two cells
pub record AtCells (b : Board) (level : Bool) (c p q n low high u low-cell high-cell : ℕ) (passed-low passed-high : Bool) : Type 0 where
  pub edge : AtEdge b level c p q n low high u passed-low passed-high
  pub low_at : OnLine b level c p q n low high low u low-cell
  pub high_at : OnLine b level c p q n low high high u high-cell

-- and whether the vertex between the cells passed last and those two is pinched
module _ {b : Board} {level : Bool} {c p q n low high u low-cell high-cell : ℕ} {passed-low passed-high : Bool}
    (s : AtCells b level c p q n low high u low-cell high-cell passed-low passed-high) {pinch : Bool}
    (asked : pinch ≡ crosswise passed-low (eqb (get_or b.cells low-cell 0) 1) passed-high (eqb (get_or b.cells high-cell 0) 1)) where
  pub pinch_met : pinch ≡ true → stop_after level c p q (Pinch u) ≡ edges_stop b level c p q
  pinch_met e =
      vertex_found s.edge s.low_at.u_in (byte_read s.low_at) (byte_read s.high_at) (sym asked ∙ e)

  module _ (e : pinch ≡ false) where
    pub wall_met : (eqb (get_or b.cells low-cell 0) 1 && eqb (get_or b.cells high-cell 0) 1) ≡ true
        → stop_after level c p q (Wall u) ≡ edges_stop b level c p q
    wall_met f =
        edge_found s.edge s.low_at.u_in (byte_read s.low_at) (byte_read s.high_at) (sym asked ∙ e) f

    -- neither it nor the edge stops the leg
    pub step_passed : (eqb (get_or b.cells low-cell 0) 1 && eqb (get_or b.cells high-cell 0) 1) ≡ false
        → AtEdge b level c p q n low high (u + 1) (eqb (get_or b.cells low-cell 0) 1) (eqb (get_or b.cells high-cell 0) 1)
    step_passed f =
        edge_passed s.edge s.low_at.u_in (byte_read s.low_at) (byte_read s.high_at) (sym asked ∙ e) f
