use Prim.Native.Nat.{ℕ, ◌+◌}
use mathlib.Core.Path.{◌≡◌, refl, sym, subst, ◌∙◌}
use native.Mathlib.Omega.{arith}
use Rattle.board.specs.Checked.{board_of}
use Rattle.slants.proofs.inner.Places.{come, slanted_from, cell_small, corner_small, start_fits, end_fits}
use Rattle.slants.proofs.inner.Turns.{ColumnLeft, walk_starts, column_entered, come_here, cell_read, row_small, row_fits, walk_stopped, next_row, corner, cell_passed, left_inside, sums_small, sums_fit, cells_read_lem, left_corner, walk_pinched, walk_ended, column_small, column_fits, column_less, column_passed}
use Rattle.slants.proofs.inner.first_blocked.Goals as goal
use Rattle.slants.proofs.inner.first_blocked.Goals.{then-ahead-m+else-cell-last+else-is_pinch, else-ahead-m}

-- ---- the walk begins

pub cell_beside-last-requires : goal.cell_beside-last-requires
cell_beside-last-requires c =
    let a = c.args in
    let p = c.requires in
    let leg = slanted_from {b = board_of a.leg.now.board} a.leg.now.board.sound a.leg.now.ends c.distance-n.ensures c.distance-m.ensures p.slanted c.steps_of-step.ensures in
    (end_fits leg, corner_small leg a.leg.now.bx a.leg.now.by a.leg.now.ends.second)

pub cell_beside-cell-requires : goal.cell_beside-cell-requires
cell_beside-cell-requires c =
    let a = c.args in
    let p = c.requires in
    let leg = slanted_from {b = board_of a.leg.now.board} a.leg.now.board.sound a.leg.now.ends c.distance-n.ensures c.distance-m.ensures p.slanted c.steps_of-step.ensures in
    (start_fits leg, corner_small leg a.leg.now.ax a.leg.now.ay a.leg.now.ends.first)

pub columns-init : goal.columns-init
columns-init c =
    let a = c.args in
    let p = c.requires in
    (0, 0, walk_starts (slanted_from {b = board_of a.leg.now.board} a.leg.now.board.sound a.leg.now.ends c.distance-n.ensures c.distance-m.ensures p.slanted c.steps_of-step.ensures) _ c.cell_beside-cell.ensures)

pub loop-cell-init : goal.loop-cell-init
loop-cell-init c =
    let (u, v, i) = c.columns.invariant in
    let k = column_entered i in
    rw (come_here k) (v, k)

-- ---- down a column: the next row is on the leg only where the column does not end in this one

pub bounds-cells-cell : goal.bounds-cells-cell
bounds-cells-cell c = let (v, i) = c.loop-cell.invariant in cell_read i

pub overflow_add-cell : goal.overflow_add-cell
overflow_add-cell c = let (v, i) = c.loop-cell.invariant in omega (arith, row_small i)

pub overflow_sub-cell : goal.overflow_sub-cell
overflow_sub-cell c =
    let (v, i) = c.loop-cell.invariant in
    row_fits i (next_row i (omega (arith, c.if-m-ahead.false)))

pub loop-cell-preserved : goal.loop-cell-preserved
loop-cell-preserved c =
    let (v, i) = c.loop-cell.invariant in
    (v + 1, cell_passed i c.if-cells-cell-eq1.false (omega (arith, c.if-m-ahead.false)))

-- ---- at a corner, where row and column end together, and not at the leg's end

pub overflow_add-beside : goal.overflow_add-beside
overflow_add-beside c =
    let (v, i) = c.loop-cell.invariant in
    omega (arith, sums_small i c.if-cells-cell-eq1.false c.if-ahead-m.true c.cell_beside-last.ensures c.if-cell-last.false refl refl refl)

pub overflow_sub-beside : goal.overflow_sub-beside
overflow_sub-beside c =
    let (v, i) = c.loop-cell.invariant in
    (sums_fit i c.if-cells-cell-eq1.false c.if-ahead-m.true c.cell_beside-last.ensures c.if-cell-last.false refl refl refl).0

pub overflow_add-below : goal.overflow_add-below
overflow_add-below c = let (v, i) = c.loop-cell.invariant in omega (arith, row_small i)

pub overflow_sub-below : goal.overflow_sub-below
overflow_sub-below c =
    let (v, i) = c.loop-cell.invariant in
    row_fits i (corner i c.if-ahead-m.true _ c.cell_beside-last.ensures c.if-cell-last.false).1

pub overflow_add-next : goal.overflow_add-next
overflow_add-next c =
    let (v, i) = c.loop-cell.invariant in
    omega (arith, sums_small i c.if-cells-cell-eq1.false c.if-ahead-m.true c.cell_beside-last.ensures c.if-cell-last.false refl refl refl)

pub overflow_sub-next : goal.overflow_sub-next
overflow_sub-next c =
    let (v, i) = c.loop-cell.invariant in
    (sums_fit i c.if-cells-cell-eq1.false c.if-ahead-m.true c.cell_beside-last.ensures c.if-cell-last.false refl refl refl).1

pub is_pinch-requires : goal.is_pinch-requires
is_pinch-requires c =
    let (v, i) = c.loop-cell.invariant in
    cells_read_lem i c.if-cells-cell-eq1.false c.if-ahead-m.true c.cell_beside-last.ensures c.if-cell-last.false refl refl refl

-- ---- the column is left, inside a row or by a corner

-- what holds of two values holds of those that they are
along : (P : ℕ → ℕ → Type 0) {a b x y : ℕ} → a ≡ x → b ≡ y → P x y → P a b
along P {b = b} {x = x} e f h =
    let second : P x b = subst (λ (n : ℕ). P x n) (sym f) h in
    subst (λ (n : ℕ). P n b) (sym e) second

left_column : (c : goal.After-row_known-in-columns-1) →
    let a = c.args in
    let b = board_of a.leg.now.board in
    (v : ℕ) × ColumnLeft b a.leg.now.ax a.leg.now.ay a.leg.now.bx a.leg.now.by c.distance-n.result c.distance-m.result c.steps_of-step.result (come b a.leg.now.ax a.leg.now.ay a.leg.now.bx a.leg.now.by c.columns.cell) v c.if-ahead-m.ahead c.if-ahead-m.cell
left_column c =
    let a = c.args in
    let b = board_of a.leg.now.board in
    let free = c.if-cells-cell-eq1.false in
    let (v, i) = c.loop-cell.invariant in
    let P : ℕ → ℕ → Type 0 = λ ahead cell. (v : ℕ) × ColumnLeft b a.leg.now.ax a.leg.now.ay a.leg.now.bx a.leg.now.by c.distance-n.result c.distance-m.result c.steps_of-step.result (come b a.leg.now.ax a.leg.now.ay a.leg.now.bx a.leg.now.by c.columns.cell) v ahead cell in
    elim c.if-ahead-m.branch [
      | then-ahead-m+else-cell-last+else-is_pinch w ↦
          let open-corner = left_corner i free w.if-ahead-m.true c.cell_beside-last.ensures w.if-cell-last.false refl refl refl w.is_pinch.ensures w.if-is_pinch.false in
          along P w.ahead-is w.cell-is (v + 1, open-corner)
      | else-ahead-m w ↦ along P w.ahead-is w.cell-is (v, left_inside i free (omega (arith, c.if-m-ahead.true, w.if-ahead-m.false)))
    ]

pub overflow_add-cell-in-columns : goal.overflow_add-cell-in-columns
overflow_add-cell-in-columns c = let (v, i) = left_column c in omega (arith, column_small i)

left_column_2 : (c : goal.After-struct_known-in-columns-2-1) →
    let a = c.args in
    let b = board_of a.leg.now.board in
    (v : ℕ) × ColumnLeft b a.leg.now.ax a.leg.now.ay a.leg.now.bx a.leg.now.by c.distance-n.result c.distance-m.result c.steps_of-step.result (come b a.leg.now.ax a.leg.now.ay a.leg.now.bx a.leg.now.by c.columns.cell) v c.if-ahead-m.ahead c.if-ahead-m.cell
left_column_2 c =
    let a = c.args in
    let b = board_of a.leg.now.board in
    let free = c.if-cells-cell-eq1.false in
    let (v, i) = c.loop-cell.invariant in
    let P : ℕ → ℕ → Type 0 = λ ahead cell. (v : ℕ) × ColumnLeft b a.leg.now.ax a.leg.now.ay a.leg.now.bx a.leg.now.by c.distance-n.result c.distance-m.result c.steps_of-step.result (come b a.leg.now.ax a.leg.now.ay a.leg.now.bx a.leg.now.by c.columns.cell) v ahead cell in
    elim c.if-ahead-m.branch [
      | then-ahead-m+else-cell-last+else-is_pinch w ↦
          let open-corner = left_corner i free w.if-ahead-m.true c.cell_beside-last.ensures w.if-cell-last.false refl refl refl w.is_pinch.ensures w.if-is_pinch.false in
          along P w.ahead-is w.cell-is (v + 1, open-corner)
      | else-ahead-m w ↦ along P w.ahead-is w.cell-is (v, left_inside i free (omega (arith, c.if-m-ahead.true, w.if-ahead-m.false)))
    ]

pub overflow_sub-cell-in-columns : goal.overflow_sub-cell-in-columns
overflow_sub-cell-in-columns c = let (v, i) = left_column_2 c in column_fits i

pub columns-smaller : goal.columns-smaller
columns-smaller c = let (v, i) = left_column_2 c in column_less i

pub columns-preserved : goal.columns-preserved
columns-preserved c = let (v, i) = left_column_2 c in (_, v, column_passed i)

-- ---- what the walk meets

pub returns-then-cells-cell-eq1 : goal.returns-then-cells-cell-eq1
returns-then-cells-cell-eq1 c =
    let (v, i) = c.loop-cell.invariant in
    record { met = walk_stopped i c.if-cells-cell-eq1.true; upper_bound = cell_small i.leg (cell_read i) }

pub returns-then-cell-last-clause-met : goal.returns-then-cell-last-clause-met
returns-then-cell-last-clause-met c =
    let (v, i) = c.loop-cell.invariant in
    walk_ended i c.if-cells-cell-eq1.false c.if-m-ahead.true _ c.cell_beside-last.ensures c.if-cell-last.true

pub returns-then-is_pinch : goal.returns-then-is_pinch
returns-then-is_pinch c =
    let (v, i) = c.loop-cell.invariant in
    record {
      met = walk_pinched i c.if-cells-cell-eq1.false c.if-ahead-m.true c.cell_beside-last.ensures c.if-cell-last.false refl refl refl (sym c.is_pinch.ensures ∙ c.if-is_pinch.true);
      upper_bound = cell_small i.leg (cells_read_lem i c.if-cells-cell-eq1.false c.if-ahead-m.true c.cell_beside-last.ensures c.if-cell-last.false refl refl refl).2;
    }
