use Prim.Native.Nat.{◌+◌, ◌<◌}
use mathlib.Core.Path.{refl, sym}
use native.Mathlib.Omega.{arith}
use Rattle.board.specs.Checked.{board_of}
use Rattle.edges.proofs.inner.Counting.{lines_from, low_in, high_in, edges_begun, edges_done}
use Rattle.edges.proofs.inner.Cells.{index_in, index_few, step_of, step_small, step_fits, step_on, pinch_met, wall_met, step_passed}
use Rattle.edges.proofs.inner.first_walled.Goals as goal

-- a leg of no steps has no edge
pub returns-then-n-eq0 : goal.returns-then-n-eq0
returns-then-n-eq0 c =
    let a = c.args in
    let p = c.requires in
    let lines = lines_from {b = board_of a.board.now} {level = a.level} a.board.now.sound p.c_bound p.p_bound c.distance-n.ensures c.line_before-low.ensures c.lines_across.ensures c.line_behind-high.ensures in
    record { result_value = edges_done (edges_begun lines) (sym c.if-n-eq0.true); upper_bound = tt }

-- any other has one, and begins at a cell, with an index on either line
pub index_on-low_cell-requires : goal.index_on-low_cell-requires
index_on-low_cell-requires c =
    let a = c.args in
    let p = c.requires in
    let lines = lines_from {b = board_of a.board.now} {level = a.level} a.board.now.sound p.c_bound p.p_bound c.distance-n.ensures c.line_before-low.ensures c.lines_across.ensures c.line_behind-high.ensures in
    rw c.cell-first.ensures (index_few (record { lines = lines; line_in = low_in lines; u_in = omega (arith, c.if-n-eq0.false); index_is = refl }))

pub index_on-high_cell-requires : goal.index_on-high_cell-requires
index_on-high_cell-requires c =
    let a = c.args in
    let p = c.requires in
    let lines = lines_from {b = board_of a.board.now} {level = a.level} a.board.now.sound p.c_bound p.p_bound c.distance-n.ensures c.line_before-low.ensures c.lines_across.ensures c.line_behind-high.ensures in
    rw c.cell-first.ensures (index_few (record { lines = lines; line_in = high_in lines; u_in = omega (arith, c.if-n-eq0.false); index_is = refl }))

pub bounds-cells-low_cell : goal.bounds-cells-low_cell
bounds-cells-low_cell c = index_in c.edges.invariant.low_at

pub bounds-cells-high_cell : goal.bounds-cells-high_cell
bounds-cells-high_cell c = index_in c.edges.invariant.high_at

pub overflow_add-low_cell : goal.overflow_add-low_cell
overflow_add-low_cell c =
    let a = c.args in
    let step = step_of {b = board_of a.board.now} {level = a.level} c.stride-along.ensures c.forward-ahead.ensures c.forward-back.ensures in
    omega (arith, step_small c.edges.invariant.low_at step)

-- the leg goes on, by a step to the next cells
pub overflow_sub-low_cell : goal.overflow_sub-low_cell
overflow_sub-low_cell c =
    let a = c.args in
    let at = c.edges.invariant.low_at in
    step_fits at (step_of {b = board_of a.board.now} {level = a.level} c.stride-along.ensures c.forward-ahead.ensures c.forward-back.ensures) (omega (arith, at.u_in, c.if-u-n.false))

pub overflow_add-high_cell : goal.overflow_add-high_cell
overflow_add-high_cell c =
    let a = c.args in
    let step = step_of {b = board_of a.board.now} {level = a.level} c.stride-along.ensures c.forward-ahead.ensures c.forward-back.ensures in
    omega (arith, step_small c.edges.invariant.high_at step)

-- the leg goes on, by a step to the next cells
pub overflow_sub-high_cell : goal.overflow_sub-high_cell
overflow_sub-high_cell c =
    let a = c.args in
    let at = c.edges.invariant.high_at in
    step_fits at (step_of {b = board_of a.board.now} {level = a.level} c.stride-along.ensures c.forward-ahead.ensures c.forward-back.ensures) (omega (arith, at.u_in, c.if-u-n.false))

pub edges-preserved : goal.edges-preserved
edges-preserved c =
    let a = c.args in
    let s = c.edges.invariant in
    let step = step_of {b = board_of a.board.now} {level = a.level} c.stride-along.ensures c.forward-ahead.ensures c.forward-back.ensures in
    let goes_on : c.edges.u + 1 < c.distance-n.result = omega (arith, s.low_at.u_in, c.if-u-n.false) in
    record {
      edge = step_passed s c.is_crosswise.ensures c.if-is_crosswise.false c.if-at_low-at_high.false;
      low_at = step_on s.low_at step goes_on;
      high_at = step_on s.high_at step goes_on;
    }

pub returns-then-is_crosswise-clause-result_value : goal.returns-then-is_crosswise-clause-result_value
returns-then-is_crosswise-clause-result_value c = pinch_met c.edges.invariant c.is_crosswise.ensures c.if-is_crosswise.true

pub returns-then-at_low-at_high-clause-result_value : goal.returns-then-at_low-at_high-clause-result_value
returns-then-at_low-at_high-clause-result_value c =
    wall_met c.edges.invariant c.is_crosswise.ensures c.if-is_crosswise.false c.if-at_low-at_high.true

pub returns-then-u-n-clause-result_value : goal.returns-then-u-n-clause-result_value
returns-then-u-n-clause-result_value c =
    edges_done (step_passed c.edges.invariant c.is_crosswise.ensures c.if-is_crosswise.false c.if-at_low-at_high.false) c.if-u-n.true
