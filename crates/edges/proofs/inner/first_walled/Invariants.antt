-- `edges::inner::first_walled` finds what stops a leg along an axis: each need is a law of proofs/inner/ at the place's numbers.
-- Invariant: no step passed stops the leg, which cells were passed last, and the indices of the next. Measure: the steps left.
use Prim.Native.Nat.{◌-◌}
use Rattle.board.specs.Checked.{board_of}
use Rattle.edges.proofs.inner.Cells.{AtCells}
use Rattle.edges.proofs.inner.first_walled.Given as goal

abbrev pub invariant-edges : goal.invariant-edges
invariant-edges l = AtCells (board_of l.board) l.level l.c l.p l.q l.n l.low l.high l.u l.low_cell l.high_cell l.passed_low l.passed_high

abbrev pub decreases-edges : goal.decreases-edges
decreases-edges l =
    l.n - l.u

-- ---- the walk begins
