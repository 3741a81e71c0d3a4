-- `slants::inner::first_blocked` finds what stops a slanted leg: each need is a law of proofs/inner/ at the place's numbers.
-- Invariants: no column passed stops the leg, and in this column no cell passed. Measures: the columns left; what the row lacks to the column's end.
use Prim.Native.Nat.{ℕ, ◌-◌}
use Rattle.board.specs.Checked.{board_of}
use Rattle.slants.proofs.inner.Places.{come}
use Rattle.slants.proofs.inner.Turns.{AtColumn, AtCell}
use Rattle.slants.proofs.inner.first_blocked.Given as goal

-- the rows come so far are no local of the code, but some v has what is known of them; the columns are told by the cell
abbrev pub invariant-loop-cell : goal.invariant-loop-cell
invariant-loop-cell l =
    let b = board_of l.leg.board in
    (v : ℕ) × AtCell b l.leg.ax l.leg.ay l.leg.bx l.leg.by l.n l.m l.step (come b l.leg.ax l.leg.ay l.leg.bx l.leg.by l.initial.cell) v l.ahead l.cell

abbrev pub decreases-loop-cell : goal.decreases-loop-cell
decreases-loop-cell l = l.m - l.ahead

abbrev pub invariant-columns : goal.invariant-columns
invariant-columns l = (u : ℕ) × (v : ℕ) × AtColumn (board_of l.leg.board) l.leg.ax l.leg.ay l.leg.bx l.leg.by l.n l.m l.step u v l.ahead l.cell

abbrev pub decreases-columns : goal.decreases-columns
decreases-columns l =
    l.n - come (board_of l.leg.board) l.leg.ax l.leg.ay l.leg.bx l.leg.by l.cell

-- ---- names for places, and what is known there
