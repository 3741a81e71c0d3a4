use Prim.Native.Nat.{ℕ}
use native.Mathlib.Omega.{arith}
use lib.ListN.{get_or}
use Rattle.board.specs.Board.{column_of, row_of}
use Rattle.bits.proofs.Entries.{entries_none, written_next}
use Rattle.corners.proofs.Points.{is_on_lem}
use Rattle.corners.proofs.tell_points.Goals as goal

pub loop-k-init : goal.loop-k-init
loop-k-init c = (entries_none _ _, entries_none _ _)

pub overflow_cast-ys : goal.overflow_cast-ys
overflow_cast-ys c =
    let a = c.args in
    omega (arith, c.row_of.ensures, is_on_lem a.path.now a.width c.requires.width_le_largest_side.1 c.loop-k.k (omega arith))

pub loop-k-preserved : goal.loop-k-preserved
loop-k-preserved c =
    let a = c.args in
    let l = c.loop-k in (
      written_next (λ (n : ℕ). column_of a.width (get_or a.path.now n 0)) l.k a.xs.now l.invariant.0 c.column_of.ensures
          (omega (arith, c.requires.path_in_bounds.0)),
      written_next (λ (n : ℕ). row_of a.width (get_or a.path.now n 0)) l.k a.ys.now l.invariant.1 c.row_of.ensures
          (omega (arith, c.requires.path_in_bounds.1)),
    )
