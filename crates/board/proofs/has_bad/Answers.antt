use mathlib.Core.Path.{◌∙◌}
use native.Mathlib.Omega.{arith}
use Rattle.board.proofs.Bytes.{bad_so_far}
use Rattle.board.proofs.has_bad.Goals as goal

pub loop-cell-preserved : goal.loop-cell-preserved
loop-cell-preserved c =
    let p = c.loop-cell in
    bad_so_far p.bad c.args.cells.now p.cell-index (omega arith) ∙ p.invariant
