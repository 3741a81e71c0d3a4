use Rattle.guard.proofs.Copying.{rows_more}
use Rattle.guard.proofs.inner.copy_rows.Goals as goal

pub loop-y-preserved : goal.loop-y-preserved
loop-y-preserved c = rows_more c.loop-y.invariant c.copy_row.ensures
