-- `guard::inner::copy_rows` has copied as many rows as it has come by.
use Rattle.guard.specs.Copying.{Rows}
use Rattle.guard.proofs.inner.copy_rows.Given as goal

abbrev pub invariant-loop-y : goal.invariant-loop-y
invariant-loop-y l = Rows l.cells l.width l.y l.initial.guard l.guard
