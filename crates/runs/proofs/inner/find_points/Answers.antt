use Rattle.runs.proofs.Standing.{no_record, no_point, begins, points_are}
use Rattle.std.proofs.Common.{sym}
use Rattle.runs.proofs.inner.find_points.Goals as goal

pub returns-in_err-first : goal.returns-in_err-first
returns-in_err-first c = rw c.from_residual.ensures (no_record _ _ c.requires c.in_err-first.ensures)

pub returns-then-not-is_point : goal.returns-then-not-is_point
returns-then-not-is_point c = no_point _ _ c.requires c.in_ok-first.ensures (sym c.if-not-is_point.ensures)

pub count_points-count-requires-clause-first_bound : goal.count_points-count-requires-clause-first_bound
count_points-count-requires-clause-first_bound c = begins _ _ c.requires c.in_ok-first.ensures (sym c.if-not-is_point.ensures)

pub returns : goal.returns
returns c = points_are _ _ c.requires c.in_ok-first.ensures (sym c.if-not-is_point.ensures) c.count_points-count.ensures
