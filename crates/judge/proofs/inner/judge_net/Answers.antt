use Rattle.judge.proofs.Judging.{as_none, points_judged}
use Rattle.judge.proofs.inner.judge_net.Goals as goal

pub returns-in-None : goal.returns-in-None
returns-in-None c = as_none c.in-None.ensures c.judge_none.ensures

pub judge_points-requires : goal.judge_points-requires
judge_points-requires c =
    let p = c.in-Some.ensures.1 in record { count_nonzero = (p.some, p.within) }

pub returns-in-Some : goal.returns-in-Some
returns-in-Some c = points_judged c.in-Some.ensures.1 c.judge_points.ensures
