use Rattle.std.proofs.lemmas.Result.{err_from_is_err_and}
use Rattle.faults.proofs.Judging.{whole_next, whole_refused}
use Rattle.job.proofs.Reading.{net_refused}
use Rattle.job.proofs.read_net.Goals as goal

pub returns-in_err-check_job : goal.returns-in_err-check_job
returns-in_err-check_job c =
    let p = err_from_is_err_and c.from_residual.result c.from_residual.ensures.1 in
    rw (p.1, p.2) (net_refused _ _ _ (whole_refused _ _ c.in_err-check_job.ensures))

pub net_at-requires : goal.net_at-requires
net_at-requires c = (whole_next _ c.in_ok-check_job.ensures).0
