use Rattle.std.proofs.lemmas.Result.{err_from_is_err_and}
use Rattle.faults.proofs.Judging.{whole_next, whole_refused}
use Rattle.bureau.proofs.Answering.{job_refused, file_refused}
use Rattle.approve.proofs.approve.Goals as goal

pub returns-in_err-whole : goal.returns-in_err-whole
returns-in_err-whole c =
    let p = err_from_is_err_and c.from_residual.result c.from_residual.ensures.1 in
    rw (p.1, p.2) (job_refused _ _ _ _ (whole_refused _ _ c.in_err-whole.ensures))

pub returns-in_err-check_routes : goal.returns-in_err-check_routes
returns-in_err-check_routes c =
    let p = err_from_is_err_and c.from_residual-in_err-check_routes.result c.from_residual-in_err-check_routes.ensures.1 in
    let accepted = (whole_next _ c.in_ok-whole.ensures).0 in
    rw (p.1, p.2) (file_refused _ _ _ accepted.passed _ c.in_err-check_routes.ensures)

pub approve_accepted-requires : goal.approve_accepted-requires
approve_accepted-requires c =
    let whole = whole_next _ c.in_ok-whole.ensures in
    record { accepted = whole.0; whole_is = whole.1; clean = c.in_ok-check_routes.ensures.0 }
