use Rattle.std.proofs.Common.{sym}
use Rattle.std.proofs.lemmas.Result.{err_from_is_err_and}
use Rattle.bureau.proofs.Answering.{odd_refused}
use Rattle.judge.proofs.Judging.{odd_is, even_is, nets_stopped, nets_done}
use Rattle.judge.proofs.inner.check_nets.Goals as goal

pub returns-in-Some : goal.returns-in-Some
returns-in-Some c = odd_refused _ _ _ _ _ (odd_is _ _ c.in-Some.ensures)

pub returns-in_err-judge_nets : goal.returns-in_err-judge_nets
returns-in_err-judge_nets c =
    let p = err_from_is_err_and c.from_residual.result c.from_residual.ensures.1 in
    rw (p.1, p.2) (nets_stopped _ _ _ _ (even_is _ _ c.in_default.ensures) c.in_err-judge_nets.ensures)

pub write_results-requires : goal.write_results-requires
write_results-requires c =
    let on = c.requires.on_job in
    record {
      all_right = record { accepted = on.accepted; clean = on.clean; right = sym c.in_ok-judge_nets.ensures.row_is; many_is = on.many_is };
      nets_in_bounds = c.requires.nets_in_bounds;
    }

pub returns : goal.returns
returns c =
    nets_done _ _ _ _ (even_is _ _ c.in_default.ensures) c.in_ok-judge_nets.ensures c.requires.on_job.many_is c.write_results.ensures.0 c.write_results.ensures.1
