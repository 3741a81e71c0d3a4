use Rattle.std.proofs.lemmas.Result.{err_from_is_err_and}
use Rattle.faults.proofs.Judging.{whole_next, whole_refused}
use Rattle.job.proofs.Reading.{board_refused}
use Rattle.job.proofs.read_board.Goals as goal

pub write_board-requires : goal.write_board-requires
write_board-requires c =
    let w = whole_next _ c.in_ok-whole.ensures in record { accepted = w.0; whole_value = w.1 }

pub returns-in_err-whole : goal.returns-in_err-whole
returns-in_err-whole c =
    let p = err_from_is_err_and c.from_residual.result c.from_residual.ensures.1 in
    rw (p.1, p.2) (board_refused _ _ _ (whole_refused _ _ c.in_err-whole.ensures))
