use Rattle.std.proofs.lemmas.Result.{err_from_is_err_and}
use Rattle.board.proofs.Verdicts.{refusal_handed}
use Rattle.direction.specs.Answers.{no_direction, direction_between_row}
use Rattle.direction.proofs.Direction.between.Goals as goal

pub returns-in_err-between : goal.returns-in_err-between
unfolding direction_between_row
returns-in_err-between c =
    let p = err_from_is_err_and c.from_residual.result c.from_residual.ensures.1 in
    rw (p.1, p.2) (refusal_handed no_direction _ _ c.in_err-between.ensures.rows)

pub returns : goal.returns
unfolding direction_between_row
returns c =
    let s = c.in_ok-between.ensures in
    rw (← s.rows, ← s.value.0, ← s.value.1) c.aim.ensures
