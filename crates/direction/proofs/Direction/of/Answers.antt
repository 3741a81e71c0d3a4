use Rattle.std.proofs.lemmas.Int.{to_z-of_z}
use Rattle.std.proofs.lemmas.Result.{err_from_is_err_and}
use Rattle.board.proofs.Verdicts.{refusal_handed}
use Rattle.direction.specs.Answers.{no_direction, aim_row, direction_row}
use Rattle.direction.proofs.Direction.of.Goals as goal

pub returns-in_err-of : goal.returns-in_err-of
unfolding direction_row
returns-in_err-of c =
    let x = c.ranges.dx in
    let y = c.ranges.dy in
    let p = err_from_is_err_and c.from_residual.result c.from_residual.ensures.1 in
    rw (p.1, p.2) (refusal_handed no_direction _ (aim_row c.args.dx c.args.dy) (simp to_z-of_z at c.in_err-of.ensures.rows))

pub returns : goal.returns
unfolding direction_row
returns c =
    let x = c.ranges.dx in
    let y = c.ranges.dy in
    let s = simp to_z-of_z at c.in_ok-of.ensures.value in
    rw (← simp to_z-of_z at c.in_ok-of.ensures.rows, ← s.0, ← s.1) c.aim.ensures
