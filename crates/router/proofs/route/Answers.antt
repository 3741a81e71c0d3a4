use mathlib.Core.Path.{ap, sym}
use mathlib.Core.Bool.{Bool}
use native.Mathlib.Omega.{arith}
use Rattle.std.proofs.lemmas.Result.{err_from_is_err_and}
use Rattle.board.specs.Handed.{row}
use Rattle.board.proofs.Numbers.{vertices_few}
use Rattle.board.proofs.Rows.{leg_sound}
use Rattle.answer.specs.Answers.{work_row}
use Rattle.router.proofs.Routing.{rooms, room_on, routed_refused, routed_short, routed_ran, ran_on}
use Rattle.router.proofs.route.Goals as goal

pub returns-in_err-asked : goal.returns-in_err-asked
returns-in_err-asked c =
    let p = err_from_is_err_and c.from_residual.result c.from_residual.ensures.1 in
    rw (p.1, p.2) (routed_refused _ _ _ _ _ _ _ c.in_err-asked.ensures.row)

-- on a sound board the vertices are few

pub overflow_add-vertices : goal.overflow_add-vertices
overflow_add-vertices c = omega (arith, (leg_sound _ _ _ _ _ (sym c.in_ok-asked.ensures.row)).narrow)

pub overflow_add-vertices-2 : goal.overflow_add-vertices-2
overflow_add-vertices-2 c = omega (arith, (leg_sound _ _ _ _ _ (sym c.in_ok-asked.ensures.row)).low)

pub overflow_mul-vertices : goal.overflow_mul-vertices
overflow_mul-vertices c =
    let sound = leg_sound _ _ _ _ _ (sym c.in_ok-asked.ensures.row) in
    omega (arith, vertices_few c.args.width c.args.height sound.narrow sound.low)

pub returns-then-g-vertices : goal.returns-then-g-vertices
unfolding work_row
returns-then-g-vertices c = routed_short _ _ _ _ _ _ (sym c.in_ok-asked.ensures.row) (ap (λ (t : Bool). row t 6 0) c.if-g-vertices.true)

pub search_route-requires : goal.search_route-requires
search_route-requires c = room_on c.in_ok-asked.ensures.same (rooms _ _ _ _ _ c.if-g-vertices.false)

pub returns : goal.returns
returns c =
    routed_ran _ _ _ _ _ _ (sym c.in_ok-asked.ensures.row) _ _ c.if-g-vertices.false (ran_on c.in_ok-asked.ensures.same c.search_route.ensures)
