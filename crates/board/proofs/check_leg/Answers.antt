use mathlib.Core.Path.{sym, ◌∙◌}
use Rattle.std.proofs.lemmas.Result.{err_from_is_err_and}
use Rattle.board.proofs.Rows.{ends_first, ends_second, ends_pass}
use Rattle.board.proofs.Verdicts.{passes_on, refuses_on}
use Rattle.board.proofs.check_leg.Goals as goal

pub returns-in_err-check_board : goal.returns-in_err-check_board
returns-in_err-check_board c =
    let p = err_from_is_err_and c.from_residual.result c.from_residual.ensures.1 in
    rw (p.1, p.2) (refuses_on _ _ c.in_err-check_board.ensures)

pub returns-then-not-is_vertex : goal.returns-then-not-is_vertex
returns-then-not-is_vertex c =
    sym (passes_on _ (sym c.in_ok-check_board.ensures) ∙ ends_first _ _ _ _ _ (sym c.if-not-is_vertex.ensures))

pub returns-then-not-is_vertex-2 : goal.returns-then-not-is_vertex-2
returns-then-not-is_vertex-2 c =
    sym (passes_on _ (sym c.in_ok-check_board.ensures) ∙ ends_second _ _ _ _ _ (sym c.if-not-is_vertex.ensures) (sym c.if-not-is_vertex-2.ensures))

pub returns : goal.returns
returns c =
    sym (passes_on _ (sym c.in_ok-check_board.ensures) ∙ ends_pass _ _ _ _ _ (sym c.if-not-is_vertex.ensures) (sym c.if-not-is_vertex-2.ensures))
