use mathlib.Core.Path.{sym, ◌∙◌}
use Rattle.std.proofs.lemmas.Result.{err_from_is_err_and}
use Rattle.readback.proofs.Answering.{read_refused, short_is, read_short, read_room, read_done}
use Rattle.readback.proofs.read_routes.Goals as goal

pub returns-in_err-found : goal.returns-in_err-found
returns-in_err-found c =
    let p = err_from_is_err_and c.from_residual.result c.from_residual.ensures.1 in
    rw (p.1, p.2) (read_refused _ _ _ c.in_err-found.ensures)

pub returns-then-short-xs : goal.returns-then-short-xs
returns-then-short-xs c = read_short _ c.in_ok-found.ensures _ (sym (short_is _ c.in_ok-found.ensures _) ∙ c.if-short-xs.true)

-- 21 lets through only slices that have room, each of them, and refuses only such that lack it
pub gather-requires : goal.gather-requires
gather-requires c = read_room _ c.in_ok-found.ensures _ (sym (short_is _ c.in_ok-found.ensures _) ∙ c.if-short-xs.false)

pub returns : goal.returns
returns c = read_done _ c.in_ok-found.ensures _ (sym (short_is _ c.in_ok-found.ensures _) ∙ c.if-short-xs.false) c.gather.ensures
