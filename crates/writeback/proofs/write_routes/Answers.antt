use mathlib.Core.Path.{sym, ◌∙◌}
use native.Mathlib.Omega.{arith}
use Rattle.std.proofs.lemmas.Result.{err_from_is_err_and}
use Rattle.writeback.proofs.Answering.{write_refused, short_is, write_short, write_fitting, write_done}
use Rattle.writeback.proofs.write_routes.Goals as goal

pub returns-in_err-size : goal.returns-in_err-size
returns-in_err-size c =
    let a = c.args in
    let p = err_from_is_err_and c.from_residual.result c.from_residual.ensures.1 in
    rw (p.1, p.2) (write_refused _ _ _ (c.in_err-size.ensures a.xs.now a.ys.now))

pub overflow_mul-short : goal.overflow_mul-short
overflow_mul-short c = let a = c.args in omega (arith, (c.in_ok-size.ensures a.xs.now a.ys.now).few)

pub returns-then-short-xs : goal.returns-then-short-xs
returns-then-short-xs c =
    let a = c.args in
    let r = c.in_ok-size.ensures a.xs.now a.ys.now in
    write_short _ r _ (sym (short_is _ r a.file.now) ∙ c.if-short-xs.true)

-- 21 lets through only slices that have room, that of the file for all its records, and refuses only such that lack it
pub lay_routes-requires : goal.lay_routes-requires
lay_routes-requires c =
    let a = c.args in
    let r = c.in_ok-size.ensures a.xs.now a.ys.now in
    write_fitting _ r a.file.now (sym (short_is _ r a.file.now) ∙ c.if-short-xs.false)

pub returns : goal.returns
returns c =
    let a = c.args in
    let r = c.in_ok-size.ensures a.xs.now a.ys.now in
    write_done _ r _ (sym (short_is _ r a.file.now) ∙ c.if-short-xs.false) c.lay_routes.ensures
