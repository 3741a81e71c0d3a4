use mathlib.Core.Path.{sym}
use Rattle.std.proofs.lemmas.Result.{err_from_is_err_and}
use Rattle.sight.proofs.Answering.{refused_as, stopped_on}
use Rattle.sight.proofs.sight.Goals as goal

pub returns-in_err-leg : goal.returns-in_err-leg
returns-in_err-leg c =
    let p = err_from_is_err_and c.from_residual.result c.from_residual.ensures.1 in
    rw (p.1, p.2) (refused_as _ _ _ _ _ _ c.in_err-leg.ensures.row)

pub returns : goal.returns
returns c = stopped_on _ _ _ _ _ (sym c.in_ok-leg.ensures.row) c.in_ok-leg.ensures.same c.first_stop.ensures
