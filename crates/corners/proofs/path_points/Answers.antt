use mathlib.Core.Path.{sym}
use Rattle.corners.proofs.Points.{told_side, told_off, told_short, told_done}
use Rattle.corners.proofs.path_points.Goals as goal

pub returns-then-not-side_fits : goal.returns-then-not-side_fits
returns-then-not-side_fits c = told_side _ _ _ _ (sym c.if-not-side_fits.ensures)

pub returns-then-has_off : goal.returns-then-has_off
returns-then-has_off c = told_off _ _ _ _ (sym c.if-not-side_fits.ensures) (sym c.if-has_off.ensures)

pub returns-then-xs-path : goal.returns-then-xs-path
returns-then-xs-path c = told_short _ _ _ _ (sym c.if-not-side_fits.ensures) (sym c.if-has_off.ensures) c.if-xs-path.true

pub returns : goal.returns
returns c =
    told_done _ _ _ _ (sym c.if-not-side_fits.ensures) (sym c.if-has_off.ensures) c.if-xs-path.false c.tell_points.ensures.0 c.tell_points.ensures.1
