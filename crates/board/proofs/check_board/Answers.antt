use mathlib.Core.Path.{sym}
use Rattle.laws.proofs.Tests.{and_both}
use Rattle.board.proofs.Bytes.{some_bad_place, none_bad_place}
use Rattle.board.proofs.Rows.{rows_width, rows_height, rows_count, rows_byte, rows_pass}
use Rattle.board.proofs.check_board.Goals as goal

pub returns-then-not-side_fits : goal.returns-then-not-side_fits
returns-then-not-side_fits c = sym (rows_width _ (sym c.if-not-side_fits.ensures))

pub returns-then-not-side_fits-2 : goal.returns-then-not-side_fits-2
returns-then-not-side_fits-2 c = sym (rows_height _ (sym c.if-not-side_fits-2.ensures))

pub returns-then-cells-width : goal.returns-then-cells-width
returns-then-cells-width c =
    sym (rows_count _ (and_both (sym c.if-not-side_fits.ensures) (sym c.if-not-side_fits-2.ensures)) c.if-cells-width.true)

pub returns-in-Some : goal.returns-in-Some
returns-in-Some c =
    let s = and_both (sym c.if-not-side_fits.ensures) (sym c.if-not-side_fits-2.ensures) in
    let p = some_bad_place _ _ (sym c.in-Some.ensures) in
    rw p.1 (sym (rows_byte _ s c.if-cells-width.false p.0))

pub returns-in-None : goal.returns-in-None
returns-in-None c =
    let s = and_both (sym c.if-not-side_fits.ensures) (sym c.if-not-side_fits-2.ensures) in
    sym (rows_pass _ s c.if-cells-width.false (none_bad_place _ (sym c.in-None.ensures)))
