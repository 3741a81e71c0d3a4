use mathlib.Core.Path.{◌≡◌}
use borrow.Author.Tests.{eq-eqb, ne_eqb}
use Rattle.printing.specs.Inner.{line_for}
use Rattle.printing.proofs.inner.line_for.Goals as goal

pub returns-then-number-eq-PATH : goal.returns-then-number-eq-PATH
unfolding line_for
returns-then-number-eq-PATH c = rw (eq-eqb _ 0 c.if-number-eq-PATH.true)

pub returns-then-number-eq-NONE : goal.returns-then-number-eq-NONE
unfolding line_for
returns-then-number-eq-NONE c =
    -- the line of a net without a path is for 8 alone
    let none : c.args.number ≡ 8 = c.if-number-eq-NONE.true in
    rw (ne_eqb _ 0 c.if-number-eq-PATH.false, eq-eqb _ 8 none)

pub returns : goal.returns
unfolding line_for
returns c =
    rw (ne_eqb _ 0 c.if-number-eq-PATH.false, ne_eqb _ 8 c.if-number-eq-NONE.false) c.refusal_line.ensures.line_is
