-- The line that src/inner.rt makes. No public contract cites it, so nobody need believe this.
use Rattle.std.specs.Prelude.{ℕ, cond, eqb}
use Rattle.lines.specs.declared.Line.{Line}
use Rattle.lines.specs.declared.Line.TheVariants as Line-of
use Rattle.lines.specs.Inner.{refusing}

-- the line that a number asks for, as the line call takes it
unfoldable pub line_for : (net number place second units expansions tests : ℕ) → Line
line_for net number place second units expansions tests =
    cond (eqb number 0) (Line-of.Path net units expansions tests)
    (cond (eqb number 8) (Line-of.None net expansions tests) (refusing number place second))
