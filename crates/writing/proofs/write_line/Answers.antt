use mathlib.Core.Path.{sym}
use Rattle.lines.proofs.Written.{line_refused, line_written}
use Rattle.writing.proofs.write_line.Goals as goal

pub returns-then-not-line_fits : goal.returns-then-not-line_fits
returns-then-not-line_fits c = line_refused (sym c.if-not-line_fits.ensures)

pub returns : goal.returns
returns c = line_written (sym c.if-not-line_fits.ensures) c.put_line.ensures
