use mathlib.Core.Path.{sym}
use native.Mathlib.Omega.{arith}
use Rattle.lines.proofs.Refusals.{refusing_twice, refusing_once}
use Rattle.lines.proofs.inner.refusal_line.Goals as goal

pub returns-then-not-has_second : goal.returns-then-not-has_second
returns-then-not-has_second c = refusing_once (omega arith) (omega arith) (omega arith) (sym c.if-not-has_second.ensures)

pub returns : goal.returns
returns c = refusing_twice (omega arith) (omega arith) (omega arith) (sym c.if-not-has_second.ensures)
