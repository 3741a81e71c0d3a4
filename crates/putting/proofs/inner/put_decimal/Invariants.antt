-- `putting::inner::put_decimal`: the last digits are put, and the rest has those before them.
use mathlib.Core.Path.{◌≡◌}
use lib.ListN.{length}
use Rattle.lines.specs.Lines.{decimal}
use Rattle.lines.specs.Inner.{Room}
use Rattle.putting.proofs.Backward.{Half}
use Rattle.putting.proofs.inner.put_decimal.Given as goal

abbrev pub invariant-loop-i : goal.invariant-loop-i
invariant-loop-i l = Half l.n l.initial.out l.at l.rest l.i l.out × Room (decimal l.n) l.initial.out l.at × (l.digits ≡ length (decimal l.n))
