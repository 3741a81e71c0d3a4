-- `faults::inner::check_job` judges the whole job. The loop's invariant: the records before pass, and what was read is theirs.
use mathlib.Core.Path.{◌≡◌}
use Prim.Native.Nat.{◌-◌, ◌≤◌}
use Rattle.board.specs.Handed.{passes}
use Rattle.records.specs.Records.{in_order}
use Rattle.faults.specs.Faults.{record_rows}
use Rattle.faults.specs.Inner.{progress}
use Rattle.faults.proofs.inner.check_job.Given as goal

abbrev pub invariant-loop-i : goal.invariant-loop-i
invariant-loop-i l = (l.i ≤ l.count) × (l.past ≡ progress l.job l.i) × (in_order l.i (record_rows l.job) ≡ passes)

abbrev pub decreases-loop-i : goal.decreases-loop-i
decreases-loop-i l = l.count - l.i
