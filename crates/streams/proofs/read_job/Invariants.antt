-- `streams::read_job` ends: each turn some bytes are read, or there is a try less until the next byte.
use Rattle.std.proofs.Common.{length, ◌-◌, ◌+◌, ◌≤◌, ◌*◌}
use Rattle.streams.specs.Tries.{most_tries}
use Rattle.streams.proofs.read_job.Given as goal

abbrev pub invariant-loop-done : goal.invariant-loop-done
invariant-loop-done g l = (l.done ≤ length l.job) × (l.tries ≤ most_tries)

abbrev pub decreases-loop-done : goal.decreases-loop-done
decreases-loop-done g l = (length l.initial.job - l.done) * (most_tries + 1) + (most_tries - l.tries)
