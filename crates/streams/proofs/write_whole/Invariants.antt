-- `streams::write_whole` ends: each turn some bytes are done, or there is a try less until the next byte.
use Rattle.std.proofs.Common.{length, ◌-◌, ◌+◌, ◌≤◌, ◌*◌}
use Rattle.streams.specs.Tries.{most_tries}
use Rattle.streams.proofs.write_whole.Given as goal

abbrev pub invariant-loop-rest : goal.invariant-loop-rest
invariant-loop-rest g l = l.tries ≤ most_tries

abbrev pub decreases-loop-rest : goal.decreases-loop-rest
decreases-loop-rest g l = length l.rest * (most_tries + 1) + (most_tries - l.tries)
