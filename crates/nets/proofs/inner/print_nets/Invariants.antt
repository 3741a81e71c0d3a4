-- `nets::inner::print_nets` sends a line for each net from the first on, unless one is lost, and counts them.
use Rattle.std.proofs.Common.{◌≡◌}
use Rattle.nets.proofs.inner.print_nets.Given as goal

-- the lines begin with that of net 0, and each that was sent is counted
abbrev pub invariant-loop-index : goal.invariant-loop-index
invariant-loop-index g l = (l.initial.index ≡ 0) × (l.sent ≡ l.index)
