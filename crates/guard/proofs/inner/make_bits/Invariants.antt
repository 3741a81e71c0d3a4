-- `guard::inner::make_bits` has made as many bits as it has come by.
use Rattle.guard.specs.Copying.{Bits}
use Rattle.guard.proofs.inner.make_bits.Given as goal

abbrev pub invariant-loop-i : goal.invariant-loop-i
invariant-loop-i l = Bits l.i l.initial.guard l.guard
