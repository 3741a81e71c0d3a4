-- `root::inner::root` is the whole square root. The loop's invariant says what the digits so far are.
use Prim.Native.Nat.{◌-◌}
use Rattle.root.proofs.inner.Digits.{Digits}
use Rattle.root.proofs.inner.root.Given as goal

abbrev pub invariant-loop-turn : goal.invariant-loop-turn
invariant-loop-turn l = Digits l.n l.rest l.remainder l.root l.turn

abbrev pub decreases-loop-turn : goal.decreases-loop-turn
decreases-loop-turn l = 32 - l.turn
