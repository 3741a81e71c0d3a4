use native.Mathlib.Omega.{arith}
use Rattle.putting.proofs.Backward.{half_turn}
use Rattle.putting.proofs.inner.put_decimal.Goals as goal

pub loop-i-preserved : goal.loop-i-preserved
loop-i-preserved c =
    let i = c.loop-i.invariant in
    (half_turn i.1 i.0 (omega arith), i.1, i.2)
