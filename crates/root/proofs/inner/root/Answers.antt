use Prim.Native.Nat.{◌+◌, ◌*◌, ◌/◌, ◌≤◌, ◌<◌}
use native.Mathlib.Omega.{arith}
use Rattle.root.proofs.inner.Digits.{word, quarter, digits_start, remainder_shift, root_shift, root_double, digit_0, digit_1}
use Rattle.root.proofs.inner.root.Goals as goal
use Rattle.root.proofs.inner.root.Goals.{then-trial-remainder, else-trial-remainder}

-- a number that is not 0
some : (c : goal.Else-n-eq0) → 0 < c.args.n
some c = omega (arith, c.if-n-eq0.false)

fits : (c : goal.Else-n-eq0) → c.args.n < word
fits c = omega (arith, c.ranges.n)

pub loop-turn-init : goal.loop-turn-init
loop-turn-init c = digits_start c.args.n (some c) (fits c)

pub loop-turn-preserved : goal.loop-turn-preserved
loop-turn-preserved c =
    let d = c.loop-turn.invariant in
    let h = c.loop-turn-test.true in
    let l = c.loop-turn in
    elim c.if-trial-remainder.branch [
      -- the trial is 4 × the root and 1, and the remainder gets the rest's two top bits
      | then-trial-remainder w ↦
          let trial-fits : l.root * 4 + 1 ≤ l.remainder * 4 + l.rest / quarter = rw (root_shift d, remainder_shift d) at w.if-trial-remainder.true in
          rw (w.remainder-is, w.root-is, root_double d, remainder_shift d, root_shift d) (digit_1 d h trial-fits)
      | else-trial-remainder w ↦
          let trial-over : l.remainder * 4 + l.rest / quarter < l.root * 4 + 1 = rw (root_shift d, remainder_shift d) at w.if-trial-remainder.false in
          rw (w.remainder-is, w.root-is, root_double d, remainder_shift d) (digit_0 d h trial-over)
    ]
