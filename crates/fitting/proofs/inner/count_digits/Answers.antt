use native.Mathlib.Omega.{arith}
use Rattle.lines.proofs.Decimal.{count_one, count_power}
use Rattle.fitting.proofs.inner.count_digits.Goals as goal

pub returns-in-Some : goal.returns-in-Some
returns-in-Some c =
    let found = c.in-Some.ensures in
    let digits = count_power c.in-Some.tens c.args.n found.power_le found.next_power_gt in
    record { count = omega (arith, digits); few = omega (arith, found.bound) }

-- only 0 has no logarithm
pub returns-in-None : goal.returns-in-None
returns-in-None c =
    let zero = count_one c.args.n (omega (arith, c.in-None.ensures.none)) in
    record { count = omega (arith, zero); few = omega arith }
