use Prim.Native.Nat.{◌+◌}
use native.Mathlib.Omega.{arith}
use borrow.Author.Rules.{rules}
use Rattle.bureau.specs.Paths.{units_along}
use Rattle.results.proofs.Measuring.{point_small, leg_told, total_none, total_more, total_done}
use Rattle.results.proofs.inner.units_along.Goals as goal

pub loop-k-init : goal.loop-k-init
loop-k-init c = (omega arith, omega arith, omega arith, omega arith, omega arith, search rules, total_none _)

pub leg_units-sum-requires : goal.leg_units-sum-requires
leg_units-sum-requires c =
    let l = c.loop-k in record {
      from_small = point_small l.k l.invariant.5 (omega (arith, l.invariant.1)) c.point_at-from.ensures;
      to_small = point_small (l.k + 1) l.invariant.5 (omega (arith, l.invariant.1)) c.point_at-to.ensures;
    }

pub loop-k-preserved : goal.loop-k-preserved
loop-k-preserved c =
    let l = c.loop-k in (
      omega arith,
      l.invariant.1,
      l.invariant.2,
      l.invariant.3,
      omega (arith, c.leg_units-sum.ensures.1, l.invariant.4),
      l.invariant.5,
      total_more _ l.k l.invariant.6 (leg_told c.point_at-from.ensures c.point_at-to.ensures c.leg_units-sum.ensures.0),
    )

pub returns : goal.returns
unfolding units_along
returns c = let l = c.loop-k in total_done _ l.invariant.6 (omega (arith, l.invariant.1))
