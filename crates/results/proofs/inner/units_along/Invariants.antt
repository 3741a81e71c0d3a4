-- `results::inner::units_along` adds up the legs. The loop's invariant: the sum so far, which stays small.
use mathlib.Core.Path.{◌≡◌}
use Prim.Native.Nat.{ℕ, ◌+◌, ◌-◌, ◌*◌, ◌≤◌}
use Rattle.records.specs.Records.{records}
use Rattle.bureau.specs.Paths.{total, leg_units}
use Rattle.bureau.specs.Inner.{record_points, PointsSmall}
use Rattle.results.proofs.inner.units_along.Given as goal

abbrev pub invariant-loop-k : goal.invariant-loop-k
invariant-loop-k l =
    (l.k ≤ l.k-end) × (l.k-end + 1 ≡ l.points.count) × (l.points.count ≤ 65536) × (l.points.first + l.points.count ≤ records l.file) × (l.sum ≤ l.k * 134217728)
    × PointsSmall l.points.count (record_points l.file l.points.first)
    × (l.sum ≡ total l.k (λ (i : ℕ). leg_units (record_points l.file l.points.first i) (record_points l.file l.points.first (i + 1))))

abbrev pub decreases-loop-k : goal.decreases-loop-k
decreases-loop-k l = l.k-end - l.k
