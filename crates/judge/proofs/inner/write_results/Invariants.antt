-- `judge::inner::write_results` writes net after net. The loop's invariant: the results so far, and beyond them what the slices held.
use mathlib.Core.Path.{◌≡◌}
use mathlib.Core.List.{◌++◌}
use Prim.Native.Nat.{◌-◌, ◌≤◌}
use lib.ListN.{length, drop}
use Rattle.bits.specs.Packed.{entries}
use Rattle.tracks.specs.Tracks.{routes_in}
use Rattle.bureau.specs.Nets.{net_units, net_legs}
use Rattle.bureau.specs.Inner.{AllRight}
use Rattle.judge.proofs.inner.write_results.Given as goal

abbrev pub invariant-loop-index : goal.invariant-loop-index
invariant-loop-index l =
    (l.index ≤ l.nets) × AllRight l.job l.file l.nets × (l.nets ≤ length l.initial.units) × (l.nets ≤ length l.initial.counts)
    × (l.units ≡ entries l.index (net_units l.job (routes_in l.file)) ++ drop l.index l.initial.units) × (l.counts ≡ entries l.index (net_legs l.job (routes_in l.file)) ++ drop l.index l.initial.counts)

abbrev pub decreases-loop-index : goal.decreases-loop-index
decreases-loop-index l = l.nets - l.index
