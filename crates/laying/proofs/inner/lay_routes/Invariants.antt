-- `laying::inner::lay_routes` writes net after net. The loop's invariant: the nets before are written.
use lib.ListN.{length}
use Prim.Native.Nat.{◌≤◌}
use Rattle.tracks.specs.Layout.{slices}
use Rattle.laying.proofs.Written.{Laying}
use Rattle.laying.proofs.inner.lay_routes.Given as goal

abbrev pub invariant-loop-net : goal.invariant-loop-net
invariant-loop-net l =
    (length l.yielded ≤ length l.nets) × Laying (slices l.nets l.counts l.xs l.ys) l.initial.file l.file (length l.yielded) l.at l.from
