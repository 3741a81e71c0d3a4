-- `gather::inner::gather` takes the records from the last to the first. The loop's invariant: those taken are in the slices.
use Rattle.tracks.specs.Layout.{slices}
use Rattle.gather.proofs.Taking.{Taken}
use Rattle.gather.proofs.inner.gather.Given as goal

abbrev pub invariant-loop-i : goal.invariant-loop-i
invariant-loop-i l = Taken l.file (slices l.initial.nets l.initial.counts l.initial.xs l.initial.ys) (slices l.nets l.counts l.xs l.ys) l.sizes.nets l.sizes.points l.i l.k l.j
