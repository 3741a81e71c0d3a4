-- `tally::inner::measure` judges net by net. The loop's invariant: the records of the nets before pass.
use mathlib.Core.List.{List}
use Prim.Native.Nat.{ℕ, ◌*◌, ◌≤◌}
use Rattle.tracks.specs.Layout.{slices}
use Rattle.tally.proofs.Measuring.{Judged}
use Rattle.tally.proofs.inner.measure.Given as goal

abbrev pub invariant-loop-k : goal.invariant-loop-k
invariant-loop-k l =
    (l.records ≤ l.last * 65536) × (l.points ≤ l.last * 65536) × (l.last ≤ 255)
    × ((xs ys : List ℕ) → Judged (slices l.nets l.counts xs ys) l.k l.records l.points l.last)
