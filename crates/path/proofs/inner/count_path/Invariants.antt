-- `path::inner::count_path` counts from the goal back.
use Prim.Native.Nat.{◌-◌, ◌≤◌}
use lib.ListN.{length}
use Rattle.path.proofs.Reading.{Reading}
use Rattle.path.proofs.inner.count_path.Given as goal

abbrev pub invariant-loop-v : goal.invariant-loop-v
invariant-loop-v l = Reading (length l.parents) l.start l.parents l.goal l.v l.count × (l.count ≤ length l.parents)

abbrev pub decreases-loop-v : goal.decreases-loop-v
decreases-loop-v l = length l.parents - l.count
