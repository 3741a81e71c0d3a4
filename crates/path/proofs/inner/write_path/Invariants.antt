-- `path::inner::write_path` writes from the goal back: the places from i on hold the path.
use mathlib.Core.Path.{◌≡◌}
use mathlib.Core.List.{◌++◌}
use Prim.Native.Nat.{◌-◌, ◌≤◌}
use lib.ListN.{length, take, drop}
use Rattle.reach.specs.Turns.{at}
use Rattle.theta.specs.Search.{trail}
use Rattle.path.proofs.inner.write_path.Given as goal

abbrev pub invariant-loop-i : goal.invariant-loop-i
invariant-loop-i l =
    (1 ≤ l.i) × (l.v ≡ at (trail l.start l.parents (length l.parents) l.goal) (l.i - 1))
    × (l.path ≡ take l.i l.initial.path ++ (drop l.i (trail l.start l.parents (length l.parents) l.goal) ++ drop l.count l.initial.path))
