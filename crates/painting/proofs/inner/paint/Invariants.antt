-- `painting::inner::paint` blocks a rectangle row by row. The loop's invariant: the rows above are painted.
use Prim.Native.Nat.{◌-◌, ◌≤◌}
use Rattle.kinds.specs.Job.{inside}
use Rattle.painting.specs.Cells.{Painted}
use Rattle.painting.proofs.inner.paint.Given as goal

abbrev pub invariant-loop-y : goal.invariant-loop-y
invariant-loop-y l = (l.keepout.top ≤ l.y) × (l.y ≤ l.keepout.bottom) × Painted l.width (inside l.keepout.left l.keepout.top l.keepout.right l.y) l.initial.board l.board

abbrev pub decreases-loop-y : goal.decreases-loop-y
decreases-loop-y l = l.keepout.bottom - l.y
