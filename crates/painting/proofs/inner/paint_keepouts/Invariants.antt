-- `painting::inner::paint_keepouts` blocks every keepout. The loop's invariant: those of the records before are painted.
use mathlib.Core.Path.{◌≡◌}
use Prim.Native.Nat.{◌-◌, ◌≤◌}
use Rattle.records.specs.Records.{records}
use Rattle.painting.specs.Cells.{Painted}
use Rattle.painting.proofs.Painting.{covered_by}
use Rattle.painting.proofs.inner.paint_keepouts.Given as goal

abbrev pub invariant-loop-i : goal.invariant-loop-i
invariant-loop-i l = (l.i ≤ l.i-end) × (l.i-end ≡ records l.job) × Painted l.wide (covered_by l.job l.wide l.i) l.initial.board l.board

abbrev pub decreases-loop-i : goal.decreases-loop-i
decreases-loop-i l = l.i-end - l.i
