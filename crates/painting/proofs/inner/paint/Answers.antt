use Prim.Native.Nat.{◌+◌, ◌*◌}
use native.Mathlib.Omega.{arith}
use Rattle.painting.specs.Cells.{Filled}
use Rattle.painting.proofs.Painting.{lines_more}
use Rattle.painting.proofs.inner.paint.Goals as goal

pub loop-y-preserved : goal.loop-y-preserved
loop-y-preserved c =
    let a = c.args in
    let row = c.loop-y.y * a.width in
    -- in this row the cells from the left to the right are blocked
    let blocked : Filled (row + a.keepout.left) (row + a.keepout.right) 1 _ _ = c.fill.ensures in
    (omega arith, omega arith, lines_more c.loop-y.invariant.2 blocked (omega arith) (omega arith) (omega arith))
