use borrow.Author.Tests.{lt-ltb, le-ltb}
use Rattle.legs.specs.Leg.{cell_at}
use Rattle.walls.proofs.leg.cell.Goals as goal

pub returns-then-a-b : goal.returns-then-a-b
unfolding cell_at
returns-then-a-b c = simp (lt-ltb _ _ c.if-a-b.true)

pub returns-else-a-b : goal.returns-else-a-b
unfolding cell_at
returns-else-a-b c = simp (le-ltb _ _ c.if-a-b.false)
