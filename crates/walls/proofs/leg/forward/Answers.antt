use borrow.Author.Tests.{lt-ltb, le-ltb}
use Rattle.walls.specs.Leg.{forward}
use Rattle.walls.proofs.leg.forward.Goals as goal

pub returns-then-a-b : goal.returns-then-a-b
unfolding forward
returns-then-a-b c = simp (lt-ltb _ _ c.if-a-b.true)

pub returns-else-a-b : goal.returns-else-a-b
unfolding forward
returns-else-a-b c = simp (le-ltb _ _ c.if-a-b.false)
