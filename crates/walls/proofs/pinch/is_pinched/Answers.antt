use Rattle.walls.proofs.pinch.Around.{border_unpinched}
use Rattle.walls.proofs.pinch.is_pinched.Goals as goal

pub returns-else-inside : goal.returns-else-inside
returns-else-inside c = border_unpinched _ c.args.x c.args.y c.if-inside.false
