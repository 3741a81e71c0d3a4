use Rattle.glance.proofs.Seen.{glanced}
use Rattle.glance.proofs.inner.sighted.Goals as goal

pub returns : goal.returns
returns c = glanced _ c.args.x c.args.y c.requires c.around-c.ensures
