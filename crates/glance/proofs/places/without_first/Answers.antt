use Rattle.glance.proofs.places.Lowest.{without_is}
use Rattle.glance.proofs.places.without_first.Goals as goal

pub returns : goal.returns
returns c = without_is c.args.left c.requires
