use native.Mathlib.Omega.{arith}
use Rattle.glance.proofs.places.Lowest.{lowest_is}
use Rattle.glance.proofs.places.first_place.Goals as goal

pub returns : goal.returns
returns c = lowest_is 64 c.args.left c.requires (omega (arith, c.ranges.left))
