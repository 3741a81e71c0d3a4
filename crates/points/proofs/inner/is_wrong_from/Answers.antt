use Rattle.points.proofs.Reading.{leg_on, leg_told}
use Rattle.points.proofs.inner.is_wrong_from.Goals as goal

pub is_leg_wrong-requires : goal.is_leg_wrong-requires
is_leg_wrong-requires c = leg_on c.args.k c.requires.points_on c.requires.k_bound.0 c.point_at-from.ensures c.point_at-to.ensures

pub returns : goal.returns
returns c = leg_told _ _ c.point_at-from.ensures c.point_at-to.ensures c.is_leg_wrong.ensures
