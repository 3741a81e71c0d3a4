use Rattle.points.proofs.Same.{points_left}
use Rattle.points.proofs.Reading.{path_end, path_off, path_leg, path_fine}
use Rattle.points.proofs.inner.judge_points.Goals as goal

pub returns-then-is_end_wrong : goal.returns-then-is_end_wrong
returns-then-is_end_wrong c = path_end _ _ _ _ c.is_end_wrong.ensures c.if-is_end_wrong.true

pub returns-in-Some : goal.returns-in-Some
returns-in-Some c = path_off _ _ _ _ c.is_end_wrong.ensures c.if-is_end_wrong.false (c.in-Some.ensures _)

pub first_wrong_leg-requires : goal.first_wrong_leg-requires
first_wrong_leg-requires c =
    record { count_nonzero = c.requires.count_nonzero; points_on = points_left _ _ _ (c.in_default.ensures _) }

pub returns-in-Some-first_wrong_leg : goal.returns-in-Some-first_wrong_leg
returns-in-Some-first_wrong_leg c =
    path_leg _ _ _ _ c.is_end_wrong.ensures c.if-is_end_wrong.false (c.in_default.ensures _) c.in-Some-first_wrong_leg.ensures

pub returns : goal.returns
returns c = path_fine _ _ _ _ c.is_end_wrong.ensures c.if-is_end_wrong.false (c.in_default.ensures _) c.in_default-first_wrong_leg.ensures
