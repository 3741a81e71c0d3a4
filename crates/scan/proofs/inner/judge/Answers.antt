use mathlib.Core.Path.{◌∙◌}
use native.Mathlib.Omega.{arith}
use Rattle.scan.proofs.Judging.{unknown_row, unused_row_lem, wrong_row, right_row, nets_few, points_few}
use Rattle.scan.proofs.inner.judge.Goals as goal

pub returns-in_default : goal.returns-in_default
returns-in_default c = unknown_row _ _ (rw c.byte_at.ensures at c.in_default.ensures)

pub returns-in-Some : goal.returns-in-Some
returns-in-Some c = unused_row_lem _ _ _ (c.in-Ok.ensures ∙ c.byte_at.ensures) c.in-Some.ensures

pub returns-then-is_wrong : goal.returns-then-is_wrong
returns-then-is_wrong c =
    wrong_row _ _ _ (c.in-Ok.ensures ∙ c.byte_at.ensures) c.in_default-stray_byte.ensures c.requires.past_value.1 c.requires.past_value.0
    (c.from-net.ensures ∙ c.byte_at-2.ensures) c.place_given-place.ensures.given c.is_wrong.ensures.by_numbers c.if-is_wrong.true

pub after_record-requires-clause-counted : goal.after_record-requires-clause-counted
after_record-requires-clause-counted c =
    let known = c.requires.past_value.0 in
    (omega (arith, c.requires.i_bound, nets_few _ _ known), omega (arith, c.requires.i_bound, points_few _ _ known))

pub returns : goal.returns
returns c =
    right_row _ _ _ (c.in-Ok.ensures ∙ c.byte_at.ensures) c.in_default-stray_byte.ensures c.requires.past_value.1 c.requires.past_value.0
    (c.from-net.ensures ∙ c.byte_at-2.ensures) c.place_given-place.ensures.given c.is_wrong.ensures.by_numbers c.if-is_wrong.false c.after_record.ensures
