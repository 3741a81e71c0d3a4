use Rattle.std.proofs.Common.{ℕ, ◌≡◌, ◌+◌, true, false, eqb, rules, tests}
use Rattle.std.proofs.lemmas.Iterator.{first_from_Range}
use Rattle.board.specs.Checked.{board_of}
use Rattle.bureau.specs.Paths.{is_leg_wrong, leg_place}
use Rattle.bureau.specs.Inner.{record_points}
use Rattle.records.proofs.Stray.{found_first}
use Rattle.points.proofs.inner.first_wrong_leg.Goals as goal

pub returns : goal.returns
unfolding leg_place
returns c =
    let a = c.args in
    let p = record_points a.file.now a.points.first in
    let wrong = λ (k : ℕ). is_leg_wrong (board_of a.board.now) (p k) (p (k + 1)) (eqb (k + 2) a.points.count) in
    found_first wrong _ _ (first_from_Range _ _ _ _ (λ k. wrong k ≡ true) (λ k. wrong k ≡ false) c.find.ensures.ran
    (λ x q k. search (rules, tests))
    (λ x q k. (search rules, search (rules, tests))))
