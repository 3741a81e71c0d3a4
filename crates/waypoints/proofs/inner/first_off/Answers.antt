use Rattle.std.proofs.Common.{ℕ, [], ◌≡◌, true, false, ◌+◌, rules, tests}
use Rattle.std.proofs.lemmas.Iterator.{first_from_Range}
use Rattle.board.specs.Board.{board}
use Rattle.tracks.specs.Tracks.{point_of}
use Rattle.bureau.specs.Paths.{is_off, off_place}
use Rattle.records.proofs.Stray.{found_first}
use Rattle.waypoints.proofs.inner.first_off.Goals as goal

pub returns : goal.returns
unfolding off_place
returns c = λ cells.
    let a = c.args in
    let off = λ (k : ℕ). is_off (board [] a.width a.height) (point_of a.file.now (a.points.first + k)) in
    found_first off _ _ (first_from_Range _ _ _ _ (λ k. off k ≡ true) (λ k. off k ≡ false) c.find.ensures.ran
    (λ x q k. search (rules, tests))
    (λ x q k. (search rules, search (rules, tests))))
