use Rattle.std.proofs.Common.{◌≡◌, ◌+◌, ◌∙◌, ap, arith}
use Rattle.tracks.specs.Tracks.{point_of}
use Rattle.waypoints.proofs.Reading.{ends_told}
use Rattle.waypoints.proofs.inner.is_end_wrong.Goals as goal

pub returns : goal.returns
returns c =
    let a = c.args in
    let begin : a.points.first ≡ a.points.first + 0 = omega arith in
    ends_told _ _ _ _ (c.point_at.ensures ∙ ap (point_of a.file.now) begin) c.point_at-2.ensures c.eq-begins.ensures c.eq-ends.ensures
