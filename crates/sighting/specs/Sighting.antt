-- What C gets of sight: the table's number and its two places, and each value in a field of its own, 0 where its row has none.
use Rattle.board.specs.Handed.{Handed}
use Rattle.sight.specs.Answers as sight-call
use Rattle.sighting.specs.declared.Seen.{Seen}

abbrev pub told_sight : Handed sight-call.Seen → Seen
told_sight h =
    let v = h.values in
    record {
      number = h.number;
      place = h.place;
      second = h.second;
      sight = v.sight;
      kind = v.kind;
      x = v.x;
      y = v.y;
      x2 = v.x2;
      y2 = v.y2;
    }
