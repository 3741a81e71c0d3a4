-- What C gets of a route file that is written, and of a path turned into points: the table's number and its two places, and the records.
use Rattle.board.specs.Handed.{Verdict, passes, refused, Handed}
use Rattle.tracks.specs.Answers.{Records}
use Rattle.recording.specs.declared.Recorded.{Recorded}
use Rattle.recording.specs.declared.Turned.{Turned}

abbrev pub told_records : Handed Records → Recorded
told_records h = record { number = h.number; place = h.place; second = h.second; records = h.values.records }

-- rows that pass give 0 and no place
abbrev pub told_points : Verdict → Turned
told_points passes = record { number = 0; place = 0; second = 0 }
told_points (refused number place second) = record { number = number; place = place; second = second }
