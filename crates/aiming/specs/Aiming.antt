-- What C gets of direction: the table's number and its two places, and each value in a field of its own, 0 where its row has none.
use Rattle.board.specs.Handed.{Handed}
use Rattle.direction.specs.Answers as direction-calls
use Rattle.aiming.specs.declared.Toward.{Toward}

abbrev pub told_direction : Handed direction-calls.Toward → Toward
told_direction h = record { number = h.number; place = h.place; second = h.second; x = h.values.x; y = h.values.y }
