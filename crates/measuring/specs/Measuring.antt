-- What C gets of length: the table's number and its two places, and each value in a field of its own, 0 where its row has none.
use Rattle.board.specs.Handed.{Handed}
use Rattle.length.specs.Floats.{in_cells}
use Rattle.length.specs.Answers as length-calls
use Rattle.measuring.specs.declared.Long.{Long}

abbrev pub told_length : Handed length-calls.Long → Long
told_length h = record { number = h.number; place = h.place; second = h.second; units = h.values.units; cells = in_cells h.values.units }
