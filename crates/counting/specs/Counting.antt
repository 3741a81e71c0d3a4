-- What C gets of the count of blocked cells: the table's number and its two places, and the count.
use Rattle.board.specs.Handed.{Handed}
use Rattle.packed.specs.Answers.{Count}
use Rattle.counting.specs.declared.Counted.{Counted}

abbrev pub told_count : Handed Count → Counted
told_count h = record { number = h.number; place = h.place; second = h.second; blocked = h.values.blocked }
