-- What C gets of a packed board that is read or written: the table's number and its two places.
use Rattle.board.specs.Handed.{Verdict, passes, refused}
use Rattle.packing.specs.declared.Packing.{Packing}

-- rows that pass give 0 and no place
abbrev pub told_rows : Verdict → Packing
told_rows passes = record { number = 0; place = 0; second = 0 }
told_rows (refused number place second) = record { number = number; place = place; second = second }
