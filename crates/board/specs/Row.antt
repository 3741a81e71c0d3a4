-- A row of the table as the code has it.
use Rattle.board.specs.Handed.{Verdict, refused}
use Rattle.board.specs.declared.row.Row.{Row}

-- what the rows say of a request that this one refuses
abbrev pub row_of : Row → Verdict
row_of r = refused r.number r.place r.second
