-- The line call for C: the line that a number asks for, and what C gets: the table's number and its places, and the bytes written.
use Rattle.std.specs.Prelude.{ℕ, cond, List, eqb}
use Rattle.board.specs.Handed.{Handed}
use Rattle.lines.specs.Lines.{net_line, none_line, refusal_line}
use Rattle.printing.specs.declared.Printed.{Printed}

-- the bytes: 0 asks for the line of a net with a path, 8 for that of a net without one, every other number for its refusal's
unfoldable pub printed : (net number place second units expansions tests width : ℕ) → (path : List ℕ) → List ℕ
printed net number place second units expansions tests width path =
    cond (eqb number 0) (net_line net units expansions tests width path)
    (cond (eqb number 8) (none_line net expansions tests) (refusal_line number place second))

abbrev pub told_line : Handed ℕ → Printed
told_line h = record { number = h.number; place = h.place; second = h.second; bytes = h.values }
