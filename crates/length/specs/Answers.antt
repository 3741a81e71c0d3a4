-- What the calls of this crate hand back, in document 01's numbers.
use Rattle.std.specs.Prelude.{ℕ, ℤ, Result}
use Rattle.board.specs.declared.Refusal.{Refusal}
use Rattle.board.specs.Handed.{Handed, answer, unless, handed, refusal_row}
use Rattle.spans.specs.Legs.{step, difference_rows, vertex_rows}
use Rattle.length.specs.Units.{units}
use Rattle.length.specs.declared.Length.{Length}

pub record Long : Type 0 where
  pub units : ℕ

abbrev pub no_length : Long
no_length = record { units = 0 }

-- of a leg by its differences
unfoldable pub length_row : (dx dy : ℤ) → Handed Long
length_row dx dy = unless no_length (difference_rows dx dy) (answer (record { units = units dx dy }))

-- of a leg by its vertices
unfoldable pub length_between_row : (ax ay bx by : ℕ) → Handed Long
length_between_row ax ay bx by =
    unless no_length (vertex_rows ax ay bx by) (answer (record { units = units (step ax bx) (step ay by) }))

-- the code's answers
abbrev pub handed_length : Result Length Refusal → Handed Long
handed_length = handed no_length (λ l. record { units = l.units }) refusal_row
