-- A leg's direction, and what the calls of this crate hand back, in document 01's numbers.
use Rattle.std.specs.Prelude.{ℕ, ◌*◌, ◌&&◌, ℤ, pos, nat_abs, eqb, Float, Result}
use Rattle.std.specs.Int.Signed.{lt_z}
use Rattle.std.specs.Float.{binary64}
use Rattle.std.specs.Float.Ieee.{round}
use Rattle.board.specs.Handed.{Verdict, Handed, row, answer, unless, handed, plus_zero, refused, refusal_row}
use Rattle.spans.specs.Legs.{step, difference_rows, vertex_rows}
use Rattle.length.specs.Units.{units_per_cell, units}
use Rattle.direction.specs.declared.Direction.{Direction}
use Rattle.direction.specs.declared.DirectionRefusal.{DirectionRefusal}
use Rattle.direction.specs.declared.DirectionRefusal.TheVariants.{Leg, Equal}

-- d × 2^20 / u, with the sign of d, rounded once
unfoldable pub quotient : (d : ℤ) → (u : ℕ) → Float
quotient d u = round binary64 (lt_z d (pos 0)) (nat_abs d * units_per_cell) u

pub record Toward : Type 0 where
  pub x : Float
  pub y : Float

abbrev pub no_direction : Toward
no_direction = record { x = plus_zero; y = plus_zero }

-- dx × 2^20 / u and dy × 2^20 / u
abbrev pub direction_of : (dx dy : ℤ) → Toward
direction_of dx dy = record { x = quotient dx (units dx dy); y = quotient dy (units dx dy) }

-- equal ends, whose differences are both 0, have none: row 9, which comes after 4 and 5
unfoldable pub aim_row : (dx dy : ℤ) → Handed Toward
aim_row dx dy = unless no_direction (row (eqb (nat_abs dx) 0 && eqb (nat_abs dy) 0) 9 0) (answer (direction_of dx dy))

-- of a leg by its differences
unfoldable pub direction_row : (dx dy : ℤ) → Handed Toward
direction_row dx dy = unless no_direction (difference_rows dx dy) (aim_row dx dy)

-- of a leg by its vertices
unfoldable pub direction_between_row : (ax ay bx by : ℕ) → Handed Toward
direction_between_row ax ay bx by = unless no_direction (vertex_rows ax ay bx by) (aim_row (step ax bx) (step ay by))

-- ---- the code's answers

-- the row of each refusal
abbrev pub direction_refusal_row : DirectionRefusal → Verdict
direction_refusal_row (Leg why) = refusal_row why
direction_refusal_row Equal = refused 9 0 0

abbrev pub handed_direction : Result Direction DirectionRefusal → Handed Toward
handed_direction = handed no_direction (λ d. record { x = d.x; y = d.y }) direction_refusal_row
