-- What the sight call hands back, in document 01's numbers.
use Rattle.std.specs.Prelude.{ℕ, Result}
use Rattle.board.specs.Board.{Board}
use Rattle.board.specs.declared.Refusal.{Refusal}
use Rattle.board.specs.Handed.{Handed, answer, unless, handed, leg_rows, refusal_row}
use Rattle.legs.specs.declared.Stop.{Stop}
use Rattle.legs.specs.declared.Stop.TheVariants as stop
use Rattle.legs.specs.Stops.{first_stop}

-- sight is 1 for a leg that is clear and 0 for one that is not; what stops it is of kind 1, the cell (x, y), of kind 2, the edge
-- from (x, y) to (x2, y2), or of kind 3, the vertex (x, y); each is 0 where it has nothing to say
pub record Seen : Type 0 where
  pub sight : ℕ
  pub kind : ℕ
  pub x : ℕ
  pub y : ℕ
  pub x2 : ℕ
  pub y2 : ℕ

abbrev pub seen_as : (sight kind x y x2 y2 : ℕ) → Seen
seen_as sight kind x y x2 y2 = record { sight = sight; kind = kind; x = x; y = y; x2 = x2; y2 = y2 }

abbrev pub unseen : Seen
unseen = seen_as 0 0 0 0 0 0

abbrev pub values_of : Stop → Seen
values_of stop.Clear = seen_as 1 0 0 0 0 0
values_of (stop.Cell x y) = seen_as 0 1 x y 0 0
values_of (stop.Edge x y x2 y2) = seen_as 0 2 x y x2 y2
values_of (stop.Vertex x y) = seen_as 0 3 x y 0 0

-- the code's answers
abbrev pub handed_sight : Result Stop Refusal → Handed Seen
handed_sight = handed unseen values_of refusal_row

-- the whole answer to a sight request
unfoldable pub sight_row : Board → (ax ay bx by : ℕ) → Handed Seen
sight_row b ax ay bx by = unless unseen (leg_rows b ax ay bx by) (answer (values_of (first_stop b ax ay bx by)))
