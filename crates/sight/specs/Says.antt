-- What an answer to a sight request says of the leg.
use Rattle.std.specs.Prelude.{ℕ, ◌≡◌, Result, Ok, Err}
use Rattle.board.specs.Board.{Board}
use Rattle.board.specs.Handed.{passes, leg_rows, refusal_row}
use Rattle.board.specs.declared.Refusal.{Refusal}
use Rattle.legs.specs.declared.Stop.{Stop}
use Rattle.legs.specs.declared.Stop.TheVariants as stop
use Rattle.legs.specs.Nearer.{Blocks, StopsFirst}

-- the request passes the rows 1 to 5
abbrev pub Passes : Board → (ax ay bx by : ℕ) → Type 0
Passes b ax ay bx by = leg_rows b ax ay bx by ≡ passes

-- clear: nothing blocks the leg; a cell, an edge or a vertex: it blocks the leg, and comes before all else that does, counted from
-- the leg's first end; a refusal: the rows 1 to 5 refuse the request so
abbrev pub Says : Board → (ax ay bx by : ℕ) → Result Stop Refusal → Type 0
Says b ax ay bx by (Ok stop.Clear) = Passes b ax ay bx by × ((t : Stop) → Blocks b ax ay bx by t → ⊥)
Says b ax ay bx by (Ok (stop.Cell x y)) = Passes b ax ay bx by × StopsFirst b ax ay bx by (stop.Cell x y)
Says b ax ay bx by (Ok (stop.Edge x y x2 y2)) = Passes b ax ay bx by × StopsFirst b ax ay bx by (stop.Edge x y x2 y2)
Says b ax ay bx by (Ok (stop.Vertex x y)) = Passes b ax ay bx by × StopsFirst b ax ay bx by (stop.Vertex x y)
Says b ax ay bx by (Err why) = leg_rows b ax ay bx by ≡ refusal_row why
