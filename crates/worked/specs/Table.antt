-- Document 01's worked rows that are marked proved, as document 02 amends them, and what stops a leg on their boards (item 2): one
-- table.
use Rattle.std.specs.Prelude.{ℕ, ◌≡◌, Bool, true, false, List, [], ◌∷◌, ℤ, pos, negsuc, replicate}
use Rattle.board.specs.Limits.{most_vertices}
use Rattle.board.specs.Board.{Board, board}
use Rattle.board.specs.Handed.{Handed, answer}
use Rattle.length.specs.Units.{units}
use Rattle.legs.specs.declared.Stop.{Stop}
use Rattle.legs.specs.declared.Stop.TheVariants.{Clear, Cell, Edge, Vertex}
use Rattle.legs.specs.Sight.{sees}
use Rattle.sight.specs.Answers.{values_of, sight_row}
use Rattle.router.specs.Answers.{Route, Slices, slices, route_row, found, none}

-- a question and its answer
pub data Row : Type 0 where
  length_of : (dx dy : ℤ) → (answer : ℕ) → Row
  sight_of : (b : Board) → (ax ay bx by : ℕ) → (answer : Bool) → Row
  stop_of : (b : Board) → (ax ay bx by : ℕ) → (answer : Stop) → Row
  route_of : (b : Board) → (sx sy gx gy : ℕ) → (answer : Handed Route) → Row

-- lent slices with an entry for each vertex of the largest board
abbrev pub enough : Slices
enough = let l : List ℕ = replicate most_vertices 0 in slices l l l l l

-- the definitions answer the question so
abbrev pub Holds : Row → Type 0
Holds (length_of dx dy answer) = units dx dy ≡ answer
Holds (sight_of b ax ay bx by answer) = sees b ax ay bx by ≡ answer
Holds (stop_of b ax ay bx by first) = sight_row b ax ay bx by ≡ answer (values_of first)
Holds (route_of b sx sy gx gy answer) = route_row b sx sy gx gy enough ≡ answer

abbrev pub AllHold : List Row → Type 0
AllHold [] = Unit {0}
AllHold (r ∷ rs) = Holds r × AllHold rs

-- 2×2, (1,0) blocked
abbrev pub corner : Board
corner = board (0 ∷ 1 ∷ 0 ∷ 0 ∷ []) 2 2

-- 2×2, (1,0) and (0,1) blocked
abbrev pub gap : Board
gap = board (0 ∷ 1 ∷ 1 ∷ 0 ∷ []) 2 2

-- 1×1, free and blocked
abbrev pub free : Board
free = board (0 ∷ []) 1 1

abbrev pub full : Board
full = board (1 ∷ []) 1 1

-- 3×1, (1,0) blocked
abbrev pub gate : Board
gate = board (0 ∷ 1 ∷ 0 ∷ []) 3 1

-- units, vertices, legs, expanded and tests of a path; expanded and tests without one
abbrev pub table : List Row
table =
    length_of (pos 0) (pos 0) 0
    ∷ length_of (pos 1) (pos 1) 1482910
    ∷ length_of (negsuc 0) (pos 2) 2344687
    ∷ length_of (pos 3) (negsuc 3) 5242880
    ∷ sight_of corner 0 0 2 1 false
    ∷ sight_of corner 0 0 2 2 true
    ∷ sight_of corner 1 0 1 1 true
    ∷ sight_of corner 1 0 2 0 false
    ∷ sight_of gap 0 0 2 2 false
    ∷ stop_of corner 0 0 2 1 (Cell 1 0)
    ∷ stop_of corner 0 0 2 2 Clear
    ∷ stop_of corner 1 0 2 0 (Edge 1 0 2 0)
    ∷ stop_of corner 2 0 0 0 (Edge 2 0 1 0)
    ∷ stop_of gap 0 0 2 2 (Vertex 1 1)
    ∷ route_of free 0 0 1 1 (found 1482910 2 1 1 3)
    ∷ route_of full 0 0 1 1 (none 1 0)
    ∷ route_of full 0 0 0 0 (found 0 1 0 0 0)
    ∷ route_of gate 0 0 3 0 (none 4 6)
    ∷ []
