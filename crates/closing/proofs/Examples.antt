-- The demands speak of calls that there are: on a board of one cell 0, 7 and 8 are given; and of lists that lead at an angle. By
-- computation; assumes nothing.
use mathlib.Core.Path.{◌≡◌, refl}
use mathlib.Core.Bool.{true}
use mathlib.Core.List.{List, [], ◌∷◌}
use Prim.Native.Nat.{ℕ, zero, suc, ◌+◌, ◌<◌}
use native.Mathlib.Omega.{arith}
use lib.ListN.{length, replicate}
use Rattle.laws.specs.Below.{every}
use Rattle.board.specs.Board.{Board, board, blocked, vertices}
use Rattle.board.specs.Handed.{first_bad, board_rows, end_rows}
use Rattle.root.specs.Root.{root, root_in}
use Rattle.length.specs.Units.{units_of}
use Rattle.legs.specs.Pinched.{pinched, admitted}
use Rattle.legs.specs.Sight.{side, positive, negative, some_corner, spans, crossed, cells_free, row_wall, column_wall, between, edges_open, strictly_inside, vertices_open, sees}
use Rattle.legs.specs.Neighbours.{neighbours, visible}
use Rattle.reach.specs.Turns.{at, turns}
use Rattle.theta.specs.Order.{sooner, least}
use Rattle.theta.specs.Search.{initial, choose, wins, around, close, expand, search, trail}
use Rattle.problem.specs.Problem.{sees_from, problem}
use Rattle.router.specs.Answers.{Slices, slices, work_row, search_row, route_row, slices_after, Routed}
use Rattle.closing.specs.Demands.{Leads}

-- every request has its call
pub routed : (b : Board) (sx sy gx gy : ℕ) (before : Slices)
    → let h = route_row b sx sy gx gy before in
    Routed b sx sy gx gy before (slices_after (problem b sx sy gx gy) h.number before) h
routed b sx sy gx gy before = record { row_is = refl; after_is = refl }

-- one cell, free and blocked
abbrev pub free : Board
free = board (0 ∷ []) 1 1

abbrev pub full : Board
full = board (1 ∷ []) 1 1

-- work slices for four vertices, and a path slice
abbrev pub lent : (path : ℕ) → Slices
lent path = slices (replicate 4 0) (replicate 4 0) (replicate 4 0) (replicate 4 0) (replicate path 0)

-- from (0, 0) to (1, 1): the cell is free; free, and the path slice is too short; blocked
pub examples : ((route_row free 0 0 1 1 (lent 2)).number ≡ 0) × ((route_row free 0 0 1 1 (lent 1)).number ≡ 7)
    × ((route_row full 0 0 1 1 (lent 2)).number ≡ 8)
unfolding units_of root root_in blocked side positive negative some_corner spans crossed every cells_free row_wall column_wall between edges_open pinched strictly_inside vertices_open sees admitted
    neighbours visible turns initial sooner least choose wins around close expand search trail problem first_bad board_rows end_rows work_row search_row route_row
examples = (refl, refl, refl)

-- ---- at an angle

-- two free cells beside each other: a slanted leg leads from corner to corner
abbrev pub wide : Board
wide = board (0 ∷ 0 ∷ []) 2 1

abbrev pub slant : List ℕ
slant = 0 ∷ 5 ∷ []

pub slant_leads : Leads wide 0 0 2 1 slant
unfolding blocked side positive negative some_corner spans crossed every cells_free row_wall column_wall between edges_open pinched strictly_inside vertices_open sees
slant_leads = record { some = omega arith; first = refl; last = refl; on_board = below; sight = leg; unpinched = λ i h k. absurd (omega arith) }
  where
    below : (i : ℕ) → i < length slant → at slant i < vertices wide
    below zero l = omega arith
    below (suc zero) l = omega arith
    below (suc (suc i)) l = absurd (omega arith)

    leg : (i : ℕ) → i + 1 < length slant → sees_from wide (at slant i) (at slant (i + 1)) ≡ true
    leg zero l = refl
    leg (suc i) l = absurd (omega arith)
