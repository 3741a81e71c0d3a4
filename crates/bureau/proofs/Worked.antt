-- Small paths on document 01's board of 2 by 2 with (1, 0) blocked, by computation: each row at its boundary. Assumes nothing.
use mathlib.Core.Path.{◌≡◌, refl}
use mathlib.Core.List.{List, [], ◌∷◌}
use Rattle.laws.specs.Below.{every, first_where}
use Rattle.board.specs.Board.{Board, board, blocked}
use Rattle.board.specs.Handed.{Verdict, passes, refused}
use Rattle.root.specs.Root.{root, root_in}
use Rattle.length.specs.Units.{units_of}
use Rattle.legs.specs.Pinched.{pinched}
use Rattle.legs.specs.Sight.{side, positive, negative, some_corner, spans, crossed, cells_free, row_wall, column_wall, between, edges_open, strictly_inside, vertices_open, sees}
use Rattle.kinds.specs.Job.{Net}
use Rattle.tracks.specs.Tracks.{Point}
use Rattle.bureau.specs.Paths.{point, point_at, is_end_wrong, off_place, is_leg_wrong, leg_place, path_rows, net_rows, total, units_along}

abbrev corner : Board
corner = board (0 ∷ 1 ∷ 0 ∷ 0 ∷ []) 2 2

-- net 1, from (0, 0) to (2, 1)
abbrev net1 : Net
net1 = record { number = 1; sx = 0; sy = 0; gx = 2; gy = 1 }

abbrev judge : List Point → Verdict
judge ps = net_rows corner net1 ps

-- our own route passes and has document 01's length; a further bend passes; another end is 25
pub right_paths : (judge (point 0 0 ∷ point 1 1 ∷ point 2 1 ∷ []) ≡ passes)
    × (units_along 3 (point_at (point 0 0 ∷ point 1 1 ∷ point 2 1 ∷ [])) ≡ 2531486)
    × (judge (point 0 0 ∷ point 1 1 ∷ point 1 2 ∷ point 2 1 ∷ []) ≡ passes)
    × (judge (point 0 0 ∷ point 1 1 ∷ point 2 2 ∷ []) ≡ refused 25 1 0)
unfolding units_of root root_in blocked side positive negative some_corner spans crossed every first_where cells_free row_wall column_wall between edges_open pinched strictly_inside vertices_open sees
    is_end_wrong off_place is_leg_wrong leg_place path_rows total units_along
right_paths = (refl, refl, refl, refl)

-- (3, 0) would have the number of (0, 1): it is off the board; 26 comes before the leg of zero length at place 0
pub off_paths : (judge (point 0 0 ∷ point 3 0 ∷ point 2 1 ∷ []) ≡ refused 26 1 1)
    × (judge (point 0 0 ∷ point 0 0 ∷ point 0 3 ∷ point 2 1 ∷ []) ≡ refused 26 1 2)
unfolding units_of root root_in blocked side positive negative some_corner spans crossed every first_where cells_free row_wall column_wall between edges_open pinched strictly_inside vertices_open sees
    is_end_wrong off_place is_leg_wrong leg_place path_rows
off_paths = (refl, refl)

-- a leg that clips the blocked cell; a leg of zero length, the last one too
pub leg_paths : (judge (point 0 0 ∷ point 2 1 ∷ []) ≡ refused 27 1 0)
    × (judge (point 0 0 ∷ point 1 1 ∷ point 1 1 ∷ point 2 1 ∷ []) ≡ refused 27 1 1)
    × (judge (point 0 0 ∷ point 1 1 ∷ point 2 1 ∷ point 2 1 ∷ []) ≡ refused 27 1 2)
unfolding units_of root root_in blocked side positive negative some_corner spans crossed every first_where cells_free row_wall column_wall between edges_open pinched strictly_inside vertices_open sees
    is_end_wrong off_place is_leg_wrong leg_place path_rows
leg_paths = (refl, refl, refl)
