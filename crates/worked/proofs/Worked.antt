-- The worked rows hold, by computation; and so does net 1 of the example job. Assumes nothing.
use mathlib.Core.Path.{◌≡◌, refl}
use mathlib.Core.List.{[], ◌∷◌}
use Rattle.laws.specs.Below.{every, some, first_where}
use Rattle.board.specs.Board.{blocked}
use Rattle.board.specs.Handed.{refused, judged, first_bad, board_rows, end_rows}
use Rattle.root.specs.Root.{root, root_in}
use Rattle.length.specs.Units.{units_of}
use Rattle.legs.specs.Pinched.{pinched, admitted}
use Rattle.legs.specs.Sight.{side, positive, negative, some_corner, spans, crossed, cells_free, row_wall, column_wall, between, edges_open, strictly_inside, vertices_open, sees}
use Rattle.legs.specs.Neighbours.{neighbours, visible}
use Rattle.legs.specs.Leg.{vertex_at, cell_at}
use Rattle.legs.specs.Stops.{first_of, vertex_stop, cell_stop, place_stop, column_stop, cells_stop, walled, edge_from, edge_stop, corner_stop, step_stop, edges_stop, first_stop}
use Rattle.sight.specs.Answers.{sight_row}
use Rattle.reach.specs.Turns.{turns}
use Rattle.theta.specs.Order.{sooner, least}
use Rattle.theta.specs.Search.{initial, choose, wins, around, close, expand, search, trail, path}
use Rattle.problem.specs.Problem.{problem}
use Rattle.router.specs.Answers.{work_row, search_row, route_row, found}
use Rattle.records.specs.Records.{byte, in_order}
use Rattle.kinds.specs.Job.{used_by, coordinate}
use Rattle.faults.specs.Faults.{net_before, record_rows, job_rows}
use Rattle.job.specs.Answers.{no_sides, board_row}
use Rattle.worked.specs.Table.{AllHold, table, corner, enough}

pub worked : AllHold table
unfolding units_of root root_in blocked side positive negative some_corner spans crossed every cells_free row_wall column_wall between edges_open pinched strictly_inside vertices_open sees admitted
    vertex_at cell_at first_of vertex_stop cell_stop place_stop column_stop cells_stop walled edge_from edge_stop corner_stop step_stop edges_stop first_stop sight_row neighbours visible turns initial sooner least choose wins around close expand search trail problem first_bad board_rows end_rows work_row search_row route_row
worked =
    (refl, (refl, (refl, (refl, (refl, (refl, (refl, (refl, (refl, (refl, (refl, (refl, (refl, (refl, (refl, (refl, (refl, (refl, tt))))))))))))))))))

-- net 1 of the example job: 3 expanded, 10 tests, by (1, 1)
pub net_1 : (route_row corner 0 0 2 1 enough ≡ found 2531486 3 2 3 10)
    × (path (problem corner 0 0 2 1) (search (problem corner 0 0 2 1)).state ≡ 0 ∷ 4 ∷ 5 ∷ [])
unfolding units_of root root_in blocked side positive negative some_corner spans crossed every cells_free row_wall column_wall between edges_open pinched strictly_inside vertices_open sees admitted
    neighbours visible turns initial sooner least choose wins around close expand search trail problem first_bad board_rows end_rows work_row search_row route_row
net_1 = (refl, refl)

-- a job's board with a side of 64 is refused: the one worked row of a job that knows the largest side
pub side_64 : board_row (1 ∷ 0 ∷ 64 ∷ 2 ∷ 0 ∷ 0 ∷ 0 ∷ 0 ∷ []) 200 ≡ judged no_sides (refused 14 0 0)
unfolding some first_where byte in_order used_by coordinate net_before record_rows job_rows board_row
side_64 = refl
