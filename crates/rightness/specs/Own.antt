-- Our own routes for the nets of a job, on its keepouts alone, as a route file tells them.
use Rattle.std.specs.Prelude.{ℕ, zero, suc, cond, List, [], ◌∷◌, ◌++◌}
use Rattle.board.specs.Board.{Board, column, row}
use Rattle.theta.specs.Search.{search, path}
use Rattle.kinds.specs.Job.{Net, nets}
use Rattle.tracks.specs.Tracks.{Point, Route, route}
use Rattle.bureau.specs.Paths.{point, problem_of}
use Rattle.bureau.specs.Nets.{job_board, job_net}

-- vertices by their numbers, as points
abbrev pub vertex_point : Board → (v : ℕ) → Point
vertex_point b v = point (column b v) (row b v)

unfoldable pub vertex_points : Board → List ℕ → List Point
vertex_points b [] = []
vertex_points b (v ∷ vs) = vertex_point b v ∷ vertex_points b vs

-- the path that the search finds, or no points
unfoldable pub own_points : Board → Net → List Point
own_points b net = let p = problem_of b net in cond (search p).found (vertex_points b (path p (search p).state)) []

-- the first n nets, and all of them
unfoldable pub own_up_to : List ℕ → (n : ℕ) → List Route
own_up_to job zero = []
own_up_to job (suc n) = own_up_to job n ++ (route (job_net job n).number (own_points (job_board job) (job_net job n)) ∷ [])

abbrev pub own_routes : List ℕ → List Route
own_routes job = own_up_to job (nets job)
