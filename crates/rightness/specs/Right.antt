-- When the bureau's routes are right, in plain words: of one net's points, of "no path", and of a whole file.
use Rattle.std.specs.Prelude.{ℕ, ◌+◌, ◌-◌, ◌<◌, ◌≡◌, ◌≢◌, ◌⊎◌, true, false, List, [], length}
use Rattle.board.specs.Board.{Board, is_vertex, number}
use Rattle.legs.specs.Sight.{sees}
use Rattle.legs.specs.Pinched.{pinched}
use Rattle.legs.specs.Neighbours.{visible}
use Rattle.reach.specs.Reach.{Reach}
use Rattle.kinds.specs.Job.{Net, nets}
use Rattle.tracks.specs.Tracks.{Point, Route}
use Rattle.bureau.specs.Paths.{point_at, start_of, goal_of}
use Rattle.bureau.specs.Nets.{job_board, job_net, points_for, in_job, in_routes, net_numbers}

-- a path: from the start to the goal, all vertices on the board, no two successive ones equal, every leg with sight, and no pinched vertex
-- but the first and the last
pub record PathRight (b : Board) (net : Net) (ps : List Point) : Type 0 where
  pub some : 0 < length ps
  pub first : point_at ps 0 ≡ start_of net
  pub last : point_at ps (length ps - 1) ≡ goal_of net
  pub on : (k : ℕ) → k < length ps → is_vertex b (point_at ps k).x (point_at ps k).y ≡ true
  pub differ : (k : ℕ) → k + 1 < length ps → point_at ps k ≢ point_at ps (k + 1)
  pub sight : (k : ℕ) → k + 1 < length ps
      → sees b (point_at ps k).x (point_at ps k).y (point_at ps (k + 1)).x (point_at ps (k + 1)).y ≡ true
  pub unpinched : (k : ℕ) → k + 2 < length ps → pinched b (point_at ps (k + 1)).x (point_at ps (k + 1)).y ≡ false

-- single moves between visible neighbours join a net's start to its goal
abbrev pub HasPath : Board → Net → Type 0
HasPath b net =
    let start = number b net.sx net.sy in
    let goal = number b net.gx net.gy in
    Reach (visible b start goal) start goal

-- no path: none is given, and none exists
pub record NoneRight (b : Board) (net : Net) (ps : List Point) : Type 0 where
  pub none : ps ≡ []
  pub apart : HasPath b net → ⊥

-- a file: it has the job's nets and no others, and each is right
pub record FileRight (job : List ℕ) (rs : List Route) : Type 0 where
  pub same : (number : ℕ) → number < net_numbers → in_job job number ≡ in_routes rs number
  pub each : (k : ℕ) → k < nets job
      → PathRight (job_board job) (job_net job k) (points_for rs (job_net job k).number) ⊎ NoneRight (job_board job) (job_net job k) (points_for rs (job_net job k).number)
