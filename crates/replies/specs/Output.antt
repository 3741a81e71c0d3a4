-- What the route program prints for a job: a line for each net in order, or the line of the refusal.
use Rattle.std.specs.Prelude.{ℕ, zero, suc, cond, List, [], ◌++◌}
use Rattle.board.specs.Board.{Board, board}
use Rattle.board.specs.Handed.{Verdict, passes, refused}
use Rattle.reach.specs.Turns.{at}
use Rattle.theta.specs.Search.{search, path}
use Rattle.problem.specs.Problem.{problem}
use Rattle.kinds.specs.Job.{width, height, board_cells, nets, net_record, Net, net_at}
use Rattle.faults.specs.Faults.{job_rows}
use Rattle.lines.specs.Lines.{net_line, none_line, refusal_line}

-- the board of an accepted job
abbrev pub board_of : List ℕ → Board
board_of job = board (board_cells job) (width job) (height job)

-- the line of a net on a board: the path that Basic Theta* finds between its ends, or none, with both counts
unfoldable pub line_of : Board → Net → List ℕ
line_of b n =
    let p = problem b n.sx n.sy n.gx n.gy in
    let s = (search p).state in
    cond (search p).found
    (net_line n.number (at s.g p.goal) s.expansions s.tests b.width (path p s))
    (none_line n.number s.expansions s.tests)

-- how many lines there are, and line i, counted from 0, by what the checks say of the job
abbrev pub count_by : Verdict → List ℕ → ℕ
count_by passes job = nets job
count_by (refused number place second) job = 1

abbrev pub line_by : Verdict → List ℕ → (i : ℕ) → List ℕ
line_by passes job i = line_of (board_of job) (net_at job (net_record job i))
line_by (refused number place second) job i = refusal_line number place second

abbrev pub line_count : List ℕ → ℕ
line_count job = count_by (job_rows job) job

abbrev pub line_at : List ℕ → (i : ℕ) → List ℕ
line_at job i = line_by (job_rows job) job i

-- the first n lines, one after another
unfoldable pub lines_up_to : List ℕ → ℕ → List ℕ
lines_up_to job zero = []
lines_up_to job (suc n) = lines_up_to job n ++ line_at job n

-- the whole output
abbrev pub output : List ℕ → List ℕ
output job = lines_up_to job (line_count job)
