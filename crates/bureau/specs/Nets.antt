-- The nets of a job beside the routes of a file: which are in only one of them, each net judged in order, and what is measured.
use Rattle.std.specs.Prelude.{ℕ, ◌-◌, Bool, not, ◌&&◌, ◌||◌, cond, List, [], ◌∷◌, ltb, eqb, length}
use Rattle.laws.specs.Below.{some, first_where}
use Rattle.board.specs.Board.{Board, board}
use Rattle.board.specs.Handed.{Verdict, row}
use Rattle.records.specs.Records.{records, in_order, is_in}
use Rattle.kinds.specs.Job.{is_net, Net, net_at, net_record, nets, width, height, board_cells}
use Rattle.bits.specs.Packed.{entries}
use Rattle.tracks.specs.Tracks.{Point, Route}
use Rattle.tracks.specs.Layout.{numbers_of}
use Rattle.bureau.specs.Paths.{point_at, net_rows, units_along}

-- the job's board, and its net with an index counted from 0
abbrev pub job_board : List ℕ → Board
job_board job = board (board_cells job) (width job) (height job)

abbrev pub job_net : List ℕ → (index : ℕ) → Net
job_net job index = net_at job (net_record job index)

-- the points that the routes give for the net with this number
unfoldable pub points_for : List Route → (number : ℕ) → List Point
points_for [] number = []
points_for (r ∷ rs) number = cond (eqb r.net number) r.points (points_for rs number)

-- ---- 24

-- a net with this number is in the job; the routes have one
unfoldable pub in_job : List ℕ → (number : ℕ) → Bool
in_job job number = some (records job) (λ (i : ℕ). is_net job i && eqb (net_at job i).number number)

unfoldable pub in_routes : List Route → (number : ℕ) → Bool
in_routes rs number = is_in number (numbers_of rs)

-- missing, or not in the job
abbrev pub is_odd : List ℕ → List Route → (number : ℕ) → Bool
is_odd job rs number = (in_job job number && not (in_routes rs number)) || (not (in_job job number) && in_routes rs number)

-- a net number is a byte
abbrev pub net_numbers : ℕ
net_numbers = 256

-- the lowest such net
unfoldable pub odd_net : List ℕ → List Route → ℕ
odd_net job rs = first_where net_numbers (is_odd job rs)

abbrev pub odd_row : List ℕ → List Route → Verdict
odd_row job rs = row (ltb (odd_net job rs) net_numbers) 24 (odd_net job rs)

-- ---- 25 to 28, net by net

abbrev pub net_row : List ℕ → List Route → (index : ℕ) → Verdict
net_row job rs index = net_rows (job_board job) (job_net job index) (points_for rs (job_net job index).number)

unfoldable pub nets_rows : List ℕ → List Route → Verdict
nets_rows job rs = in_order (nets job) (net_row job rs)

-- ---- what is measured, a number for each net in the file's order, which is the job's

abbrev pub net_units : List ℕ → List Route → (index : ℕ) → ℕ
net_units job rs index = let ps = points_for rs (job_net job index).number in units_along (length ps) (point_at ps)

abbrev pub net_legs : List ℕ → List Route → (index : ℕ) → ℕ
net_legs job rs index = length (points_for rs (job_net job index).number) - 1

abbrev pub units_of : List ℕ → List Route → List ℕ
units_of job rs = entries (nets job) (net_units job rs)

abbrev pub legs_of : List ℕ → List Route → List ℕ
legs_of job rs = entries (nets job) (net_legs job rs)
