-- What the check of the bureau's routes hands back, in the table's numbers, and what it leaves in the lent slices.
use Rattle.std.specs.Prelude.{ℕ, zero, suc, ◌*◌, ◌≡◌, Bool, true, false, ◌||◌, List, [], ◌∷◌, ltb, length, Result, Ok, Err}
use Rattle.board.specs.Board.{Board, vertices}
use Rattle.board.specs.Handed.{Verdict, passes, refused, row, and_then, Handed, answer, unless, handed}
use Rattle.records.specs.Records.{in_order}
use Rattle.refusals.specs.Refusals as job-refusals
use Rattle.kinds.specs.Job.{Net, nets, width, height, board_cells}
use Rattle.faults.specs.Faults.{job_rows}
use Rattle.theta.specs.Search.{Problem, search}
use Rattle.tracks.specs.Tracks.{Point, Route, routes_in}
use Rattle.tracks.specs.Faults as route-faults
use Rattle.tracks.specs.Answers.{laid}
use Rattle.bureau.specs.declared.CheckRefusal.{CheckRefusal}
use Rattle.bureau.specs.declared.CheckRefusal.TheVariants as said
use Rattle.bureau.specs.Paths.{problem_of}
use Rattle.bureau.specs.Nets.{job_board, job_net, points_for, odd_row, net_row, nets_rows, units_of, legs_of}

-- ---- what is handed back

-- how many nets there are
pub record Nets : Type 0 where
  pub nets : ℕ

abbrev pub no_nets : Nets
no_nets = record { nets = 0 }

-- the row of each refusal
abbrev pub check_refusal_row : CheckRefusal → Verdict
check_refusal_row (said.Job why) = job-refusals.refusal_row why
check_refusal_row (said.Routes why) = route-faults.refusal_row why
check_refusal_row said.Board = refused 19 0 0
check_refusal_row said.Work = refused 6 0 0
check_refusal_row said.Results = refused 21 0 0
check_refusal_row (said.Odd net) = refused 24 net 0
check_refusal_row (said.End net) = refused 25 net 0
check_refusal_row (said.Off net place) = refused 26 net place
check_refusal_row (said.Leg net place) = refused 27 net place
check_refusal_row (said.Path net) = refused 28 net 0

abbrev pub handed_check : Result ℕ CheckRefusal → Handed Nets
handed_check r = handed no_nets (λ (n : ℕ). record { nets = n }) check_refusal_row r

-- the job is refused, not the file: the two share numbers
abbrev pub of_job : CheckRefusal → Bool
of_job (said.Job why) = true
of_job (said.Routes why) = false
of_job said.Board = false
of_job said.Work = false
of_job said.Results = false
of_job (said.Odd net) = false
of_job (said.End net) = false
of_job (said.Off net place) = false
of_job (said.Leg net place) = false
of_job (said.Path net) = false

abbrev pub is_jobs : {A : Type 0} → Result A CheckRefusal → Bool
is_jobs (Ok a) = false
is_jobs (Err why) = of_job why

abbrev pub is_refused : Verdict → Bool
is_refused passes = false
is_refused (refused number place second) = true

-- ---- the lent slices

-- what a search works in
pub record Searching : Type 0 where
  pub g : List ℕ
  pub parents : List ℕ
  pub marks : List ℕ
  pub legs : List ℕ

-- the board, what a search works in, and the results: each net's length in units, and how many legs it has
pub record Slices : Type 0 where
  pub board : List ℕ
  pub work : Searching
  pub units : List ℕ
  pub leg_counts : List ℕ

abbrev pub searching : (g parents marks legs : List ℕ) → Searching
searching g parents marks legs = record { g = g; parents = parents; marks = marks; legs = legs }

abbrev pub slices : (board g parents marks legs units leg_counts : List ℕ) → Slices
slices board g parents marks legs units leg_counts =
    record { board = board; work = searching g parents marks legs; units = units; leg_counts = leg_counts }

-- ---- which a request gets

-- 6: a work slice is shorter than the number of vertices
abbrev pub is_work_short : (vertices : ℕ) → Searching → Bool
is_work_short n lent = ltb (length lent.g) n || (ltb (length lent.parents) n || (ltb (length lent.marks) n || ltb (length lent.legs) n))

unfoldable pub work_row : (vertices : ℕ) → Searching → Verdict
work_row n lent = row (is_work_short n lent) 6 0

-- 21: a result slice is shorter than the number of nets
abbrev pub is_result_short : (nets : ℕ) → (units leg_counts : List ℕ) → Bool
is_result_short n units leg_counts = ltb (length units) n || ltb (length leg_counts) n

-- 19, 6, then 21
unfoldable pub room_rows : List ℕ → Slices → Verdict
room_rows job lent =
    and_then (row (ltb (length lent.board) (width job * height job)) 19 0)
    (and_then (work_row (vertices (job_board job)) lent.work)
    (row (is_result_short (nets job) lent.units lent.leg_counts) 21 0))

-- the job's rows, the records', then those; nothing is written before all of them pass
unfoldable pub early_rows : (job file : List ℕ) → Slices → Verdict
early_rows job file lent = and_then (job_rows job) (and_then (route-faults.file_rows file) (room_rows job lent))

-- then 24, then 25 to 28 net by net
unfoldable pub check_rows : (job file : List ℕ) → Slices → Verdict
check_rows job file lent =
    and_then (early_rows job file lent) (and_then (odd_row job (routes_in file)) (nets_rows job (routes_in file)))

unfoldable pub check_row : (job file : List ℕ) → Slices → Handed Nets
check_row job file lent = unless no_nets (check_rows job file lent) (answer (record { nets = nets job }))

-- ---- what is left in the slices

-- where the rows pass it is written, and what lies beyond is kept; else all is kept
abbrev pub laid_if : (rows : Verdict) → (written before : List ℕ) → List ℕ
laid_if passes written before = laid written before
laid_if (refused number place second) written before = before

-- a search
abbrev pub after_search : Problem → Searching → Searching
after_search p before =
    let s = (search p).state in
    searching (laid s.g before.g) (laid s.parent before.parents) (laid s.mark before.marks) (laid s.legs before.legs)

-- a net is judged, unless one before it was refused: a search is made exactly if no path is claimed
abbrev pub after_net : (rows : Verdict) → Board → Net → List Point → Searching → Searching
after_net passes b net [] before = after_search (problem_of b net) before
after_net passes b net (p ∷ ps) before = before
after_net (refused number place second) b net ps before = before

-- the first n nets
unfoldable pub after_nets : List ℕ → List Route → (n : ℕ) → Searching → Searching
after_nets job rs zero before = before
after_nets job rs (suc n) before =
    after_net (in_order n (net_row job rs)) (job_board job) (job_net job n) (points_for rs (job_net job n).number) (after_nets job rs n before)

-- all nets, where the rows before them pass
abbrev pub work_if : (rows : Verdict) → List ℕ → List Route → Searching → Searching
work_if passes job rs before = after_nets job rs (nets job) before
work_if (refused number place second) job rs before = before

unfoldable pub slices_after : (job file : List ℕ) → Slices → Slices
slices_after job file before =
    let rs = routes_in file in
    let early = early_rows job file before in
    let rows = check_rows job file before in
    record {
      board = laid_if early (board_cells job) before.board;
      work = work_if (and_then early (odd_row job rs)) job rs before.work;
      units = laid_if rows (units_of job rs) before.units;
      leg_counts = laid_if rows (legs_of job rs) before.leg_counts;
    }

-- what the check answers, and what the slices hold before and after it
pub record Checked (job file : List ℕ) (before after : Slices) (r : Result ℕ CheckRefusal) : Type 0 where
  pub row_is : handed_check r ≡ check_row job file before
  pub job_is : is_jobs r ≡ is_refused (job_rows job)
  pub after_is : after ≡ slices_after job file before
