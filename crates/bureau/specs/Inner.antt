-- What the code of the check says inside. No public contract cites it, so nobody need believe this.
use Rattle.std.specs.Prelude.{ℕ, suc, ◌+◌, ◌-◌, ◌≤◌, ◌<◌, ◌≡◌, ◌≢◌, true, false, cond, List, [], eqb, ltb, length, set, Option, Some, None, MatchOption, Result}
use Rattle.laws.specs.Below.{first_where}
use Rattle.board.specs.Limits.{largest_side}
use Rattle.board.specs.Board.{Board, vertices}
use Rattle.board.specs.Inner.{Sound, OnBoard}
use Rattle.board.specs.Handed.{Verdict, passes, refused, and_then, answer, unless, verdict}
use Rattle.records.specs.Records.{records}
use Rattle.kinds.specs.Job.{Net, nets, width, height, board_cells}
use Rattle.faults.specs.Inner.{Accepted}
use Rattle.tracks.specs.Faults.{file_rows}
use Rattle.tracks.specs.Tracks.{Point, Route, is_point, net_of, place_of, point_of, routes_in}
use Rattle.bureau.specs.declared.Fault.{Fault}
use Rattle.bureau.specs.declared.Fault.TheVariants as fault
use Rattle.bureau.specs.declared.Point as given
use Rattle.bureau.specs.declared.Points.{Points}
use Rattle.bureau.specs.declared.CheckRefusal.{CheckRefusal}
use Rattle.bureau.specs.Paths.{point_at, net_rows, units_along}
use Rattle.bureau.specs.Nets.{points_for, odd_row, nets_rows, units_of, legs_of}
use Rattle.bureau.specs.Answers.{no_nets, check_refusal_row, handed_check, is_jobs, Searching, laid_if, after_net, after_nets, work_if}

-- the code's point, as the definitions of a path have it
abbrev pub as_point : given.Point → Point
as_point p = record { x = p.x; y = p.y }

-- a place, where it lies before the end
abbrev pub place_before : (place end : ℕ) → Option ℕ
place_before place end = cond (ltb place end) (Some place) None

-- the points of the records from one on
abbrev pub record_points : List ℕ → (first : ℕ) → ℕ → Point
record_points file first k = point_of file (first + k)

-- the first record of the net with this number; the number of records if there is none
unfoldable pub first_record : List ℕ → (number : ℕ) → ℕ
first_record file number = first_where (records file) (λ (i : ℕ). eqb (net_of file i) number)

-- the n records from the first one on are the points of its net, and there are no more
pub record Run (file : List ℕ) (first n : ℕ) : Type 0 where
  pub some : 0 < n
  pub within : first + n ≤ records file
  pub points : (k : ℕ) → k < n → is_point file (first + k) ≡ true
  pub same : (k : ℕ) → k < n → net_of file (first + k) ≡ net_of file first
  pub ends : first + n < records file → net_of file (first + n) ≢ net_of file first

-- the same, as far as the last one: more may come
pub record Stretch (file : List ℕ) (first last : ℕ) : Type 0 where
  pub order : first ≤ last
  pub within : last < records file
  pub points : (i : ℕ) → first ≤ i → i ≤ last → is_point file i ≡ true
  pub same : (i : ℕ) → first ≤ i → i ≤ last → net_of file i ≡ net_of file first
  pub place : place_of file last ≡ last - first

-- it is the last of them
pub record LastOf (file : List ℕ) (first last : ℕ) : Type 0 where
  pub stretch : Stretch file first last
  pub ends : suc last < records file → net_of file (suc last) ≢ net_of file first

-- a file gives these points for the net with this number
pub record PointsOf (file : List ℕ) (number : ℕ) (p : Points) : Type 0 where
  pub some : 0 < p.count
  pub few : p.count ≤ 65536
  pub within : p.first + p.count ≤ records file
  pub length_is : length (points_for (routes_in file) number) ≡ p.count
  pub point_is : (k : ℕ) → k < p.count → point_at (points_for (routes_in file) number) k ≡ record_points file p.first k

-- the same from the net's first record on, or it gives none
abbrev pub PointsGiven : List ℕ → (number : ℕ) → Option Points → Type 0
PointsGiven file number given =
    MatchOption given (points_for (routes_in file) number ≡ []) (λ p. (p.first ≡ first_record file number) × PointsOf file number p)

-- the first n points are vertices of the board
pub record PointsOn (b : Board) (n : ℕ) (p : ℕ → Point) : Type 0 where
  pub on : (k : ℕ) → k < n → OnBoard b (p k).x (p k).y

-- the first n points have coordinates that some board has
pub record PointsSmall (n : ℕ) (p : ℕ → Point) : Type 0 where
  pub small : (k : ℕ) → k < n → ((p k).x ≤ largest_side) × ((p k).y ≤ largest_side)

-- the row of a fault of the net with this number
abbrev pub fault_row : (number : ℕ) → Fault → Verdict
fault_row number fault.End = refused 25 number 0
fault_row number (fault.Off place) = refused 26 number place
fault_row number (fault.Leg place) = refused 27 number place
fault_row number fault.Path = refused 28 number 0

-- a board and work slices that a search may use
pub record Room (b : Board) (w : Searching) : Type 0 where
  pub sound : Sound b
  pub g_room : vertices b ≤ length w.g
  pub parents_room : vertices b ≤ length w.parents
  pub marks_room : vertices b ≤ length w.marks
  pub legs_room : vertices b ≤ length w.legs

-- both ends of a net are vertices of the board
pub record EndsOf (b : Board) (net : Net) : Type 0 where
  pub start : OnBoard b net.sx net.sy
  pub goal : OnBoard b net.gx net.gy

-- an accepted job and a file that passed, with the job's cells, sides and number of nets
pub record OnJob (job file cells : List ℕ) (wide high many : ℕ) : Type 0 where
  pub accepted : Accepted job
  pub clean : file_rows file ≡ passes
  pub cells_are : cells ≡ board_cells job
  pub wide_is : wide ≡ width job
  pub high_is : high ≡ height job
  pub many_is : many ≡ nets job

-- a net has been judged, and all nets
pub record NetJudged (b : Board) (net : Net) (ps : List Point) (w w' : Searching) (r : Result (Unit {0}) Fault) : Type 0 where
  pub row_is : verdict (fault_row net.number) r ≡ net_rows b net ps
  pub work_is : w' ≡ after_net passes b net ps w

pub record NetsJudged (job : List ℕ) (rs : List Route) (w w' : Searching) (r : Result (Unit {0}) CheckRefusal) : Type 0 where
  pub row_is : verdict check_refusal_row r ≡ nets_rows job rs
  pub job_is : is_jobs r ≡ false
  pub work_is : w' ≡ after_nets job rs (nets job) w

-- an accepted job with so many nets, and a file that gives each of them rightly
pub record AllRight (job file : List ℕ) (many : ℕ) : Type 0 where
  pub accepted : Accepted job
  pub clean : file_rows file ≡ passes
  pub right : nets_rows job (routes_in file) ≡ passes
  pub many_is : many ≡ nets job

-- the length and the legs of these points are written at an index
pub record Measured (ps : List Point) (index : ℕ) (units leg_counts units' leg_counts' : List ℕ) : Type 0 where
  pub units_are : units' ≡ set units index (units_along (length ps) (point_at ps))
  pub counts_are : leg_counts' ≡ set leg_counts index (length ps - 1)

-- what is said of the nets, and what the slices hold, where the checks before them have passed
pub record NetsChecked (job file : List ℕ) (w w' : Searching) (units units' leg_counts leg_counts' : List ℕ) (r : Result ℕ CheckRefusal) : Type 0 where
  pub row_is : handed_check r ≡ unless no_nets (and_then (odd_row job (routes_in file)) (nets_rows job (routes_in file))) (answer (record { nets = nets job }))
  pub job_is : is_jobs r ≡ false
  pub work_is : w' ≡ work_if (odd_row job (routes_in file)) job (routes_in file) w
  pub units_is : units' ≡ laid_if (and_then (odd_row job (routes_in file)) (nets_rows job (routes_in file))) (units_of job (routes_in file)) units
  pub counts_is : leg_counts' ≡ laid_if (and_then (odd_row job (routes_in file)) (nets_rows job (routes_in file))) (legs_of job (routes_in file)) leg_counts
