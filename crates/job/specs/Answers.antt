-- What the job calls hand back: a board or a net, or one of the numbers 10 to 20 and 23.
use Rattle.std.specs.Prelude.{ℕ, ◌*◌, ◌≡◌, cond, List, ◌++◌, leb, ltb, eqb, length, drop, Option, Some, None, Result}
use Rattle.board.specs.Handed.{Verdict, refused, row, and_then, Handed, answer, unless, judged, handed}
use Rattle.job.specs.declared.Sides as given
use Rattle.job.specs.declared.BoardRefusal.{BoardRefusal}
use Rattle.job.specs.declared.BoardRefusal.TheVariants as unread
use Rattle.job.specs.declared.NetRefusal.{NetRefusal}
use Rattle.job.specs.declared.NetRefusal.TheVariants as unfound
use Rattle.kinds.specs.declared.Net as kinds-given
use Rattle.kinds.specs.Kind.{as_net}
use Rattle.kinds.specs.Job.{width, height, board_cells, nets, net_record, Net, net_at}
use Rattle.refusals.specs.Refusals.{refusal_row}
use Rattle.faults.specs.Faults.{job_rows}

-- ---- a board read

-- the sides and how many nets there are
pub record Sides : Type 0 where
  pub width : ℕ
  pub height : ℕ
  pub nets : ℕ

abbrev pub no_sides : Sides
no_sides = record { width = 0; height = 0; nets = 0 }

-- the row of each refusal
abbrev pub board_refusal : BoardRefusal → Verdict
board_refusal (unread.Job why) = refusal_row why
board_refusal unread.Short = refused 19 0 0

-- the sides that the code has
abbrev pub as_sides : given.Sides → Sides
as_sides s = record { width = s.width; height = s.height; nets = s.nets }

-- number, places and values of each case
abbrev pub handed_board : Result given.Sides BoardRefusal → Handed Sides
handed_board r = handed no_sides as_sides board_refusal r

-- 10 to 18 and 23, then 19: the lent slice is shorter than the cells
unfoldable pub board_row : List ℕ → (lent : ℕ) → Handed Sides
board_row job lent =
    unless no_sides (and_then (job_rows job) (row (ltb lent (width job * height job)) 19 0))
    (answer (record { width = width job; height = height job; nets = nets job }))

-- what the lent slice holds afterwards: once the board is read the cells, and beyond them what it held; else all that it held
unfoldable pub board_after : List ℕ → (before : List ℕ) → List ℕ
board_after job before =
    cond (eqb (board_row job (length before)).number 0) (board_cells job ++ drop (width job * height job) before) before

-- what the call hands back, and what the lent slice holds before and after it
pub record BoardRead (job before : List ℕ) (h : Handed Sides) (after : List ℕ) : Type 0 where
  pub row_is : h ≡ board_row job (length before)
  pub after_is : after ≡ board_after job before

-- ---- a net read

abbrev pub no_net : Net
no_net = record { number = 0; sx = 0; sy = 0; gx = 0; gy = 0 }

abbrev pub net_refusal : NetRefusal → Verdict
net_refusal (unfound.Job why) = refusal_row why
net_refusal unfound.NoNet = refused 20 0 0

abbrev pub handed_net : Result kinds-given.Net NetRefusal → Handed Net
handed_net r = handed no_net as_net net_refusal r

-- the same of a net looked up in a job that is not refused
abbrev pub handed_found : Option kinds-given.Net → Handed Net
handed_found (Some n) = answer (as_net n)
handed_found None = judged no_net (refused 20 0 0)

-- 10 to 18 and 23, then 20: no net with that index
unfoldable pub net_row : List ℕ → (index : ℕ) → Handed Net
net_row job index =
    unless no_net (and_then (job_rows job) (row (leb (nets job) index) 20 0)) (answer (net_at job (net_record job index)))
