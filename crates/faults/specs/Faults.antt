-- Why a job is refused: document 01's rows 10 to 18, and document 02's 23, in the order in which they are checked.
use Rattle.std.specs.Prelude.{ℕ, zero, suc, Bool, not, ◌&&◌, cond, List, leb, ltb, eqb, length}
use Rattle.laws.specs.Below.{some}
use Rattle.board.specs.Handed.{Verdict, row, and_then, side_fits}
use Rattle.records.specs.Records.{records, byte, length_row, in_order, unused_row}
use Rattle.kinds.specs.Job.{longest_job, is_board, is_keepout, is_net, is_unknown, used_by, width, height, left, top, right}
use Rattle.kinds.specs.Job.{bottom, net_at}

-- ---- what can be wrong with record i, besides an unknown type (13) and an unused byte (23)

-- 12: record 0 is not a board, or a later one is
abbrev pub is_misplaced : List ℕ → ℕ → Bool
is_misplaced job i = cond (eqb i 0) (not (is_board job i)) (is_board job i)

-- 18: a keepout after a net
abbrev pub is_late : List ℕ → ℕ → Bool
is_late job i = is_keepout job i && some i (is_net job)

-- 14: a board side outside 1..63
abbrev pub is_oversized : List ℕ → ℕ → Bool
is_oversized job i = is_board job i && not (side_fits (width job) && side_fits (height job))

-- 15: a keepout is empty or beyond the board
abbrev pub is_bad_keepout : List ℕ → ℕ → Bool
is_bad_keepout job i =
    is_keepout job i
    && not ((ltb (left job i) (right job i) && ltb (top job i) (bottom job i))
    && (leb (right job i) (width job) && leb (bottom job i) (height job)))

-- 17: a net number not above the one before, 0 before the first
unfoldable pub net_before : List ℕ → ℕ → ℕ
net_before job zero = 0
net_before job (suc i) = cond (is_net job i) (net_at job i).number (net_before job i)

abbrev pub is_unordered : List ℕ → ℕ → Bool
is_unordered job i = is_net job i && leb (net_at job i).number (net_before job i)

-- 16: a net end off the board
abbrev pub is_on : List ℕ → (x y : ℕ) → Bool
is_on job x y = leb x (width job) && leb y (height job)

abbrev pub is_end_off : List ℕ → ℕ → Bool
is_end_off job i = let n = net_at job i in is_net job i && not (is_on job n.sx n.sy && is_on job n.gx n.gy)

-- each record is checked 13, 23, 12, 18, then 14, 15, or 17 before 16
unfoldable pub record_rows : List ℕ → ℕ → Verdict
record_rows job i =
    and_then (row (is_unknown job i) 13 i)
    (and_then (unused_row job (used_by (byte job i 0)) i)
    (and_then (row (is_misplaced job i) 12 i)
    (and_then (row (is_late job i) 18 i)
    (and_then (row (is_oversized job i) 14 i)
    (and_then (row (is_bad_keepout job i) 15 i)
    (and_then (row (is_unordered job i) 17 i)
    (row (is_end_off job i) 16 i)))))))

-- ---- the whole job

-- 10, 11, then the records in order; a job with no record has no board: 12
unfoldable pub job_rows : List ℕ → Verdict
job_rows job =
    and_then (row (ltb longest_job (length job)) 10 0)
    (and_then (length_row job)
    (and_then (row (eqb (records job) 0) 12 0)
    (in_order (records job) (record_rows job))))
