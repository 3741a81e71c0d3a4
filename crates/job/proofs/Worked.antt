-- Document 01's example job, and small jobs for each refusal, by computation. Assumes nothing.
use mathlib.Core.Path.{◌≡◌, refl}
use mathlib.Core.List.{List, [], ◌∷◌, ◌++◌}
use Prim.Native.Nat.{ℕ, ◌<◌}
use lib.ListN.{length}
use borrow.Author.Tests.{lt-ltb}
use Rattle.laws.specs.Below.{some, how_many, first_where}
use Rattle.board.specs.Handed.{Handed, refused, answer, judged}
use Rattle.records.specs.Records.{byte, in_order}
use Rattle.kinds.specs.Job.{longest_job, used_by, coordinate, in_keepout, cells_up_to, board_cells, Net, nets, net_record}
use Rattle.faults.specs.Faults.{net_before, record_rows, job_rows}
use Rattle.job.specs.Answers.{Sides, no_sides, board_row, board_after, no_net, net_row}

abbrev pub board2 : List ℕ
board2 = 1 ∷ 0 ∷ 2 ∷ 2 ∷ 0 ∷ 0 ∷ 0 ∷ 0 ∷ []

abbrev pub keepout : List ℕ
keepout = 2 ∷ 0 ∷ 1 ∷ 0 ∷ 2 ∷ 1 ∷ 0 ∷ 0 ∷ []

abbrev pub net1 : List ℕ
net1 = 3 ∷ 1 ∷ 0 ∷ 0 ∷ 2 ∷ 1 ∷ 0 ∷ 0 ∷ []

abbrev pub net2 : List ℕ
net2 = 3 ∷ 2 ∷ 0 ∷ 0 ∷ 0 ∷ 0 ∷ 0 ∷ 0 ∷ []

-- 0100020200000000 0200010002010000 0301000002010000 0302000000000000
abbrev pub example : List ℕ
example = board2 ++ keepout ++ net1 ++ net2

-- ---- what the calls hand back

abbrev sides : (width height nets : ℕ) → Handed Sides
sides width height nets = answer (record { width = width; height = height; nets = nets })

abbrev net : (number sx sy gx gy : ℕ) → Handed Net
net number sx sy gx gy = answer (record { number = number; sx = sx; sy = sy; gx = gx; gy = gy })

abbrev no : (number place : ℕ) → Handed Sides
no number place = judged no_sides (refused number place 0)

-- an unused byte has its record and its byte
abbrev unused : (place byte : ℕ) → Handed Sides
unused place byte = judged no_sides (refused 23 place byte)

pub example_read : (board_cells example ≡ 0 ∷ 1 ∷ 0 ∷ 0 ∷ [])
    × (nets example ≡ 2)
    × (net_record example 0 ≡ 2)
    × (net_record example 1 ≡ 3)
    × (board_row example 4 ≡ sides 2 2 2)
    × (board_after example (9 ∷ 9 ∷ 9 ∷ 9 ∷ 9 ∷ []) ≡ 0 ∷ 1 ∷ 0 ∷ 0 ∷ 9 ∷ [])
    × (board_row example 3 ≡ no 19 0)
    × (board_after example (9 ∷ 9 ∷ 9 ∷ []) ≡ 9 ∷ 9 ∷ 9 ∷ [])
    × (net_row example 0 ≡ net 1 0 0 2 1)
    × (net_row example 1 ≡ net 2 0 0 0 0)
    × (net_row example 2 ≡ judged no_net (refused 20 0 0))
unfolding some how_many first_where byte in_order used_by coordinate net_before record_rows job_rows in_keepout cells_up_to board_row board_after net_row
example_read = (refl, refl, refl, refl, refl, refl, refl, refl, refl, refl, refl)

-- the empty job, and a job of only a board
pub edges_read : (board_row [] 0 ≡ no 12 0) × (board_row board2 4 ≡ sides 2 2 0) × (net_row board2 0 ≡ judged no_net (refused 20 0 0))
unfolding some how_many first_where byte in_order used_by coordinate net_before record_rows job_rows in_keepout cells_up_to board_row board_after net_row
edges_read = (refl, refl, refl)

-- each refusal of a job; of several the one that is checked first
pub long_read : (job : List ℕ) (lent : ℕ) → longest_job < length job → board_row job lent ≡ no 10 0
unfolding board_row job_rows
long_read job lent l = rw (lt-ltb longest_job (length job) l)

pub refusals_read : (board_row (1 ∷ []) 0 ≡ no 11 0)
    × (board_row net1 0 ≡ no 12 0)
    × (board_row (board2 ++ board2) 4 ≡ no 12 1)
    × (board_row (4 ∷ 0 ∷ 0 ∷ 0 ∷ 0 ∷ 0 ∷ 0 ∷ 0 ∷ []) 0 ≡ no 13 0)
    × (board_row (board2 ++ 3 ∷ 1 ∷ 0 ∷ 0 ∷ 2 ∷ 1 ∷ 0 ∷ 7 ∷ []) 4 ≡ unused 1 7)
    × (board_row (1 ∷ 9 ∷ 0 ∷ 2 ∷ 9 ∷ 0 ∷ 0 ∷ 9 ∷ []) 4 ≡ unused 0 1)
    × (board_row (4 ∷ 9 ∷ 0 ∷ 0 ∷ 0 ∷ 0 ∷ 0 ∷ 0 ∷ []) 0 ≡ no 13 0)
    × (board_row (1 ∷ 0 ∷ 0 ∷ 2 ∷ 0 ∷ 0 ∷ 0 ∷ 0 ∷ []) 200 ≡ no 14 0)
    × (board_row (board2 ++ 2 ∷ 0 ∷ 1 ∷ 0 ∷ 1 ∷ 1 ∷ 0 ∷ 0 ∷ []) 4 ≡ no 15 1)
    × (board_row (board2 ++ 2 ∷ 0 ∷ 1 ∷ 0 ∷ 3 ∷ 1 ∷ 0 ∷ 0 ∷ []) 4 ≡ no 15 1)
    × (board_row (board2 ++ 3 ∷ 1 ∷ 0 ∷ 0 ∷ 3 ∷ 1 ∷ 0 ∷ 0 ∷ []) 4 ≡ no 16 1)
    × (board_row (board2 ++ net1 ++ net1) 4 ≡ no 17 2)
    × (board_row (board2 ++ 3 ∷ 0 ∷ 0 ∷ 0 ∷ 3 ∷ 1 ∷ 0 ∷ 0 ∷ []) 4 ≡ no 17 1)
    × (board_row (board2 ++ net1 ++ keepout) 4 ≡ no 18 2)
unfolding some how_many first_where byte in_order used_by coordinate net_before record_rows job_rows in_keepout cells_up_to board_row board_after net_row
refusals_read = (refl, refl, refl, refl, refl, refl, refl, refl, refl, refl, refl, refl, refl, refl)
