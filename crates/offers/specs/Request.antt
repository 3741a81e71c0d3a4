-- A request and the spots on its board, as the code hands them on.
use Rattle.std.specs.Prelude.{◌≡◌, Bool, ℕ, ◌+◌, ◌*◌}
use Rattle.board.specs.Board.{Board, number_of, number}
use Rattle.board.specs.Inner.{Sound, OnBoard}
use Rattle.legs.specs.Pinched.{admitted}
use Rattle.theta.specs.Search.{Problem}
use Rattle.board.specs.Checked as checked
use Rattle.offers.specs.declared.request.Request.{Request}
use Rattle.offers.specs.declared.Spot.{Spot}
use Rattle.problem.specs.Problem.{problem}

-- its board, and what it asks there
abbrev pub board_of : Request → Board
board_of q = checked.board_of q.guarded.board

abbrev pub asked : Request → Problem
asked q = problem (board_of q) q.sx q.sy q.gx q.gy

-- the vertex numbered v is admitted to its search
abbrev pub admits : Request → ℕ → Bool
admits q = admitted (board_of q) (number_of q.guarded.board.width q.sx q.sy) (number_of q.guarded.board.width q.gx q.gy)

-- how many vertices its board has
abbrev pub size_of : Request → ℕ
size_of q = (q.guarded.board.width + 1) * (q.guarded.board.height + 1)

-- it has passed the checks
pub record Asked (q : Request) : Type 0 where
  pub sound : Sound (board_of q)
  pub start : OnBoard (board_of q) q.sx q.sy
  pub goal : OnBoard (board_of q) q.gx q.gy

-- and every request has
abbrev pub given : (q : Request) → Asked q
given q = record { sound = q.guarded.board.sound; start = q.start; goal = q.goal }

-- the spot is a vertex of the board, with its number
pub record Placed (b : Board) (s : Spot) : Type 0 where
  pub on : OnBoard b s.x s.y
  pub numbered : s.number ≡ number b s.x s.y
