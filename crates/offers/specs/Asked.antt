-- What is asked of a search: its start and its goal as the ends of a leg on a checked board. No public contract cites it, so nobody need believe this.
use Rattle.std.specs.Prelude.{Bool, ℕ, ◌+◌, ◌*◌}
use Rattle.board.specs.Board.{number_of}
use Rattle.board.specs.Checked.{board_of}
use Rattle.legs.specs.Pinched.{admitted}
use Rattle.legs.specs.declared.leg.Leg.{Leg}
use Rattle.theta.specs.Search.{Problem}
use Rattle.problem.specs.Problem.{problem}

-- from its first end to its second
abbrev pub problem_of : Leg → Problem
problem_of asked = problem (board_of asked.board) asked.ax asked.ay asked.bx asked.by

-- the vertex numbered v is admitted to its search
abbrev pub admitted_to : Leg → ℕ → Bool
admitted_to asked = admitted (board_of asked.board) (number_of asked.board.width asked.ax asked.ay) (number_of asked.board.width asked.bx asked.by)

-- no two vertices of its board have differences whose squares sum up to more
abbrev pub diagonal : Leg → ℕ
diagonal asked = asked.board.width * asked.board.width + asked.board.height * asked.board.height
