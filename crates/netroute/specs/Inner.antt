-- What the call for the crates above says. The output is said by `replies` specs/Output alone.
use Rattle.std.specs.Prelude.{ℕ, ◌≤◌, ◌≡◌, cond, List, length, take}
use Rattle.board.specs.Board.{Board}
use Rattle.board.specs.Handed.{Handed}
use Rattle.reach.specs.Turns.{at}
use Rattle.theta.specs.Search.{Problem, search, path}
use Rattle.problem.specs.Problem.{problem}
use Rattle.answer.specs.Answers.{Route, found, none}

-- the path that Basic Theta* finds, and what it hands back: the path or none
abbrev pub path_of : Problem → List ℕ
path_of p = path p (search p).state

abbrev pub result : Problem → Handed Route
result p =
    let s = (search p).state in
    cond (search p).found (found (at s.g p.goal) (length (path_of p)) (at s.legs p.goal) s.expansions s.tests)
    (none s.expansions s.tests)

-- that is handed back, and the path stands at the front of the slice
pub record Found (b : Board) (sx sy gx gy : ℕ) (h : Handed Route) (slice : List ℕ) : Type 0 where
  pub handed : h ≡ result (problem b sx sy gx gy)
  pub front : h.number ≡ 0 → take h.values.vertices slice ≡ path_of (problem b sx sy gx gy)
  pub room : h.values.vertices ≤ length slice
