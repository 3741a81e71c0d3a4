-- Demands 2 and 3, of what the route call hands back and leaves.
use Rattle.std.specs.Prelude.{ℕ, ◌+◌, ◌<◌, ◌≤◌, ◌≡◌, false, List, length, take}
use Rattle.std.specs.Float.Ieee.Exact.{HasValue}
use Rattle.board.specs.Board.{Board, vertices, number}
use Rattle.board.specs.Handed.{Handed}
use Rattle.length.specs.Units.{units_per_cell}
use Rattle.legs.specs.Neighbours.{visible}
use Rattle.reach.specs.Number.{Number, Number²}
use Rattle.reach.specs.Reach.{Reach, NearPair}
use Rattle.theta.specs.Demands.{IsRoute}
use Rattle.problem.specs.Problem.{problem, RoundedDown}
use Rattle.answer.specs.Answers.{Route}

-- single moves between visible neighbours join the start to v
abbrev pub Joined : Board → (sx sy gx gy v : ℕ) → Type 0
Joined b sx sy gx gy = Reach (visible b (number b sx sy) (number b gx gy)) (number b sx sy)

-- a visible neighbour pair among the vertices so joined
abbrev pub JoinedPair : Board → (sx sy gx gy u v : ℕ) → Type 0
JoinedPair b sx sy gx gy = NearPair (visible b (number b sx sy) (number b gx gy)) (number b sx sy)

-- demand 3: 0 exactly if start and goal are joined, and the counts
pub record Exhaustive (b : Board) (sx sy gx gy : ℕ) (h : Handed Route) : Type 0 where
  pub path_joined : h.number ≡ 0 → Joined b sx sy gx gy (number b gx gy)
  pub none_apart : h.number ≡ 8 → Joined b sx sy gx gy (number b gx gy) → ⊥
  pub none_expansions : h.number ≡ 8 → Number (vertices b) (Joined b sx sy gx gy) h.values.expansions
  pub none_tests : h.number ≡ 8 → Number² (vertices b) (JoinedPair b sx sy gx gy) h.values.tests
  pub path_expansions : h.number ≡ 0 → (k : ℕ) × Number (vertices b) (Joined b sx sy gx gy) k × (h.values.expansions < k)
  pub path_tests : h.number ≡ 0 → (k : ℕ) × Number² (vertices b) (JoinedPair b sx sy gx gy) k × (h.values.tests ≤ k)

-- demand 2, of a path in the path slice: it is a route, its units are those handed back, each leg rounded down, nothing is lost in
-- the length in cells, and it has one leg fewer than vertices
pub record Rightly (b : Board) (sx sy gx gy : ℕ) (h : Handed Route) (path : List ℕ) : Type 0 where
  pub count : h.values.vertices ≤ length path
  pub route : IsRoute (problem b sx sy gx gy) (take h.values.vertices path) h.values.units
  pub rounded : RoundedDown b (take h.values.vertices path) h.values.units
  pub cells : HasValue h.values.cells false h.values.units units_per_cell
  pub legs : h.values.legs + 1 ≡ h.values.vertices
