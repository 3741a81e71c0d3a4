-- The points that the layout bureau gives for one net (document 02, item 4): why they are refused, how long the path is, and how many legs
-- it has. There are n points, and p k is the one at place k; points are told by x and y, never by a vertex number.
use Rattle.std.specs.Prelude.{ℕ, zero, suc, ◌+◌, ◌-◌, Bool, not, ◌&&◌, ◌||◌, cond, List, [], ◌∷◌, ltb, eqb, length, get_or}
use Rattle.laws.specs.Below.{first_where}
use Rattle.board.specs.Board.{Board, is_vertex}
use Rattle.board.specs.Handed.{Verdict, passes, refused, row, and_then}
use Rattle.spans.specs.Legs.{step}
use Rattle.length.specs.Units.{units}
use Rattle.legs.specs.Sight.{sees}
use Rattle.legs.specs.Pinched.{pinched}
use Rattle.theta.specs.Search.{Problem, search}
use Rattle.problem.specs.Problem.{problem}
use Rattle.kinds.specs.Job.{Net}
use Rattle.tracks.specs.Tracks.{Point}

abbrev pub point : (x y : ℕ) → Point
point x y = record { x = x; y = y }

-- the point of a list at place k; beyond the last one nobody asks
abbrev pub point_at : List Point → ℕ → Point
point_at ps k = get_or ps k (point 0 0)

abbrev pub is_same : Point → Point → Bool
is_same p q = eqb p.x q.x && eqb p.y q.y

-- ---- what can be wrong

-- 25: the first point is not the start, or the last not the goal
unfoldable pub is_end_wrong : (start goal : Point) → (n : ℕ) → (p : ℕ → Point) → Bool
is_end_wrong start goal n p = not (is_same (p 0) start) || not (is_same (p (n - 1)) goal)

-- 26: a point that is no vertex of the board
abbrev pub is_off : Board → Point → Bool
is_off b p = not (is_vertex b p.x p.y)

-- the first such place; n if there is none
unfoldable pub off_place : Board → (n : ℕ) → (p : ℕ → Point) → ℕ
off_place b n p = first_where n (λ (k : ℕ). is_off b (p k))

-- 27: a leg of zero length, or without sight, or one that ends in a pinched vertex which is not the path's last
unfoldable pub is_leg_wrong : Board → (p q : Point) → (is_last : Bool) → Bool
is_leg_wrong b p q is_last =
    is_same p q || (not (sees b p.x p.y q.x q.y) || (pinched b q.x q.y && not is_last))

-- the place of the first such leg's first point; n - 1, the number of legs, if there is none
unfoldable pub leg_place : Board → (n : ℕ) → (p : ℕ → Point) → ℕ
leg_place b n p = first_where (n - 1) (λ (k : ℕ). is_leg_wrong b (p k) (p (k + 1)) (eqb (k + 2) n))

-- ---- in order

abbrev pub start_of : Net → Point
start_of net = point net.sx net.sy

abbrev pub goal_of : Net → Point
goal_of net = point net.gx net.gy

-- a row that names the net and a place in its path, where there is such a place
abbrev pub place_row : (place end number net : ℕ) → Verdict
place_row place end number net = cond (ltb place end) (refused number net place) passes

-- 25, 26, 27
unfoldable pub path_rows : Board → Net → (n : ℕ) → (p : ℕ → Point) → Verdict
path_rows b net n p =
    and_then (row (is_end_wrong (start_of net) (goal_of net) n p) 25 net.number)
    (and_then (place_row (off_place b n p) n 26 net.number) (place_row (leg_place b n p) (n - 1) 27 net.number))

-- 28: no path is claimed where one exists
abbrev pub problem_of : Board → Net → Problem
problem_of b net = problem b net.sx net.sy net.gx net.gy

unfoldable pub none_row : Board → Net → Verdict
none_row b net = row (search (problem_of b net)).found 28 net.number

-- a net with the points given for it; no points: no path is claimed
abbrev pub net_rows : Board → Net → List Point → Verdict
net_rows b net [] = none_row b net
net_rows b net (p ∷ ps) = path_rows b net (length (p ∷ ps)) (point_at (p ∷ ps))

-- ---- length and legs

-- the sum of the first n numbers
unfoldable pub total : (n : ℕ) → (ℕ → ℕ) → ℕ
total zero f = 0
total (suc n) f = total n f + f n

abbrev pub leg_units : Point → Point → ℕ
leg_units p q = units (step p.x q.x) (step p.y q.y)

-- the sum over the legs; with no leg it is 0
unfoldable pub units_along : (n : ℕ) → (p : ℕ → Point) → ℕ
units_along n p = total (n - 1) (λ (k : ℕ). leg_units (p k) (p (k + 1)))
