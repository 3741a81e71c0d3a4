-- Document 01's board as a problem for the search, its vertices by their numbers; where a path may have pinched vertices; and a
-- path's units against its true length.
use Rattle.std.specs.Prelude.{◌≡◌, Bool, true, false, List, [], ◌∷◌, ℕ, ◌+◌, ◌-◌, ◌*◌, ◌^◌, ◌≤◌, ◌<◌, length}
use Rattle.board.specs.Board.{Board, vertices, number, column, row}
use Rattle.spans.specs.Legs.{step}
use Rattle.root.specs.Root.{root, Bounds}
use Rattle.length.specs.Units.{square, units}
use Rattle.reach.specs.Turns.{at}
use Rattle.legs.specs.Sight.{strictly_inside, sees}
use Rattle.legs.specs.Pinched.{pinched}
use Rattle.legs.specs.Neighbours.{visible}
use Rattle.theta.specs.Search.{Problem}

-- sight, and a leg's length, between the vertices numbered u and v
abbrev pub sees_from : Board → (u v : ℕ) → Bool
sees_from b u v = sees b (column b u) (row b u) (column b v) (row b v)

abbrev pub units_from : Board → (u v : ℕ) → ℕ
units_from b u v = units (step (column b u) (column b v)) (step (row b u) (row b v))

-- a route is asked for from (sx, sy) to (gx, gy)
unfoldable pub problem : Board → (sx sy gx gy : ℕ) → Problem
problem b sx sy gx gy = record {
  size = vertices b;
  near = visible b (number b sx sy) (number b gx gy);
  sees = sees_from b;
  len = units_from b;
  start = number b sx sy;
  goal = number b gx gy;
}

-- ---- pinched vertices (document 02, item 6)

-- the point (x, y) lies strictly inside the leg between the vertices numbered u and v
abbrev pub inside_from : Board → (u v : ℕ) → (x y : ℕ) → Bool
inside_from b u v x y = strictly_inside (column b u) (row b u) (column b v) (row b v) x y

-- of a path's vertices only the first and the last may be pinched, and no leg has a pinched vertex strictly inside it
pub record Unpinched (b : Board) (path : List ℕ) : Type 0 where
  pub between : (i : ℕ) → 0 < i → i + 1 < length path → pinched b (column b (at path i)) (row b (at path i)) ≡ false
  pub legs : (i : ℕ) → i + 1 < length path → (x y : ℕ) → inside_from b (at path i) (at path (i + 1)) x y ≡ true
      → pinched b x y ≡ false

-- ---- a path's units against its true length, in whole numbers

-- dx² + dy² of the leg between the vertices numbered u and v
abbrev pub square_from : Board → (u v : ℕ) → ℕ
square_from b u v = square (step (column b u) (column b v)) (step (row b u) (row b v))

-- the legs of a path in a finer measure, with m parts to a unit, each rounded down
abbrev pub finer_along : (m : ℕ) → Board → List ℕ → ℕ
finer_along m b [] = 0
finer_along m b (v ∷ []) = 0
finer_along m b (v ∷ (w ∷ l)) = root (m * m * (square_from b v w * 2 ^ 40)) + finer_along m b (w ∷ l)

-- leg by leg, u² is at most (dx² + dy²) × 2^40, and (u + 1)² is above it; and for the whole path, however fine the measure, the
-- units are at most the length and less than one unit per leg below it; with no leg both are 0
pub record RoundedDown (b : Board) (path : List ℕ) (units : ℕ) : Type 0 where
  pub each : (i : ℕ) → i + 1 < length path → Bounds (square_from b (at path i) (at path (i + 1)) * 2 ^ 40) (units_from b (at path i) (at path (i + 1)))
  pub at_most : (m : ℕ) → m * units ≤ finer_along m b path
  pub above : (m : ℕ) → 0 < m → 1 < length path → finer_along m b path < m * (units + (length path - 1))
  pub none : (m : ℕ) → length path ≤ 1 → (units ≡ 0) × (finer_along m b path ≡ 0)
