-- A leg by its differences or by its vertices, where a call has no board: document 01's rows 4 and 5.
use Rattle.std.specs.Prelude.{ℕ, ◌||◌, ℤ, pos, nat_abs, ◌-ℤ◌, ltb}
use Rattle.board.specs.Limits.{largest_side}
use Rattle.board.specs.Handed.{Verdict, row, and_then}

-- the difference from a coordinate of the first vertex to that of the second
abbrev pub step : ℕ → ℕ → ℤ
step a b = pos b -ℤ pos a

-- by differences: a dx beyond the largest side in size is 4, such a dy 5
unfoldable pub difference_rows : (dx dy : ℤ) → Verdict
difference_rows dx dy = and_then (row (ltb largest_side (nat_abs dx)) 4 0) (row (ltb largest_side (nat_abs dy)) 5 0)

-- by vertices: a coordinate above the largest side is 4 in the first, 5 in the second
unfoldable pub vertex_rows : (ax ay bx by : ℕ) → Verdict
vertex_rows ax ay bx by =
    and_then (row (ltb largest_side ax || ltb largest_side ay) 4 0) (row (ltb largest_side bx || ltb largest_side by) 5 0)
