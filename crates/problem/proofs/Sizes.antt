-- Numbers of the largest board fit: its vertices, its legs and the sums of them. Assumes nothing.
use mathlib.Core.Path.{◌≡◌, refl}
use Prim.Native.Nat.{ℕ, ◌+◌, ◌-◌, ◌*◌, ◌^◌, ◌≤◌, ◌<◌}
use native.Mathlib.Nat.{mul-le-mul, mul-le-mul_right, add-le-add, le_trans, lt_of_le_of_lt}
use native.Mathlib.Omega.{arith}
use lib.Dec.{lit<}
use Rattle.board.specs.Limits.{largest_side, most_vertices}
use Rattle.board.specs.Board.{Board, number}
use Rattle.board.proofs.Numbers.{column_number, row_number}
use Rattle.spans.specs.Legs.{step}
use Rattle.length.specs.Units.{units_per_cell, units}
use Rattle.length.proofs.Units.{units_most}
use Rattle.spans.proofs.Legs.{step_size}
use Rattle.problem.specs.Problem.{units_from}
use Rattle.problem.specs.Sizes.{longest, largest}

module _ (width height : ℕ) (w : width ≤ largest_side) (h : height ≤ largest_side) where
  pub vertices_most : (width + 1) * (height + 1) ≤ most_vertices
  vertices_most = mul-le-mul (add-one-le w) (add-one-le h)
    where
      add-one-le : {a : ℕ} → a ≤ largest_side → a + 1 ≤ largest_side + 1
      add-one-le l = omega arith

  longest_le : longest width height ≤ longest largest_side largest_side
  longest_le = mul-le-mul_right units_per_cell (add-le-add w h)

  -- the largest g and a leg more
  pub largest_fits : largest width height + longest width height < 2 ^ 63
  largest_fits = lt_of_le_of_lt (add-le-add (mul-le-mul vertices_most longest_le) longest_le) (lit< tt)

  -- a path's units are a whole number that an f64 holds
  pub largest_exact : largest width height < 2 ^ 53
  largest_exact = lt_of_le_of_lt (mul-le-mul vertices_most longest_le) (lit< tt)

  -- every test of the largest number of turns, and those of one round more
  pub tests_fit : (width + 1) * (height + 1) * ((width + 1) * (height + 1)) < 2 ^ 62
  tests_fit = lt_of_le_of_lt (mul-le-mul vertices_most vertices_most) (lit< tt)

-- no leg is longer than both sides together
pub leg_longest : (width height ax ay bx by : ℕ) → ax ≤ width → ay ≤ height → bx ≤ width → by ≤ height
    → units (step ax bx) (step ay by) ≤ longest width height
leg_longest width height ax ay bx by a b c d =
    rw (step_size ax bx, step_size ay by)
    (le_trans (units_most ((bx - ax) + (ax - bx)) ((by - ay) + (ay - by))) (mul-le-mul_right units_per_cell (both width height ax ay bx by a b c d)))
  where
    both : (width height ax ay bx by : ℕ) → ax ≤ width → ay ≤ height → bx ≤ width → by ≤ height
        → (bx - ax) + (ax - bx) + ((by - ay) + (ay - by)) ≤ width + height
    both width height ax ay bx by a b c d = omega arith

-- a leg's length by its vertices' numbers
pub units_number : (b : Board) (ax ay bx by : ℕ) → ax ≤ b.width → bx ≤ b.width
    → units_from b (number b ax ay) (number b bx by) ≡ units (step ax bx) (step ay by)
units_number b ax ay bx by a c =
    rw (column_number b.width ax ay a, row_number b.width ax ay a, column_number b.width bx by c, row_number b.width bx by c) refl
