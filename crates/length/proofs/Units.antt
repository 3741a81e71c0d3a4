-- The units of a leg: the largest, one and only, and their bounds. Assumes nothing.
use Rattle.std.proofs.Common.{◌≡◌, ℕ, zero, suc, ◌+◌, ◌*◌, ◌^◌, ◌<◌, ◌≤◌, false, ◌&&◌, eqb, ℤ, pos, nat_abs, sym, true≢false, le_of_eq, zero-lt-suc, mul_assoc, mul_comm, mul_left_comm, arith}
use Rattle.board.specs.Limits.{largest_side}
use Rattle.root.specs.Root.{Largest, Bounds}
use Rattle.length.specs.Units.{units_per_cell, units_of, square, units}
use Rattle.root.proofs.Root.{next, below, bounds_one, root_bounds, root_largest}

pub units_largest : (s : ℕ) → Largest (s * 2 ^ 40) (units_of s)
unfolding units_of
units_largest s = root_largest (s * 2 ^ 40)

-- leg by leg: u² is at most (dx² + dy²) × 2^40, and (u + 1)² is above it
pub units_bounds : (s : ℕ) → Bounds (s * 2 ^ 40) (units_of s)
unfolding units_of
units_bounds s = root_bounds (s * 2 ^ 40)

pub units_one : (s u : ℕ) → Bounds (s * 2 ^ 40) u → u ≡ units_of s
units_one s u b = bounds_one b (units_bounds s)

cell_square : (n : ℕ) → n * units_per_cell * (n * units_per_cell) ≡ n * n * 2 ^ 40
cell_square n = simp (mul_assoc, mul_comm, mul_left_comm) (omega arith)

-- along an axis nothing is rounded
units_axis : (s n : ℕ) → s ≡ n * n → units_of s ≡ n * units_per_cell
units_axis s n e =
    rw e (sym (units_one (n * n) (n * units_per_cell) (record { low = le_of_eq (cell_square n); high = omega (arith, cell_square n, next (n * units_per_cell)) })))

pub units_level : (dx : ℤ) → units dx (pos 0) ≡ nat_abs dx * units_per_cell
units_level dx = units_axis (square dx (pos 0)) (nat_abs dx) (omega arith)

pub units_upright : (dy : ℤ) → units (pos 0) dy ≡ nat_abs dy * units_per_cell
units_upright dy = units_axis (square (pos 0) dy) (nat_abs dy) (omega arith)

-- a leg is at least as long as it is wide, and as it is high
pub units_width : (x y : ℕ) → x * units_per_cell ≤ units_of (x * x + y * y)
units_width x y =
    below (x * units_per_cell) (units_of (x * x + y * y)) ((x * x + y * y) * 2 ^ 40) (omega (arith, cell_square x)) (units_bounds (x * x + y * y)).high

pub units_height : (x y : ℕ) → y * units_per_cell ≤ units_of (x * x + y * y)
units_height x y =
    below (y * units_per_cell) (units_of (x * x + y * y)) ((x * x + y * y) * 2 ^ 40) (omega (arith, cell_square y)) (units_bounds (x * x + y * y)).high

-- and at most as long as both together
pub units_most : (x y : ℕ) → units_of (x * x + y * y) ≤ (x + y) * units_per_cell
units_most x y =
    below (units_of (x * x + y * y)) ((x + y) * units_per_cell) ((x * x + y * y) * 2 ^ 40) (units_bounds (x * x + y * y)).low
    (omega (arith, cell_square (x + y), next ((x + y) * units_per_cell), add_square))
  where
    add_square : (x + y) * (x + y) ≡ x * x + y * y + (x * y) * 2
    add_square = omega arith

-- a leg between different vertices has a length
pub units_positive : (s : ℕ) → 0 < s → 0 < units_of s
units_positive s p = go (units_of s) (units_bounds s)
  where
    no : s * 2 ^ 40 < (0 + 1) * (0 + 1) → ⊥
    no q = omega arith

    go : (u : ℕ) → Bounds (s * 2 ^ 40) u → 0 < u
    go zero b = absurd (no b.high)
    go (suc u) b = zero-lt-suc u

-- a leg whose differences are not both 0 has a square
pub different : (x y : ℕ) → (eqb x 0 && eqb y 0) ≡ false → 0 < x * x + y * y
different zero zero e = absurd (true≢false e)
different zero (suc y) e = omega arith
different (suc x) y e = omega arith

-- every length on the largest board is a whole number that an f64 holds
pub units_fit : (x y : ℕ) → x ≤ largest_side → y ≤ largest_side → units_of (x * x + y * y) < 2 ^ 53
units_fit x y p q = omega (arith, units_most x y)
