-- The length of a leg in units, as document 01 has it.
use Rattle.std.specs.Prelude.{ℕ, ◌+◌, ◌*◌, ◌^◌, ℤ, unsigned_abs}
use Rattle.root.specs.Root.{root}

-- one cell, in units
abbrev pub units_per_cell : ℕ
units_per_cell = 2 ^ 20

-- dx² + dy²
abbrev pub square : ℤ → ℤ → ℕ
square dx dy = unsigned_abs dx * unsigned_abs dx + unsigned_abs dy * unsigned_abs dy

-- the largest whole u with u² ≤ (dx² + dy²) × 2^40, from dx² + dy²
unfoldable pub units_of : ℕ → ℕ
unfolding root
units_of s = root (s * 2 ^ 40)

abbrev pub units : ℤ → ℤ → ℕ
units dx dy = units_of (square dx dy)
