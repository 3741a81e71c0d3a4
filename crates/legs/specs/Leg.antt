-- A leg in steps from its first end, on one axis from a to b.
use Rattle.std.specs.Prelude.{ℕ, ◌+◌, ◌-◌, cond, ltb}

-- how far apart a and b are
abbrev pub far : (a b : ℕ) → ℕ
far a b = (a - b) + (b - a)

-- the vertex s steps from a towards b
unfoldable pub vertex_at : (a b s : ℕ) → ℕ
vertex_at a b s = cond (ltb a b) (a + s) (a - s)

-- the cell between the vertices s and s + 1 steps from a
unfoldable pub cell_at : (a b s : ℕ) → ℕ
cell_at a b s = cond (ltb a b) (a + s) (a - (s + 1))
