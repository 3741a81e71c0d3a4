-- The whole square root: what it is, and a way to compute it.
use Rattle.std.specs.Prelude.{ℕ, zero, suc, ◌+◌, ◌*◌, ◌/◌, ◌≤◌, ◌<◌, true, false, cond, leb, eqb}

-- u is the largest whole number whose square is at most n
pub record Largest (n u : ℕ) : Type 0 where
  pub fits : u * u ≤ n
  pub most : (v : ℕ) → v * v ≤ n → v ≤ u

-- the same as a bound on both sides: u² ≤ n < (u + 1)²
pub record Bounds (n u : ℕ) : Type 0 where
  pub low : u * u ≤ n
  pub high : n < (u + 1) * (u + 1)

-- from the root r of n / 4 to that of n: twice as much, and one more if that fits
abbrev pub doubled : ℕ → ℕ → ℕ
doubled r n = cond (leb ((r * 2 + 1) * (r * 2 + 1)) n) (r * 2 + 1) (r * 2)

-- the root of n, two binary digits a turn, in at most so many turns
unfoldable pub root_in : ℕ → ℕ → ℕ
root_in zero n = 0
root_in (suc turns) n = elim (eqb n 0) [ true ↦ 0 | false ↦ doubled (root_in turns (n / 4)) n ]

-- the root of n: n turns are more than enough
unfoldable pub root : ℕ → ℕ
unfolding root_in
root n = root_in n n
