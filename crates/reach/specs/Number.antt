-- "The number of": how many vertices, or unordered pairs of vertices, have a property.
use Rattle.std.specs.Prelude.{◌≡◌, Bool, true, ℕ, zero, suc, ◌+◌, ◌<◌}
use Rattle.laws.specs.Below.{how_many}

-- how many pairs u < v below n pass the test p
abbrev pub pairs : ℕ → (ℕ → ℕ → Bool) → ℕ
pairs zero p = 0
pairs (suc n) p = how_many n (λ u. p u n) + pairs n p

-- the test p says yes exactly to those v below n that have P
pub record Decides (n : ℕ) (P : ℕ → Type 0) (p : ℕ → Bool) : Type 0 where
  pub yes_has : (v : ℕ) → v < n → p v ≡ true → P v
  pub has_yes : (v : ℕ) → v < n → P v → p v ≡ true

-- k is the number of the v below n that have P
abbrev pub Number : (n : ℕ) (P : ℕ → Type 0) (k : ℕ) → Type 0
Number n P k = (p : ℕ → Bool) × Decides n P p × (k ≡ how_many n p)

-- the test p says yes exactly to those pairs u < v below n that have P
pub record Decides² (n : ℕ) (P : ℕ → ℕ → Type 0) (p : ℕ → ℕ → Bool) : Type 0 where
  pub yes_has : (u v : ℕ) → u < v → v < n → p u v ≡ true → P u v
  pub has_yes : (u v : ℕ) → u < v → v < n → P u v → p u v ≡ true

-- k is the number of the pairs u < v below n that have P: a pair counts once, whichever way round
abbrev pub Number² : (n : ℕ) (P : ℕ → ℕ → Type 0) (k : ℕ) → Type 0
Number² n P k = (p : ℕ → ℕ → Bool) × Decides² n P p × (k ≡ pairs n p)
