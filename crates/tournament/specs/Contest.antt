-- Which of the open vertices is the first, over any test of being open and any ranks.
use Rattle.std.specs.Prelude.{◌≡◌, true, ℕ, ◌-◌, ◌^◌, ◌≤◌, ◌<◌}
use Rattle.theta.specs.Order.{sooner, Contest}

-- the key where no vertex is open
abbrev pub no_key : ℕ
no_key = 2 ^ 64 - 1

-- a rank has its vertex's number, and an open vertex's f is a key
pub record WellRanked (C : Contest) : Type 0 where
  pub numbered : (v : ℕ) → (C.rank v).number ≡ v
  pub keyed : (v : ℕ) → v < C.size → C.is_open v ≡ true → (C.rank v).f < no_key

-- v is an open vertex of a part of them
pub record Runs (C : Contest) (part : ℕ → Type 0) (v : ℕ) : Type 0 where
  pub on : v < C.size
  pub within : part v
  pub opened : C.is_open v ≡ true

-- no open vertex of the part is taken rather than r, which is one
pub record First (C : Contest) (part : ℕ → Type 0) (r : ℕ) : Type 0 where
  pub runs : Runs C part r
  pub foremost : (v : ℕ) → Runs C part v → sooner (C.rank v) (C.rank r) ≡ true → ⊥

-- r is the first of the part and the key is its f as it is now; or nothing is open there, and the key says so
pub data Leads (C : Contest) (part : ℕ → Type 0) (r key : ℕ) : Type 0 where
  none : key ≡ no_key → ((v : ℕ) → Runs C part v → ⊥) → Leads C part r key
  some : First C part r → key ≡ (C.rank r).f → Leads C part r key

-- every vertex
abbrev pub everyone : ℕ → Type 0
everyone v = v ≡ v

-- the vertices lo .. hi
pub record Between (lo hi v : ℕ) : Type 0 where
  pub low : lo ≤ v
  pub high : v < hi
