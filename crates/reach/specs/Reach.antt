-- Reaching a vertex by single moves between near vertices.
use Rattle.std.specs.Prelude.{◌≡◌, Bool, true, false, ℕ, ◌<◌}

-- single moves between near vertices join s to v
pub data Reach (near : ℕ → ℕ → Bool) (s : ℕ) : ℕ → Type 0 where
  here : Reach near s s
  move : {u v : ℕ} → Reach near s u → near u v ≡ true → Reach near s v

-- u and v are near, and both are reached from s
pub record NearPair (near : ℕ → ℕ → Bool) (s u v : ℕ) : Type 0 where
  pub joined : near u v ≡ true
  pub one : Reach near s u
  pub other : Reach near s v

-- what being near has to be, among n vertices: the same both ways, never with oneself, and only on the board
pub record Near (n : ℕ) (near : ℕ → ℕ → Bool) : Type 0 where
  pub symmetric : (u v : ℕ) → near u v ≡ near v u
  pub irreflexive : (u : ℕ) → near u u ≡ false
  pub below : (u v : ℕ) → near u v ≡ true → v < n

-- n vertices to search, and a start among them
pub record Ground (n : ℕ) (near : ℕ → ℕ → Bool) (start : ℕ) : Type 0 where
  pub near_laws : Near n near
  pub start_on : start < n
