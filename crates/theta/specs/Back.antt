-- The parents lead back to the start: what the code that reads the path may rely on.
use Rattle.std.specs.Prelude.{◌≢◌, List, ℕ, suc, ◌<◌}
use Rattle.reach.specs.Turns.{at}

-- k parents lead from v back to the start, all on the board
pub data Back (n start : ℕ) (parent : List ℕ) : ℕ → ℕ → Type 0 where
  root : Back n start parent start 0
  leg : {v k : ℕ} → v < n → v ≢ start → Back n start parent (at parent v) k → Back n start parent v (suc k)

-- fewer than n parents lead from v back to the start
pub record Traced (n start : ℕ) (parent : List ℕ) (v : ℕ) : Type 0 where
  pub legs : ℕ
  pub back : Back n start parent v legs
  pub few : legs < n
