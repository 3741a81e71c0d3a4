-- Demand 3, over any search that takes near vertices: what is found, and what is tested where each near pair is tested once.
use Rattle.std.specs.Prelude.{◌≡◌, Bool, true, false, ℕ, ◌≤◌, ◌<◌}
use Rattle.reach.specs.Number.{Number, Number²}
use Rattle.reach.specs.Reach.{Reach, NearPair}

-- a path is found exactly if single moves between near vertices join the start to the goal;
-- with none, the expansions are the reachable vertices; with one, fewer
pub record Complete (n : ℕ) (near : ℕ → ℕ → Bool) (start goal : ℕ) (found : Bool) (expansions : ℕ) : Type 0 where
  pub found_reach : found ≡ true → Reach near start goal
  pub reach_found : Reach near start goal → found ≡ true
  pub none_expansions : found ≡ false → Number n (Reach near start) expansions
  pub found_expansions : found ≡ true → (k : ℕ) × Number n (Reach near start) k × (expansions < k)

-- with none, the tests are the near pairs of reachable vertices; with one, at most as many
pub record PairsTested (n : ℕ) (near : ℕ → ℕ → Bool) (start : ℕ) (found : Bool) (tests : ℕ) : Type 0 where
  pub none_tests : found ≡ false → Number² n (NearPair near start) tests
  pub found_tests : found ≡ true → (k : ℕ) × Number² n (NearPair near start) k × (tests ≤ k)
