-- What the theory asks of a problem. Document 01's board has it, so no promise rests on it.
use Rattle.std.specs.Prelude.{◌≡◌, true, ℕ, ◌≤◌, ◌<◌}
use Rattle.reach.specs.Reach.{Ground}
use Rattle.theta.specs.Search.{Problem}

-- being visible neighbours goes both ways, joins two different vertices and stays on the board; the start is on the board
pub record Fair (p : Problem) : Type 0 where
  pub ground : Ground p.size p.near p.start

-- visible neighbours have sight, and no leg is longer than `longest`
pub record FairLegs (p : Problem) (longest : ℕ) : Type 0 where
  pub near_sees : (u v : ℕ) → p.near u v ≡ true → p.sees u v ≡ true
  pub at_most : (u v : ℕ) → u < p.size → v < p.size → p.len u v ≤ longest
