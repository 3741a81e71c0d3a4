-- What the lent slices hold before the first turn of a search: what the contracts of the code say.
use Rattle.std.specs.Prelude.{◌≡◌, ◌++◌, ℕ, set, replicate, drop}
use Rattle.theta.specs.Search.{State}

-- zeros for each of n vertices, and the start has itself as parent; what lies beyond is kept
pub record Cleared (n start : ℕ) (before after : State) : Type 0 where
  pub g_is : after.g ≡ replicate n 0 ++ drop n before.g
  pub parent_is : after.parent ≡ set (replicate n 0 ++ drop n before.parent) start start
  pub mark_is : after.mark ≡ replicate n 0 ++ drop n before.mark
  pub legs_is : after.legs ≡ replicate n 0 ++ drop n before.legs
