-- The table of lengths: what its entries say.
use Rattle.std.specs.Prelude.{◌≡◌, List, ℕ, ◌+◌, ◌*◌, ◌≤◌, ◌<◌, min, length}
use Rattle.length.specs.Units.{units_of}
use Rattle.reach.specs.Turns.{at}

-- sums of squares below this have a place in the large table
abbrev pub squares : ℕ
squares = 7939

-- the sides up to which a board has all its lengths in the small and in the middle table
abbrev pub small_side : ℕ
small_side = 16

abbrev pub middle_side : ℕ
middle_side = 32

-- the largest sum of squares on a board with such sides
abbrev pub sums_of : ℕ → ℕ
sums_of side = 2 * (side * side)

-- the entry of s is the length of a leg whose differences' squares sum up to s; up to `most` there is one, if the large table has it
pub record Known (most : ℕ) (table : List ℕ) : Type 0 where
  pub room : min (most + 1) squares ≤ length table
  pub right : (s : ℕ) → s < length table → at table s ≡ units_of s
