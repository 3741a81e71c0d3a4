-- Which of its neighbours a vertex sees, as bits of a number. No public contract cites it, so nobody need believe this.
use Rattle.std.specs.Prelude.{ℕ, zero, suc, ◌+◌, ◌*◌, ◌-◌, ◌/◌, ◌%◌, ◌≤◌, ◌<◌, ◌≡◌, ◌≢◌, Bool, true, false, ◌&&◌, ltb, eqb}
use Rattle.laws.specs.Below.{as_number}
use Rattle.board.specs.Board.{Board}
use Rattle.board.specs.Inner.{OnBoard}
use Rattle.legs.specs.Sight.{sees}
use Rattle.guard.specs.Guard.{shut_above}

-- the bit k of a number
unfoldable pub bit : (n k : ℕ) → Bool
bit n zero = eqb (n % 2) 1
bit n (suc k) = bit (n / 2) k

-- its lowest set bit is that of place z
pub record Lowest (n z : ℕ) : Type 0 where
  pub set : bit n z ≡ true
  pub below : (k : ℕ) → k < z → bit n k ≡ false

-- r is the number n without that bit
pub record Without (n r : ℕ) : Type 0 where
  pub less : r < n
  pub others : (z : ℕ) → Lowest n z → (k : ℕ) → bit r k ≡ (ltb z k && bit n k)

-- four cells round a vertex in one number, each by the bit of the diagonal neighbour behind it
abbrev pub in_one : (nw ne sw se : ℕ) → ℕ
in_one nw ne sw se = nw + 4 * ne + 256 * sw + 1024 * se

-- those round the vertex (x, y)
unfoldable pub four_cells : Board → (x y : ℕ) → ℕ
four_cells b x y =
    in_one (as_number (shut_above b x y)) (as_number (shut_above b (x + 1) y)) (as_number (shut_above b x (y + 1))) (as_number (shut_above b (x + 1) (y + 1)))

-- The places round a vertex, row by row and four to a row: the place 4 j + i is i - 1 columns and j - 1 rows on, and 5 its own.
-- At the place k round (x, y) there is a vertex of the board, and (x, y) sees it.
pub record InSight (b : Board) (x y k : ℕ) : Type 0 where
  pub column_in : k % 4 ≤ 2
  pub row_in : k / 4 ≤ 2
  pub column_some : 1 ≤ x + k % 4
  pub row_some : 1 ≤ y + k / 4
  pub on : OnBoard b (x + k % 4 - 1) (y + k / 4 - 1)
  pub seen : sees b x y (x + k % 4 - 1) (y + k / 4 - 1) ≡ true

-- a bit of r for each place whose vertex (x, y) sees, but its own
pub record Glanced (b : Board) (x y r : ℕ) : Type 0 where
  pub sound : (k : ℕ) → bit r k ≡ true → InSight b x y k
  pub complete : (k : ℕ) → InSight b x y k → k ≢ 5 → bit r k ≡ true
