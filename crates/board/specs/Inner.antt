-- What the calls for the crates above may rely on. No public contract cites it, so nobody need believe this.
use Rattle.std.specs.Prelude.{ℕ, ◌*◌, ◌≤◌, ◌≡◌, length}
use Rattle.board.specs.Limits.{largest_side}
use Rattle.board.specs.Board.{Board}

-- what the checks 1 and 2 leave; nothing is needed of 3: a byte blocks exactly if it is 1
pub record Sound (b : Board) : Type 0 where
  pub wide : 1 ≤ b.width
  pub narrow : b.width ≤ largest_side
  pub high : 1 ≤ b.height
  pub low : b.height ≤ largest_side
  pub full : length b.cells ≡ b.width * b.height

-- (x, y) is a vertex of the board
pub record OnBoard (b : Board) (x y : ℕ) : Type 0 where
  pub x_on : x ≤ b.width
  pub y_on : y ≤ b.height
