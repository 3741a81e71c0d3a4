-- What the calls for the crates above may rely on. No public contract cites it, so nobody need believe this.
use Rattle.std.specs.Prelude.{ℕ}
use Rattle.board.specs.Board.{Board}
use Rattle.board.specs.Inner.{OnBoard}

-- both ends of a leg are vertices of the board
pub record EndsOn (b : Board) (ax ay bx by : ℕ) : Type 0 where
  pub first : OnBoard b ax ay
  pub second : OnBoard b bx by
