-- A leg on a checked board as the definitions have it. No public contract cites it, so nobody need believe this.
use Rattle.std.specs.Prelude.{ℕ, ◌≡◌}
use Rattle.board.specs.Board.{Board}
use Rattle.board.specs.Checked.{board_of}
use Rattle.legs.specs.declared.leg.Leg.{Leg}

-- it goes from (ax, ay) to (bx, by) on this board
pub record Between (b : Board) (ax ay bx by : ℕ) (leg : Leg) : Type 0 where
  pub board_is : board_of leg.board ≡ b
  pub ax_is : leg.ax ≡ ax
  pub ay_is : leg.ay ≡ ay
  pub bx_is : leg.bx ≡ bx
  pub by_is : leg.by ≡ by
