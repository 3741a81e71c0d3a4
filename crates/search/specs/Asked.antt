-- What is asked of the search: a start and a goal as the ends of a leg on a checked board. No public contract cites it, so nobody need believe this.
use Rattle.std.specs.Prelude.{ℕ, ◌≤◌, List, length}
use Rattle.board.specs.Board.{vertices}
use Rattle.board.specs.Checked.{board_of}
use Rattle.legs.specs.declared.leg.Leg.{Leg}
pub use Rattle.offers.specs.Asked.{problem_of, diagonal}

-- the lent slices have an entry for each vertex
pub record Room (asked : Leg) (g parents marks legs : List ℕ) : Type 0 where
  pub g_room : vertices (board_of asked.board) ≤ length g
  pub parents_room : vertices (board_of asked.board) ≤ length parents
  pub marks_room : vertices (board_of asked.board) ≤ length marks
  pub legs_room : vertices (board_of asked.board) ≤ length legs
