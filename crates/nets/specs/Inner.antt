-- What the calls for the crates above require.
use Rattle.std.specs.Prelude.{ℕ, ◌<◌, ◌≡◌, List}
use Rattle.board.specs.Board.{board}
use Rattle.board.specs.Handed.{passes, leg_rows}
use Rattle.kinds.specs.Job.{width, height, board_cells, nets, net_record, net_at}
use Rattle.faults.specs.Inner.{Accepted}

-- the job is accepted, this is its board, and a route between the ends of a net is not refused
pub record Opened (job cells : List ℕ) (w h n : ℕ) : Type 0 where
  pub accepted : Accepted job
  pub cells_is : cells ≡ board_cells job
  pub wide : w ≡ width job
  pub high : h ≡ height job
  pub many : n ≡ nets job
  pub legs : (index : ℕ) → index < nets job → let net = net_at job (net_record job index) in
      leg_rows (board cells w h) net.sx net.sy net.gx net.gy ≡ passes
