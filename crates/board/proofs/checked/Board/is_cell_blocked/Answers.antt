use mathlib.Core.Path.{refl, sym}
use Rattle.board.specs.Checked.{board_of}
use Rattle.board.proofs.Cells.{byte_is}
use Rattle.board.proofs.checked.Board.is_cell_blocked.Goals as goal

pub returns : goal.returns
returns c = sym (byte_is (board_of c.args.self.now) c.args.x c.args.y _ c.requires.0 c.requires.1 refl)
