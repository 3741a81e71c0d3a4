use mathlib.Core.Path.{sym}
use Rattle.board.proofs.Rows.{board_sound}
use Rattle.board.proofs.checked.Board.checked.Goals as goal

pub invariant_of-result : goal.invariant_of-result
invariant_of-result c = record { sound = board_sound _ (sym c.in_ok-check_board.ensures) }
