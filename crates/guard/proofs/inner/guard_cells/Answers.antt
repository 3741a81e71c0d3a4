use Rattle.board.specs.Checked.{board_of}
use Rattle.guard.proofs.Shut.{guarded}
use Rattle.guard.proofs.inner.guard_cells.Goals as goal

pub returns : goal.returns
returns c = guarded (board_of c.args.board.now) c.requires c.copy_rows.ensures c.make_bits.ensures
