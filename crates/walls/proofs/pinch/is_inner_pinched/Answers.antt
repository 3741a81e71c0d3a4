use Rattle.board.specs.Checked.{board_of}
use Rattle.walls.proofs.pinch.Around.{alike_unpinched, others_decide}
use Rattle.walls.proofs.pinch.is_inner_pinched.Goals as goal

pub returns-then-ne-se : goal.returns-then-ne-se
returns-then-ne-se c =
    alike_unpinched (board_of c.args.board.now) c.args.x c.args.y c.is_cell_blocked-ne.ensures c.is_cell_blocked-se.ensures c.if-ne-se.true

pub returns : goal.returns
returns c =
    others_decide (board_of c.args.board.now) c.args.x c.args.y c.is_cell_blocked-ne.ensures c.is_cell_blocked-se.ensures
    c.is_cell_blocked-nw.ensures c.is_cell_blocked-sw.ensures c.requires c.if-ne-se.false
