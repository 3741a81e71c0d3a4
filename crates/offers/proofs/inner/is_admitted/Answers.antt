use Rattle.board.specs.Checked.{board_of}
use Rattle.offers.proofs.Places.{open_admitted, pinched_admitted}
use Rattle.offers.proofs.inner.is_admitted.Goals as goal

pub returns-then-not-is_pinched : goal.returns-then-not-is_pinched
returns-then-not-is_pinched c =
    let a = c.args.asked.now in
    open_admitted (board_of a.board) a.ax a.ay a.bx a.by c.requires.placed c.is_pinched.ensures c.if-not-is_pinched.true

pub returns : goal.returns
returns c =
    let a = c.args.asked.now in
    pinched_admitted (board_of a.board) a.ax a.ay a.bx a.by c.requires.placed c.is_pinched.ensures c.if-not-is_pinched.false c.number_of-start.ensures c.number_of-goal.ensures
