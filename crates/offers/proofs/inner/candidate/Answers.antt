use Rattle.board.specs.Checked.{board_of}
use Rattle.offers.proofs.Places.{offered_parent, offered_own}
use Rattle.offers.proofs.inner.candidate.Goals as goal

pub invariant_of-leg : goal.invariant_of-leg
invariant_of-leg c = let (U, F, W) = c.requires.placed in record { ends = record { first = F.on; second = W.on } }

pub returns-then-sees : goal.returns-then-sees
returns-then-sees c =
    let (U, F, W) = c.requires.placed in
    let a = c.args.asked.now in
    offered_parent (board_of a.board) a.ax a.ay a.bx a.by F U W c.sees.ensures c.if-sees.true c.leg_from.ensures.0 c.leg_from.ensures.1

pub returns : goal.returns
returns c =
    let (U, F, W) = c.requires.placed in
    let a = c.args.asked.now in
    offered_own (board_of a.board) a.ax a.ay a.bx a.by F U W c.sees.ensures c.if-sees.false c.leg_from-2.ensures.0 c.leg_from-2.ensures.1
