use mathlib.Core.Path.{sym, ◌∙◌}
use Rattle.board.specs.Checked.{board_of}
use Rattle.legs.proofs.First.{level_stop, upright_stop, slanted_stop}
use Rattle.walks.proofs.inner.first_stop.Goals as goal

pub returns-then-leg : goal.returns-then-leg
returns-then-leg c =
    let a = c.args.leg.now in
    c.stop_after.ensures ∙ c.first_walled-met.ensures.result_value
    ∙ sym (level_stop (board_of a.board) a.ax a.ay a.bx a.by c.if-leg.true)

-- the steps of an upright leg are counted from its first end
pub returns-then-leg-2 : goal.returns-then-leg-2
returns-then-leg-2 c =
    let a = c.args.leg.now in
    c.stop_after-then-leg-2.ensures ∙ c.first_walled-met-then-leg-2.ensures.result_value
    ∙ sym (upright_stop (board_of a.board) a.ax a.ay a.bx a.by c.if-leg.false c.if-leg-2.true)

pub returns : goal.returns
returns c =
    let a = c.args.leg.now in
    c.stop_at.ensures ∙ c.first_blocked-met.ensures.met
    ∙ sym (slanted_stop (board_of a.board) a.ax a.ay a.bx a.by c.if-leg.false c.if-leg-2.false)
