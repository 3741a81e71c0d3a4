use mathlib.Core.Path.{sym, ◌∙◌}
use native.Mathlib.Omega.{arith}
use Rattle.tournament.proofs.Climbs.{climbing_step, climbing_stop, climbing_end}
use Rattle.tournament.proofs.tree.enter.Goals as goal

-- it is not ahead of the node's leader
pub returns-then-not-ahead : goal.returns-then-not-ahead
returns-then-not-ahead c =
    climbing_stop c.loop-i.invariant.1 (omega (arith, c.loop-i-test.true)) (sym c.ahead.ensures ∙ c.if-not-ahead.true)

-- it is, and the node has a place
pub loop-i-preserved : goal.loop-i-preserved
loop-i-preserved c =
    let (on, climbing) = c.loop-i.invariant in
    let room = c.requires.room.room_l in (
      omega (arith, on),
      climbing_step climbing (omega (arith, c.loop-i-test.true)) (omega (arith, on, room, climbing.same_l)) c.requires.v_bound
          (sym c.ahead.ensures ∙ c.if-not-ahead.false),
    )

-- it has climbed into the root, node 1, too
pub returns : goal.returns
returns c = climbing_end c.loop-i.invariant.1 (omega (arith, c.loop-i-test.false))
