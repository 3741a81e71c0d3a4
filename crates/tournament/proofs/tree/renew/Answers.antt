use mathlib.Core.Path.{refl}
use native.Mathlib.Omega.{arith}
use Rattle.tournament.proofs.Climbs.{renewing_step, renewing_end}
use Rattle.tournament.proofs.tree.renew.Goals as goal

-- the sibling has the same parent, and both have a place
pub loop-above-preserved : goal.loop-above-preserved
loop-above-preserved c =
    let (on, above, renewing) = c.loop-above.invariant in
    let R = c.requires.room in
    let t = c.loop-above-test.true in
    let e = c.sibling-s.ensures in
    let w = c.winner-first in (
      omega (arith, on, above),
      refl,
      rw above (renewing_step renewing (omega (arith, on, R.room_l, renewing.same_l)) (omega (arith, on, R.room_k, renewing.same_k)) c.sibling-s.result (omega (arith, above, t)) (omega arith) (λ z. omega arith) _ refl
          w.result.vertex w.ensures.vertex_is w.result.f w.ensures.key_is),
    )

-- the last node is the root, node 1: all nodes up to it are made anew
pub returns : goal.returns
returns c =
    let (on, above, renewing) = c.loop-above.invariant in
    renewing_end renewing (omega (arith, on, c.requires.room.room_l, renewing.same_l)) (omega (arith, above, c.loop-above-test.false))
