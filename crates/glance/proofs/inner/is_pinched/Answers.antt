use Rattle.glance.proofs.Copied.{four_copied}
use Rattle.glance.proofs.Pinch.{alike_unpinched, others_decide}
use Rattle.glance.proofs.inner.is_pinched.Goals as goal

-- where the two cells right of it are alike
pub returns-then-ne-se : goal.returns-then-ne-se
returns-then-ne-se c = alike_unpinched (four_copied c.args.guarded.now.guarded c.requires) c.if-ne-se.true

pub returns : goal.returns
returns c = others_decide (four_copied c.args.guarded.now.guarded c.requires) c.if-ne-se.false
