use Rattle.claims.proofs.Claiming.{none_refused, none_passes}
use Rattle.claims.proofs.inner.judge_none.Goals as goal

pub returns-then-find : goal.returns-then-find
returns-then-find c = none_refused _ _ c.requires.ends_of.start c.find.ensures c.if-find.true

pub returns : goal.returns
returns c = none_passes _ _ c.requires.ends_of.start c.find.ensures c.if-find.false
