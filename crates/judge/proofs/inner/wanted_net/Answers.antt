use Rattle.judge.proofs.Judging.{there, wanted_is}
use Rattle.judge.proofs.inner.wanted_net.Goals as goal

pub unwrap-requires : goal.unwrap-requires
unwrap-requires c = there c.requires.accepted c.args.index c.requires.index_bound c.find_net.ensures

pub returns : goal.returns
returns c = wanted_is c.requires.accepted c.args.index c.requires.index_bound c.find_net.ensures c.unwrap.ensures
