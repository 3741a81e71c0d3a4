use Rattle.job.proofs.inner.Nets.{net_taken}
use Rattle.job.proofs.inner.net_at.Goals as goal

pub returns : goal.returns
returns c = net_taken c.requires _ c.find_net.ensures
