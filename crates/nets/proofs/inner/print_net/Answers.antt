-- `nets::inner::print_net` finds its net in the job, searches it from its start to its goal, and what was found gives its line.
use Rattle.std.proofs.Common.{arith}
use Rattle.job.proofs.Above.{net_given}
use Rattle.nets.proofs.Answering.{net_there, net_legs_lem, answered}
use Rattle.nets.proofs.inner.print_net.Goals as goal

pub unreachable-requires : goal.unreachable-requires
unreachable-requires g c = net_there c.requires.opened.accepted (omega arith) c.in_default.ensures

pub search_net-answer-requires-clause-gy_value : goal.search_net-answer-requires-clause-gy_value
search_net-answer-requires-clause-gy_value g c =
    net_legs_lem c.requires.opened (net_given c.args.job.now c.args.index c.in-Some.ensures)

pub print_answer-requires-clause-answered : goal.print_answer-requires-clause-answered
print_answer-requires-clause-answered g c =
    answered c.requires.opened (net_given c.args.job.now c.args.index c.in-Some.ensures) c.search_net-answer.ensures
