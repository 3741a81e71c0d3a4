-- `open::list::look` goes along the group with the first open vertex so far.
use Rattle.open.proofs.Looking.{Looking}
use Rattle.open.proofs.list.look.Given as goal

abbrev pub invariant-loop-v : goal.invariant-loop-v
invariant-loop-v l = Looking l.width l.height l.x l.y l.gx l.gy l.g l.marks l.legs l.v l.first.vertex l.first.f
