-- `turns::inner::run` is at a state of the search that gives the whole; the measure is how many vertices are not yet expanded.
use Prim.Native.Nat.{◌-◌}
use Rattle.theta.specs.Lent.{state}
use Rattle.offers.specs.Request.{board_of, size_of}
use Rattle.turns.proofs.Finding.{Finding, whole_from}
use Rattle.turns.proofs.inner.run.Given as goal

abbrev pub invariant-loop-leader : goal.invariant-loop-leader
invariant-loop-leader l =
    let q = l.request in
    Finding (board_of q) q.sx q.sy q.gx q.gy (whole_from q (state l.initial.g l.initial.parents l.initial.marks l.initial.legs 0 0)) (state l.g l.parents l.marks l.legs l.expansions l.tests) l.leads l.keys

abbrev pub decreases-loop-leader : goal.decreases-loop-leader
decreases-loop-leader l = size_of l.request - l.expansions
