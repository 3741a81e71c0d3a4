-- `round::inner::round` goes over the places round the taken vertex that it sees; what is not near it is passed over.
use Rattle.theta.specs.Lent.{state}
use Rattle.offers.specs.Offers.{ListedFor}
use Rattle.round.proofs.inner.Passed.{Passed}
use Rattle.round.proofs.inner.round.Given as goal

abbrev pub invariant-loop-place : goal.invariant-loop-place
invariant-loop-place l =
    Passed l.request l.u l.seen (state l.initial.g l.initial.parents l.initial.marks l.initial.legs 0 l.tests) l.place-iterator.left (state l.g l.parents l.marks l.legs 0 l.t)
    × ListedFor l.request l.g l.marks l.legs l.leads l.keys
