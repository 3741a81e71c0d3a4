-- `tournament::tree::enter` climbs from the leaf while the vertex is ahead.
use Prim.Native.Nat.{◌≤◌}
use Rattle.theta.specs.Order.{ranked}
use Rattle.ranks.specs.Ranks.{numbers, seen}
use Rattle.tournament.proofs.Climbs.{Climbing}
use Rattle.tournament.proofs.tree.enter.Given as goal

abbrev pub invariant-loop-i : goal.invariant-loop-i
invariant-loop-i l =
    (l.i ≤ l.leaf)
    × Climbing (seen l.g l.legs) (numbers l.g l.legs) (ranked l.f l.own l.count l.v) l.leaf l.initial.leads l.initial.keys l.i l.leads l.keys

abbrev pub decreases-loop-i : goal.decreases-loop-i
decreases-loop-i l = l.i
