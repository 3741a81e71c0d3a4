-- `tournament::tree::renew` gives each node on the way to the root the sooner of its two leaders.
use mathlib.Core.Path.{◌≡◌}
use Prim.Native.Nat.{◌/◌, ◌≤◌}
use Rattle.ranks.specs.Ranks.{numbers, seen}
use Rattle.tournament.proofs.Climbs.{Renewing}
use Rattle.tournament.proofs.tree.renew.Given as goal

abbrev pub invariant-loop-above : goal.invariant-loop-above
invariant-loop-above l =
    (l.i ≤ l.leaf) × (l.above ≡ l.i / 2)
    × Renewing (seen l.g l.legs) (numbers l.g l.legs) l.leaf l.initial.first.vertex l.initial.first.f l.initial.leads l.initial.keys l.i l.first.vertex l.first.f l.leads l.keys

abbrev pub decreases-loop-above : goal.decreases-loop-above
decreases-loop-above l = l.i
