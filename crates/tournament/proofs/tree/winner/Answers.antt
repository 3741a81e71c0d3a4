use mathlib.Core.Path.{◌≡◌, refl}
use mathlib.Core.Bool.{false}
use native.Mathlib.Omega.{arith}
use Rattle.laws.proofs.Tests.{false_of}
use Rattle.theta.specs.Order.{sooner}
use Rattle.ranks.specs.Ranks.{seen}
use Rattle.theta.proofs.Order.{sooner_least}
use Rattle.tournament.proofs.tree.winner.Goals as goal

pub returns-else-b-a : goal.returns-else-b-a
returns-else-b-a c =
    let show = seen c.args.g.now c.args.legs.now in
    let t : sooner (show c.args.b.vertex c.args.b.f) (show c.args.a.vertex c.args.a.f) ≡ false =
    false_of _ (λ x. omega (arith, c.if-b-a.false, sooner_least (show c.args.b.vertex c.args.b.f) (show c.args.a.vertex c.args.a.f) x)) in
    record { vertex_is = rw t refl; key_is = rw t refl }
