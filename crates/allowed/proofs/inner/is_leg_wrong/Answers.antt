use Rattle.std.proofs.Common.{◌≡◌, false, true, rules, sym}
use Rattle.legs.specs.Stops.{is_clear}
use Rattle.allowed.proofs.Telling.{sees_told, leg_equal, leg_unseen, leg_seen}
use Rattle.allowed.proofs.inner.is_leg_wrong.Goals as goal

pub returns-then-eq : goal.returns-then-eq
returns-then-eq c = leg_equal _ _ _ _ (sym c.if-eq.ensures)

pub returns-then-ne : goal.returns-then-ne
returns-then-ne c =
    let stopped : is_clear c.first_stop.result ≡ false = search (rules, c.if-ne.ensures) in
    leg_unseen _ _ _ _ (sym c.if-eq.ensures) (sees_told c.requires c.first_stop.ensures stopped)

pub returns : goal.returns
returns c =
    let clear : is_clear c.first_stop.result ≡ true = search (rules, c.if-ne.ensures) in
    leg_seen _ _ _ _ (sym c.if-eq.ensures) (sees_told c.requires c.first_stop.ensures clear) c.is_pinched.ensures
