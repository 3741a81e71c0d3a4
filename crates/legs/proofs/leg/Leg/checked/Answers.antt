use mathlib.Core.Path.{sym}
use Rattle.board.proofs.Rows.{leg_sound, leg_first, leg_second}
use Rattle.legs.proofs.leg.Leg.checked.Goals as goal

pub invariant_of-board : goal.invariant_of-board
invariant_of-board c = record { sound = leg_sound _ _ _ _ _ (sym c.in_ok-check_leg.ensures) }

pub invariant_of-result : goal.invariant_of-result
invariant_of-result c =
    let e = sym c.in_ok-check_leg.ensures in
    record { ends = record { first = leg_first _ _ _ _ _ e; second = leg_second _ _ _ _ _ e } }
