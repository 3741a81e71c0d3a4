-- Each contract of this crate admits one result: two answers that hand the same back are equal. Assumes nothing.
use mathlib.Core.Path.{◌≡◌, refl}
use mathlib.Core.Bool.{cond}
use lib.Dec.{eqb}
use Rattle.std.specs.Prelude.{Result, Ok, Err}
use Rattle.laws.proofs.Determined.{undone}
use Rattle.board.specs.Handed.{Handed}
use Rattle.board.specs.declared.Refusal.TheVariants.{Side, Count, Byte, First, Second}
use Rattle.board.proofs.Determined.{refusal_of}
use Rattle.direction.specs.declared.Direction.{Direction}
use Rattle.direction.specs.declared.DirectionRefusal.{DirectionRefusal}
use Rattle.direction.specs.declared.DirectionRefusal.TheVariants.{Leg, Equal}
use Rattle.direction.specs.Answers.{Toward, handed_direction}

-- the answer that hands this back
direction_from : Handed Toward → Result Direction DirectionRefusal
direction_from h =
    cond (eqb h.number 0) (Ok (record { x = h.values.x; y = h.values.y }))
    (Err (cond (eqb h.number 9) Equal (Leg (refusal_of h.number h.place))))

direction_back : (r : Result Direction DirectionRefusal) → direction_from (handed_direction r) ≡ r
unfolding direction_from
direction_back (Ok d) = refl
direction_back (Err (Leg Side)) = refl
direction_back (Err (Leg Count)) = refl
direction_back (Err (Leg (Byte at))) = refl
direction_back (Err (Leg First)) = refl
direction_back (Err (Leg Second)) = refl
direction_back (Err Equal) = refl

-- of `Direction::of` and `Direction::between`
pub direction_determined : {r s : Result Direction DirectionRefusal} {h : Handed Toward} → handed_direction r ≡ h → handed_direction s ≡ h → r ≡ s
direction_determined = undone handed_direction direction_from direction_back
