-- Each contract of this crate admits one result: two answers that hand the same back are equal. Assumes nothing.
use Rattle.std.proofs.Common.{◌≡◌, cond, eqb, refl}
use Rattle.std.specs.Prelude.{Result, Ok, Err}
use Rattle.laws.proofs.Determined.{undone}
use Rattle.board.specs.Handed.{Handed}
use Rattle.board.specs.declared.Refusal.{Refusal}
use Rattle.board.specs.declared.Refusal.TheVariants.{Side, Count, Byte, First, Second}
use Rattle.board.proofs.Determined.{refusal_of}
use Rattle.length.specs.declared.Length.{Length}
use Rattle.length.specs.Answers.{Long, handed_length}

-- the answer that hands this back
length_from : Handed Long → Result Length Refusal
length_from h = cond (eqb h.number 0) (Ok (record { units = h.values.units })) (Err (refusal_of h.number h.place))

length_back : (r : Result Length Refusal) → length_from (handed_length r) ≡ r
unfolding length_from
length_back (Ok l) = refl
length_back (Err Side) = refl
length_back (Err Count) = refl
length_back (Err (Byte at)) = refl
length_back (Err First) = refl
length_back (Err Second) = refl

-- of `Length::of` and `Length::between`
pub length_determined : {r s : Result Length Refusal} {h : Handed Long} → handed_length r ≡ h → handed_length s ≡ h → r ≡ s
length_determined = undone handed_length length_from length_back
