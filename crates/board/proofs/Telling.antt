-- What another shape is told of an answer: each arm of a match by one of these. Assumes nothing.
use mathlib.Core.Path.{◌≡◌, sym, ap, ◌∙◌}
use Rattle.board.specs.Handed.{Verdict, Handed, judged}

-- an answer that is known to be one variant is told as that variant is
pub told_as : {Answer Said Told : Type 0} (handed : Answer → Said) (told : Said → Told) {a b : Answer} {r : Told} → a ≡ b
    → r ≡ told (handed b) → r ≡ told (handed a)
told_as handed told e f = f ∙ ap (λ x. told (handed x)) (sym e)

-- a refused answer is told by the refusal's number and place
pub told_refused : {Answer Values Told : Type 0} (handed : Answer → Handed Values) (told : Handed Values → Told) (none : Values) {v w : Verdict} {a b : Answer}
    {r : Told} → a ≡ b → handed b ≡ judged none w → v ≡ w → r ≡ told (judged none v) → r ≡ told (handed a)
told_refused handed told none e f g h = told_as handed told e (h ∙ ap (λ v. told (judged none v)) g ∙ ap told (sym f))
