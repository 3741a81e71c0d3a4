-- The route call's contract admits one answer and one content of each slice. Assumes nothing.
use mathlib.Core.Path.{◌≡◌, refl, sym, ap, ◌∙◌}
use mathlib.Core.Bool.{cond}
use Prim.Native.Nat.{ℕ}
use lib.Dec.{eqb}
use Rattle.std.specs.Prelude.{Result, Ok, Err}
use Rattle.laws.proofs.Determined.{undone}
use Rattle.board.specs.declared.Refusal.TheVariants.{Side, Count, Byte, First, Second}
use Rattle.board.specs.Board.{Board}
use Rattle.board.specs.Handed.{Handed}
use Rattle.board.proofs.Determined.{refusal_of}
use Rattle.problem.specs.Problem.{problem}
use Rattle.answer.specs.declared.Answer.{Answer}
use Rattle.answer.specs.declared.Answer.TheVariants.{Found, NoPath}
use Rattle.answer.specs.declared.RequestRefusal.{RequestRefusal}
use Rattle.answer.specs.declared.RequestRefusal.TheVariants.{Request, Work, Short}
use Rattle.answer.specs.Answers.{Route, handed_route, Slices, slices_after, Routed}

-- the answer that hands this back
answer_of : Handed Route → Result Answer RequestRefusal
answer_of h =
    let v = h.values in
    cond (eqb h.number 0) (Ok (Found v.cells v.units v.vertices v.legs v.expansions v.tests))
    (cond (eqb h.number 6) (Err Work)
    (cond (eqb h.number 7) (Err (Short h.place))
    (cond (eqb h.number 8) (Ok (NoPath v.expansions v.tests)) (Err (Request (refusal_of h.number h.place))))))

back : (r : Result Answer RequestRefusal) → answer_of (handed_route r) ≡ r
unfolding answer_of
back (Ok (Found c u v l e t)) = refl
back (Ok (NoPath e t)) = refl
back (Err (Request Side)) = refl
back (Err (Request Count)) = refl
back (Err (Request (Byte at))) = refl
back (Err (Request First)) = refl
back (Err (Request Second)) = refl
back (Err Work) = refl
back (Err (Short n)) = refl

module _ {b : Board} {sx sy gx gy : ℕ} {before after₁ after₂ : Slices} where
  -- what is handed back determines what is left
  pub after_determined : {h k : Handed Route} → Routed b sx sy gx gy before after₁ h → Routed b sx sy gx gy before after₂ k → after₁ ≡ after₂
  after_determined R S =
      R.after_is ∙ ap (λ (x : Handed Route). slices_after (problem b sx sy gx gy) x.number before) (R.row_is ∙ sym S.row_is) ∙ sym S.after_is

  pub route_determined : {r s : Result Answer RequestRefusal} → Routed b sx sy gx gy before after₁ (handed_route r) → Routed b sx sy gx gy before after₂ (handed_route s)
      → (r ≡ s) × (after₁ ≡ after₂)
  route_determined R S = (undone handed_route answer_of back R.row_is S.row_is, after_determined R S)
