-- A contract that gives what a result hands back determines the result, where the result can be told from it. Assumes nothing.
use mathlib.Core.Path.{◌≡◌, sym, ap, ◌∙◌}

-- `from` takes back what f does, so two results of which f gives the same are equal
pub undone : {A B : Type 0} (f : A → B) (from : B → A) → ((r : A) → from (f r) ≡ r) → {r s : A} {h : B} → f r ≡ h → f s ≡ h → r ≡ s
undone f from back {r} {s} p q = sym (back r) ∙ ap from (p ∙ sym q) ∙ back s
