-- The contract of `wexxolin_line_1` admits one result and one content of the lent slice. Assumes nothing.
use mathlib.Core.Path.{◌≡◌, sym, ◌∙◌}
use mathlib.Core.List.{List}
use Prim.Native.Nat.{ℕ}
use Rattle.printing.specs.declared.Printed.{Printed}
use Rattle.printing.specs.Calls.{LineForC}

pub line_determined : {bytes before after₁ after₂ : List ℕ} {r s : Printed} → LineForC bytes before r after₁ → LineForC bytes before s after₂
    → (r ≡ s) × (after₁ ≡ after₂)
line_determined R S = (R.told ∙ sym S.told, R.after_is ∙ sym S.after_is)
