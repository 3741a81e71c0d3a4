-- The contract of `wexxolin_board_1` admits one result and one content of the lent slice. Assumes nothing.
use mathlib.Core.Path.{◌≡◌, sym, ◌∙◌}
use mathlib.Core.List.{List}
use Prim.Native.Nat.{ℕ}
use Rattle.reading.specs.declared.Sides.{Sides}
use Rattle.reading.specs.Calls.{ReadForC}

pub board_determined : {job before after₁ after₂ : List ℕ} {r s : Sides} → ReadForC job before r after₁ → ReadForC job before s after₂
    → (r ≡ s) × (after₁ ≡ after₂)
board_determined R S = (R.told ∙ sym S.told, R.after_is ∙ sym S.after_is)
