-- The contract of `wexxolin_check_1` admits one result and one content of each lent slice. Assumes nothing.
use mathlib.Core.Path.{◌≡◌, sym, ◌∙◌}
use mathlib.Core.List.{List}
use Prim.Native.Nat.{ℕ}
use Rattle.bureau.specs.Answers.{Slices}
use Rattle.approval.specs.declared.Approval.{Approval}
use Rattle.approval.specs.Calls.{CheckedForC}

pub check_determined : {job file : List ℕ} {before after₁ after₂ : Slices} {r s : Approval} → CheckedForC job file before r after₁
    → CheckedForC job file before s after₂ → (r ≡ s) × (after₁ ≡ after₂)
check_determined R S = (R.told ∙ sym S.told, R.after_is ∙ sym S.after_is)
