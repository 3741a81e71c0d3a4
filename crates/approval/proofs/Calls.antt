-- Routes that are checked are so for C. Assumes nothing.
use mathlib.Core.Path.{◌≡◌, ap, ◌∙◌}
use mathlib.Core.List.{List}
use Prim.Native.Nat.{ℕ}
use Rattle.std.specs.Prelude.{Result}
use Rattle.bureau.specs.declared.CheckRefusal.{CheckRefusal}
use Rattle.bureau.specs.Answers.{Slices, handed_check, Checked}
use Rattle.approval.specs.declared.Approval.{Approval}
use Rattle.approval.specs.Approval.{told_check}
use Rattle.approval.specs.Calls.{CheckedForC}

pub checked_for_c : {job file : List ℕ} {before after : Slices} {a : Result ℕ CheckRefusal} {r : Approval} → Checked job file before after a
    → r ≡ told_check (handed_check a) → CheckedForC job file before r after
checked_for_c W e = record { told = e ∙ ap told_check W.row_is; after_is = W.after_is }
