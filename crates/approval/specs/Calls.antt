-- The check of the bureau's routes as C has it: what it gets, and what the slices hold before and after.
use Rattle.std.specs.Prelude.{ℕ, ◌≡◌, List}
use Rattle.bureau.specs.Answers.{Slices, check_row, slices_after}
use Rattle.approval.specs.declared.Approval.{Approval}
use Rattle.approval.specs.Approval.{told_check}

pub record CheckedForC (job file : List ℕ) (before : Slices) (r : Approval) (after : Slices) : Type 0 where
  pub told : r ≡ told_check (check_row job file before)
  pub after_is : after ≡ slices_after job file before
