-- The line call as C has it: what it gets, and what the lent slice holds before and after.
use Rattle.std.specs.Prelude.{ℕ, ◌≡◌, List, length}
use Rattle.lines.specs.Answers.{line_row, line_after}
use Rattle.printing.specs.declared.Printed.{Printed}
use Rattle.printing.specs.Printing.{told_line}

pub record LineForC (bytes before : List ℕ) (r : Printed) (after : List ℕ) : Type 0 where
  pub told : r ≡ told_line (line_row bytes (length before))
  pub after_is : after ≡ line_after bytes before
