-- A line for C is the line call's, told. Assumes nothing.
use mathlib.Core.Path.{◌≡◌, ap, subst, ◌∙◌}
use mathlib.Core.List.{List}
use Prim.Native.Nat.{ℕ}
use Rattle.board.specs.Handed.{Handed}
use Rattle.lines.specs.Answers.{LineWritten}
use Rattle.printing.specs.declared.Printed.{Printed}
use Rattle.printing.specs.Printing.{told_line}
use Rattle.printing.specs.Calls.{LineForC}

pub line_for_c : {bytes asked before after : List ℕ} {h : Handed ℕ} {r : Printed} → bytes ≡ asked → LineWritten bytes before h after
    → r ≡ told_line h → LineForC asked before r after
line_for_c {before = before} {after = after} {r = r} same W e =
    subst (λ (l : List ℕ). LineForC l before r after) same (record { told = e ∙ ap told_line W.row_is; after_is = W.after_is })
