-- The one line of a refused job. Assumes nothing.
use Prim.Native.Nat.{ℕ}
use mathlib.Core.Path.{◌≡◌, ap, ◌∙◌}
use mathlib.Core.List.{List}
use Rattle.board.specs.declared.row.Row.{Row}
use Rattle.board.specs.Row.{row_of}
use Rattle.refusals.specs.declared.JobRefusal.{JobRefusal}
use Rattle.refusals.specs.Refusals.{refusal_row}
use Rattle.refusals.proofs.Refusing.{listed}
use Rattle.faults.specs.Faults.{job_rows}
use Rattle.lines.specs.declared.Line.{Line}
use Rattle.lines.specs.Answers.{bytes_of}
use Rattle.lines.specs.Inner.{Refusing}
use Rattle.lines.proofs.Refusals.{refusing_bytes}
use Rattle.replies.specs.Output.{line_count, line_at}

module _ (job : List ℕ) (why : JobRefusal) (e : job_rows job ≡ refusal_row why) where
  pub one_line : line_count job ≡ 1
  one_line = rw (e, (listed why).row_is)

  -- as the code makes it, from the refusal's row
  pub refusal_bytes : {row : Row} → row_of row ≡ refusal_row why → {r : Line} → Refusing row.number row.place row.second r
      → (w : ℕ) (path : List ℕ) → bytes_of r w path ≡ line_at job 0
  refusal_bytes {row} same made w path =
      ap (λ (x : Line). bytes_of x w path) made.line_is
      ∙ refusing_bytes row.number row.place row.second w path
      ∙ rw (e, ← same)
