-- What the line call hands back, and what it leaves in the lent slice.
use Rattle.std.specs.Prelude.{ℕ, ◌≡◌, cond, List, ◌++◌, ltb, length, drop, Result}
use Rattle.board.specs.Handed.{Verdict, row, Handed, answer, unless, handed}
use Rattle.board.specs.Handed as table
use Rattle.lines.specs.declared.Line.{Line}
use Rattle.lines.specs.declared.Line.TheVariants as Line-of
use Rattle.lines.specs.declared.Short.{Short}
use Rattle.lines.specs.Lines.{net_line, none_line, refused_line, refused_twice_line}

-- the bytes of each case
abbrev pub bytes_of : Line → (width : ℕ) → (path : List ℕ) → List ℕ
bytes_of (Line-of.Path number units expansions tests) width path = net_line number units expansions tests width path
bytes_of (Line-of.None number expansions tests) width path = none_line number expansions tests
bytes_of (Line-of.Refused number place) width path = refused_line number place
bytes_of (Line-of.RefusedTwice number place second) width path = refused_twice_line number place second

-- the row of a slice that is too short
abbrev pub short_row : Short → Verdict
short_row why = table.refused 21 0 0

-- number, places and value of each case: how many bytes were written
abbrev pub handed_line : Result ℕ Short → Handed ℕ
handed_line = handed 0 (λ bytes. bytes) short_row

-- 21: the lent slice is shorter than the line
unfoldable pub line_row : (bytes : List ℕ) → (lent : ℕ) → Handed ℕ
line_row bytes lent = unless 0 (row (ltb lent (length bytes)) 21 0) (answer (length bytes))

-- what the lent slice holds afterwards: the line, and beyond it what it held; all that it held if the line was refused
unfoldable pub line_after : (bytes before : List ℕ) → List ℕ
line_after bytes before = cond (ltb (length before) (length bytes)) before (bytes ++ drop (length bytes) before)

-- what the call hands back, and what the lent slice holds before and after it
pub record LineWritten (bytes before : List ℕ) (h : Handed ℕ) (after : List ℕ) : Type 0 where
  pub row_is : h ≡ line_row bytes (length before)
  pub after_is : after ≡ line_after bytes before
