-- `board::has_bad` says whether some byte is not 0 or 1. The loop's invariant: one so far, or one in what is left.
use mathlib.Core.Path.{◌≡◌}
use mathlib.Core.Bool.{◌||◌}
use lib.ListN.{drop}
use Rattle.board.proofs.Bytes.{has_bad}
use Rattle.board.proofs.has_bad.Given as goal

abbrev pub invariant-loop-cell : goal.invariant-loop-cell
invariant-loop-cell l = (l.bad || has_bad (drop l.cell-index l.cells)) ≡ has_bad l.cells
