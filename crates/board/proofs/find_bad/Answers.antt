use mathlib.Core.Path.{◌∙◌, sym}
use Rattle.board.proofs.Bytes.{bad_place_is, no_bad_place}
use Rattle.board.proofs.find_bad.Goals as goal

pub returns-then-has_bad : goal.returns-then-has_bad
returns-then-has_bad c = c.first_bad.ensures ∙ bad_place_is c.args.cells.now

pub returns-else-has_bad : goal.returns-else-has_bad
returns-else-has_bad c = sym (no_bad_place _ (sym c.if-has_bad.ensures))
