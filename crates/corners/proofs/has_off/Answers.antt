use Rattle.std.proofs.Common.{◌∙◌, ℕ, ltb, rules, tests}
use Rattle.std.proofs.lemmas.Iterator.{YieldsList-from_slice}
use Rattle.std.proofs.lemmas.Iterator.Search.{any_from_yields_List}
use Rattle.board.specs.Limits.{largest_side}
use Rattle.board.specs.Board.{row_of}
use Rattle.corners.specs.Corners.{has_off}
use Rattle.corners.proofs.Points.{some_is}
use Rattle.corners.proofs.has_off.Goals as goal

pub returns : goal.returns
unfolding has_off
returns c =
    let off = λ (v : ℕ). ltb largest_side (row_of c.args.width v) in
    any_from_yields_List off _ _ _ c.any.ensures.ran (YieldsList-from_slice c.args.path.now cc) (λ x b q k. search (rules, tests)) ∙ some_is off c.args.path.now
