-- A call for packed boards writes its lent slice for C. Assumes nothing.
use mathlib.Core.Path.{◌≡◌, ap, ◌∙◌}
use mathlib.Core.List.{List}
use Prim.Native.Nat.{ℕ}
use Rattle.board.specs.Handed.{Verdict}
use Rattle.packed.specs.Answers.{Wrote}
use Rattle.packing.specs.declared.Packing.{Packing}
use Rattle.packing.specs.Packing.{told_rows}
use Rattle.packing.specs.Calls.{WroteForC}

pub wrote_for_c : {rows said : Verdict} {written before after : List ℕ} {r : Packing} → Wrote rows written before said after
    → r ≡ told_rows said → WroteForC rows written before r after
wrote_for_c W e = record { told = e ∙ ap told_rows W.row_is; after_is = W.after_is }
