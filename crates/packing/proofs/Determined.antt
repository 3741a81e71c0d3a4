-- The contracts of `wexxolin_unpack_1` and `wexxolin_pack_1` admit one result and one content of the lent slice. Assumes nothing.
use mathlib.Core.Path.{◌≡◌, sym, ◌∙◌}
use mathlib.Core.List.{List}
use Prim.Native.Nat.{ℕ}
use Rattle.board.specs.Handed.{Verdict}
use Rattle.packing.specs.declared.Packing.{Packing}
use Rattle.packing.specs.Calls.{WroteForC}

pub packing_determined : {rows : Verdict} {written before after₁ after₂ : List ℕ} {r s : Packing}
    → WroteForC rows written before r after₁ → WroteForC rows written before s after₂ → (r ≡ s) × (after₁ ≡ after₂)
packing_determined R S = (R.told ∙ sym S.told, R.after_is ∙ sym S.after_is)
