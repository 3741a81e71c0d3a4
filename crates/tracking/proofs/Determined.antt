-- The contract of `wexxolin_read_routes_1` admits one result and one content of each lent slice. Assumes nothing.
use mathlib.Core.Path.{◌≡◌, sym, ◌∙◌}
use mathlib.Core.List.{List}
use Prim.Native.Nat.{ℕ}
use Rattle.tracks.specs.Layout.{Slices}
use Rattle.tracking.specs.declared.Routes.{Routes}
use Rattle.tracking.specs.Calls.{RoutesReadForC}

pub routes_determined : {file : List ℕ} {before after₁ after₂ : Slices} {r s : Routes} → RoutesReadForC file before r after₁
    → RoutesReadForC file before s after₂ → (r ≡ s) × (after₁ ≡ after₂)
routes_determined R S = (R.told ∙ sym S.told, R.after_is ∙ sym S.after_is)
