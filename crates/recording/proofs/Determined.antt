-- The contracts of `wexxolin_write_routes_1` and `wexxolin_path_points_1` admit one result and one content of each lent slice. Assumes
-- nothing.
use mathlib.Core.Path.{◌≡◌, sym, ◌∙◌}
use mathlib.Core.List.{List}
use Prim.Native.Nat.{ℕ}
use Rattle.tracks.specs.Layout.{Slices}
use Rattle.recording.specs.declared.Recorded.{Recorded}
use Rattle.recording.specs.declared.Turned.{Turned}
use Rattle.recording.specs.Calls.{RoutesWrittenForC, PointsForC}

-- of `wexxolin_write_routes_1`
pub records_determined : {given : Slices} {before after₁ after₂ : List ℕ} {r s : Recorded} → RoutesWrittenForC given before r after₁
    → RoutesWrittenForC given before s after₂ → (r ≡ s) × (after₁ ≡ after₂)
records_determined R S = (R.told ∙ sym S.told, R.after_is ∙ sym S.after_is)

-- of `wexxolin_path_points_1`
pub points_determined : {path : List ℕ} {width : ℕ} {xs ys xs₁ ys₁ xs₂ ys₂ : List ℕ} {r s : Turned} → PointsForC path width xs ys r xs₁ ys₁
    → PointsForC path width xs ys s xs₂ ys₂ → (r ≡ s) × (xs₁ ≡ xs₂) × (ys₁ ≡ ys₂)
points_determined R S = (R.told ∙ sym S.told, R.xs_are ∙ sym S.xs_are, R.ys_are ∙ sym S.ys_are)
