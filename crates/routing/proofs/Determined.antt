-- The contract of `wexxolin_route_2` admits one result and one content of each lent slice. Assumes nothing.
use mathlib.Core.Path.{◌≡◌, sym, ap, ◌∙◌}
use Prim.Native.Nat.{ℕ}
use Rattle.board.specs.Board.{Board}
use Rattle.problem.specs.Problem.{problem}
use Rattle.router.specs.Answers.{Slices, slices_after}
use Rattle.routing.specs.declared.Found.{Found}
use Rattle.routing.specs.Calls.{RoutedForC}

pub route_determined : {b : Board} {sx sy gx gy : ℕ} {before after₁ after₂ : Slices} {r s : Found}
    → RoutedForC b sx sy gx gy before after₁ r → RoutedForC b sx sy gx gy before after₂ s → (r ≡ s) × (after₁ ≡ after₂)
route_determined {b} {sx} {sy} {gx} {gy} {before} R S =
    let same = R.told ∙ sym S.told in
    (same, R.after_is ∙ ap (λ (x : Found). slices_after (problem b sx sy gx gy) x.number before) same ∙ sym S.after_is)
