-- A route for C is the route call's, told. Assumes nothing.
use mathlib.Core.Path.{◌≡◌, sym, ap, ◌∙◌}
use Prim.Native.Nat.{ℕ}
use Rattle.board.specs.Board.{Board}
use Rattle.board.specs.Handed.{Handed}
use Rattle.problem.specs.Problem.{problem}
use Rattle.router.specs.Answers.{Route, Slices, slices_after, Routed}
use Rattle.routing.specs.declared.Found.{Found}
use Rattle.routing.specs.Routing.{told_route}
use Rattle.routing.specs.Calls.{RoutedForC}

pub routed_for_c : {b : Board} {sx sy gx gy : ℕ} {before after : Slices} {h : Handed Route} {r : Found} → Routed b sx sy gx gy before after h
    → r ≡ told_route h → RoutedForC b sx sy gx gy before after r
routed_for_c {b} {sx} {sy} {gx} {gy} {before} R e = record {
  told = e ∙ ap told_route R.row_is;
  after_is = R.after_is ∙ ap (λ (n : ℕ). slices_after (problem b sx sy gx gy) n before) (sym (ap (λ (f : Found). f.number) e));
}
