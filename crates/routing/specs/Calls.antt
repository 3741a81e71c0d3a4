-- The route call as C has it: what it gets, and what the slices hold before and after.
use Rattle.std.specs.Prelude.{ℕ, ◌≡◌}
use Rattle.board.specs.Board.{Board}
use Rattle.problem.specs.Problem.{problem}
use Rattle.router.specs.Answers.{Slices, route_row, slices_after}
use Rattle.routing.specs.declared.Found.{Found}
use Rattle.routing.specs.Routing.{told_route}

pub record RoutedForC (b : Board) (sx sy gx gy : ℕ) (before after : Slices) (r : Found) : Type 0 where
  pub told : r ≡ told_route (route_row b sx sy gx gy before)
  pub after_is : after ≡ slices_after (problem b sx sy gx gy) r.number before
