-- The reading of a route file as C has it: what it gets, and what the slices hold before and after.
use Rattle.std.specs.Prelude.{ℕ, ◌≡◌, List}
use Rattle.tracks.specs.Tracks.{routes_in}
use Rattle.tracks.specs.Layout.{Slices, laid_out}
use Rattle.tracks.specs.Answers.{read_row, read_rows, slices_after}
use Rattle.tracking.specs.declared.Routes.{Routes}
use Rattle.tracking.specs.Tracking.{told_routes}

pub record RoutesReadForC (file : List ℕ) (before : Slices) (r : Routes) (after : Slices) : Type 0 where
  pub told : r ≡ told_routes (read_row file before)
  pub after_is : after ≡ slices_after (read_rows file before) (laid_out (routes_in file)) before
