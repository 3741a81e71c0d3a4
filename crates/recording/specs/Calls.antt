-- The writing of a route file and a path's points as C has them: what it gets, and what the slices hold before and after.
use Rattle.std.specs.Prelude.{ℕ, ◌≡◌, List, length}
use Rattle.packed.specs.Answers.{slice_after}
use Rattle.corners.specs.Corners.{columns, rows, point_rows}
use Rattle.tracks.specs.Layout.{Slices}
use Rattle.tracks.specs.Answers.{write_row, write_rows, file_after, file_for}
use Rattle.recording.specs.declared.Recorded.{Recorded}
use Rattle.recording.specs.declared.Turned.{Turned}
use Rattle.recording.specs.Recording.{told_records, told_points}

-- routes written for C: what it gets, and what the file slice holds before and after
pub record RoutesWrittenForC (s : Slices) (before : List ℕ) (r : Recorded) (after : List ℕ) : Type 0 where
  pub told : r ≡ told_records (write_row s (length before))
  pub after_is : after ≡ file_after (write_rows s (length before)) (file_for s) before

-- a path turned into points for C: what it gets, and what the two slices hold before and after
pub record PointsForC (path : List ℕ) (width : ℕ) (xs ys : List ℕ) (r : Turned) (xs' ys' : List ℕ) : Type 0 where
  pub told : r ≡ told_points (point_rows path width (length xs) (length ys))
  pub xs_are : xs' ≡ slice_after (point_rows path width (length xs) (length ys)) (columns path width) xs
  pub ys_are : ys' ≡ slice_after (point_rows path width (length xs) (length ys)) (rows path width) ys
