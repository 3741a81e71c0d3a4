-- What the functions inside may rely on and say to each other and to the crates above. No public contract cites it, so nobody need believe this.
use Rattle.std.specs.Prelude.{ℕ, ◌*◌, ◌≤◌, ◌≡◌, length, Result, Ok, Err}
use Rattle.board.specs.Handed.{passes}
use Rattle.tracks.specs.declared.WriteRefusal.{WriteRefusal}
use Rattle.tracks.specs.Faults.{file_rows}
use Rattle.tracks.specs.Layout.{Slices, points_before}
use Rattle.tracks.specs.Answers.{file_for, write_refusal_row}
use Rattle.tally.specs.declared.Size.{Size}

-- what would be written is right, with its size; or it is refused
pub record Right (s : Slices) (records points : ℕ) : Type 0 where
  pub passed : file_rows (file_for s) ≡ passes
  pub long : length (file_for s) ≡ records * 8
  pub few : records ≤ 255 * 65536
  pub points_are : points ≡ points_before s.counts (length s.nets)

abbrev pub MeasuredAs : Slices → Result Size WriteRefusal → Type 0
MeasuredAs s (Ok size) = Right s size.records size.points
MeasuredAs s (Err why) = file_rows (file_for s) ≡ write_refusal_row why
