-- The reading of a job's board as C has it: what it gets, and what the board slice holds before and after.
use Rattle.std.specs.Prelude.{ℕ, ◌≡◌, List, length}
use Rattle.job.specs.Answers.{board_row, board_after}
use Rattle.reading.specs.declared.Sides.{Sides}
use Rattle.reading.specs.Reading.{told_board}

pub record ReadForC (job before : List ℕ) (r : Sides) (after : List ℕ) : Type 0 where
  pub told : r ≡ told_board (board_row job (length before))
  pub after_is : after ≡ board_after job before
