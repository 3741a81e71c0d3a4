-- What the function inside may rely on. No public contract cites it, so nobody need believe this.
use Rattle.std.specs.Prelude.{ℕ, ◌≡◌, List}
use Rattle.board.specs.Handed.{passes}
use Rattle.records.specs.Records.{records}
use Rattle.steps.specs.declared.Progress.{Progress}
use Rattle.faults.specs.Inner.{Accepted, progress}
use Rattle.tracks.specs.Faults.{file_rows}

-- a job and a file that passed, and what the job's records say
pub record BothPassed (job file : List ℕ) (whole : Progress) : Type 0 where
  pub accepted : Accepted job
  pub whole_is : whole ≡ progress job (records job)
  pub clean : file_rows file ≡ passes
