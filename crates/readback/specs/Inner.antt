-- What the check of a file says to the crates above. No public contract cites it, so nobody need believe this.
use Rattle.std.specs.Prelude.{◌≡◌, ℕ, List, Result, Ok, Err}
use Rattle.board.specs.Handed.{passes}
use Rattle.records.specs.Records.{records}
use Rattle.tracks.specs.declared.RouteRefusal.{RouteRefusal}
use Rattle.tracks.specs.Faults.{file_rows, refusal_row}
use Rattle.scan.specs.declared.Progress.{Progress}
use Rattle.scan.specs.Inner.{progress}

-- the whole file is judged
abbrev pub Checked : List ℕ → Result Progress RouteRefusal → Type 0
Checked file (Ok p) = (file_rows file ≡ passes) × (p ≡ progress file (records file))
Checked file (Err why) = file_rows file ≡ refusal_row why
