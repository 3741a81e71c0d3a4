-- `readback::check::check_routes` judges the whole file. The loop's invariant: the records before pass, and what was read is theirs.
use mathlib.Core.Path.{◌≡◌}
use Rattle.board.specs.Handed.{passes}
use Rattle.records.specs.Records.{in_order}
use Rattle.tracks.specs.Faults.{record_rows}
use Rattle.scan.specs.Inner.{progress}
use Rattle.readback.proofs.check.check_routes.Given as goal

abbrev pub invariant-loop-i : goal.invariant-loop-i
invariant-loop-i l = (l.past ≡ progress l.file l.i) × (in_order l.i (record_rows l.file) ≡ passes)
