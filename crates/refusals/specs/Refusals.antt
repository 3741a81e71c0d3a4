-- The row of each refusal of a job: its number, the record, and for 23 the byte.
use Rattle.board.specs.Handed.{Verdict, refused}
use Rattle.refusals.specs.declared.JobRefusal.{JobRefusal}
use Rattle.refusals.specs.declared.JobRefusal.TheVariants.{Long, Uneven, Order, Unknown, Side, Keepout, End}
use Rattle.refusals.specs.declared.JobRefusal.TheVariants.{Number, Late, Unused}

abbrev pub refusal_row : JobRefusal → Verdict
refusal_row Long = refused 10 0 0
refusal_row Uneven = refused 11 0 0
refusal_row (Order i) = refused 12 i 0
refusal_row (Unknown i) = refused 13 i 0
refusal_row (Side i) = refused 14 i 0
refusal_row (Keepout i) = refused 15 i 0
refusal_row (End i) = refused 16 i 0
refusal_row (Number i) = refused 17 i 0
refusal_row (Late i) = refused 18 i 0
refusal_row (Unused i k) = refused 23 i k
