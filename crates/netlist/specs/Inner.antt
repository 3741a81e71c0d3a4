-- What src/inner.rt finds. No public contract cites it, so nobody need believe this.
use Rattle.std.specs.Prelude.{ℕ, cond, List, leb, Option, Some, None, Result, Ok, Err}
use Rattle.kinds.specs.declared.Record.{Record}
use Rattle.kinds.specs.declared.Record.TheVariants as record-said
use Rattle.kinds.specs.declared.RecordFault.{RecordFault}
use Rattle.kinds.specs.declared.RecordFault.TheVariants.{Unknown}
use Rattle.kinds.specs.declared.Net.{Net}
use Rattle.kinds.specs.Job.{nets, net_record}
use Rattle.kinds.specs.Inner.{record_at}

-- the net that a record says, if it says one
abbrev pub net_in : Result Record RecordFault → Option Net
net_in (Ok (record-said.Board w h)) = None
net_in (Ok (record-said.Keepout r)) = None
net_in (Ok (record-said.Net n)) = Some n
net_in (Err e) = None

-- the record of the net with an index, if there is one
abbrev pub net_place : List ℕ → (index : ℕ) → Option ℕ
net_place job index = cond (leb (nets job) index) None (Some (net_record job index))

-- what the net with an index says
unfoldable pub net_said : List ℕ → (index : ℕ) → Result Record RecordFault
net_said job index = cond (leb (nets job) index) (Err Unknown) (record_at job (net_record job index))
