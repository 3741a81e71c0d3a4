-- What src/inner.rt says of one record. No public contract cites it, so nobody need believe this.
use Rattle.std.specs.Prelude.{ℕ, cond, List, ltb, Option, Some, None, Result, Ok, Err}
use Rattle.records.specs.Records.{record_bytes, byte, stray_byte}
use Rattle.kinds.specs.declared.Record.{Record}
use Rattle.kinds.specs.declared.Record.TheVariants.{Board, Keepout, Net}
use Rattle.kinds.specs.declared.RecordFault.{RecordFault}
use Rattle.kinds.specs.declared.RecordFault.TheVariants.{Unknown, Unused}
use Rattle.kinds.specs.declared.Rectangle.{Rectangle}
use Rattle.kinds.specs.declared.Net as given
pub use Rattle.kinds.specs.Kind.{as_net}
use Rattle.kinds.specs.Job as job-records
use Rattle.kinds.specs.Job.{is_board, is_keepout, is_unknown, used_by, coordinate, left, top, right, bottom, net_at}

-- the place of the lowest stray byte, if there is one
abbrev pub stray_place : List ℕ → (used : List ℕ) → ℕ → Option ℕ
stray_place job used i = let k = stray_byte job used i in cond (ltb k record_bytes) (Some k) None

-- the lowest stray byte of record i, by its type
abbrev pub stray_in : List ℕ → ℕ → ℕ
stray_in job i = stray_byte job (used_by (byte job i 0)) i

-- the code's cells of a keepout, and its net
abbrev pub rectangle_at : List ℕ → ℕ → Rectangle
rectangle_at job i = record { left = left job i; top = top job i; right = right job i; bottom = bottom job i }

abbrev pub as_said : job-records.Net → given.Net
as_said n = record { number = n.number; sx = n.sx; sy = n.sy; gx = n.gx; gy = n.gy }

abbrev pub net_said : List ℕ → ℕ → given.Net
net_said job i = as_said (net_at job i)

-- what record i says
unfoldable pub record_at : List ℕ → ℕ → Result Record RecordFault
record_at job i =
    cond (is_unknown job i) (Err Unknown)
    (cond (ltb (stray_in job i) record_bytes) (Err (Unused (stray_in job i)))
    (cond (is_board job i) (Ok (Board (coordinate job i 2) (coordinate job i 3)))
    (cond (is_keepout job i) (Ok (Keepout (rectangle_at job i)))
    (Ok (Net (net_said job i))))))
