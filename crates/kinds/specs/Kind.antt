-- The kinds of records by the number in byte 0, and a net as the code has it.
use Rattle.std.specs.Prelude.{ℕ, ◌≡◌, cond, eqb, Result, Ok, Err}
use Rattle.kinds.specs.declared.Kind.{Kind}
use Rattle.kinds.specs.declared.Kind.TheVariants.{Board, Keepout, Net}
use Rattle.kinds.specs.declared.Net as given
use Rattle.kinds.specs.Job as job-records
use Rattle.kinds.specs.declared.RecordFault.{RecordFault}
use Rattle.kinds.specs.declared.RecordFault.TheVariants.{Unknown}

-- the number of each kind
abbrev pub code_of : Kind → ℕ
code_of Board = 1
code_of Keepout = 2
code_of Net = 3

-- the kind with a number, or that none has it
abbrev pub kind_of : ℕ → Result Kind RecordFault
kind_of code = cond (eqb code 1) (Ok Board) (cond (eqb code 2) (Ok Keepout) (cond (eqb code 3) (Ok Net) (Err Unknown)))

abbrev pub Decodes : ℕ → Result Kind RecordFault → Type 0
Decodes code r = r ≡ kind_of code

-- the net that the code has
abbrev pub as_net : given.Net → job-records.Net
as_net n = record { number = n.number; sx = n.sx; sy = n.sy; gx = n.gx; gy = n.gy }
