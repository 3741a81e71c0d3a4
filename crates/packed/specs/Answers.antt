-- What the three calls hand back, in the table's numbers, and what the lent slice holds afterwards.
use Rattle.std.specs.Prelude.{ℕ, ◌*◌, ◌≡◌, List, ◌++◌, ltb, length, drop, Result}
use Rattle.board.specs.Board.{Board}
use Rattle.board.specs.Handed.{Verdict, passes, refused, row, and_then, Handed}
use Rattle.board.specs.Handed.{answer, unless, handed, verdict, board_rows, refusal_row}
use Rattle.filling.specs.declared.PackedRefusal.{PackedRefusal}
use Rattle.bits.specs.Packed.{packed_bytes, cells_of, blocked_in, packed_of}
use Rattle.filling.specs.Filling.{packed_rows, packed_row}
use Rattle.packed.specs.declared.ReadRefusal.{ReadRefusal}
use Rattle.packed.specs.declared.ReadRefusal.TheVariants as reading
use Rattle.packed.specs.declared.WriteRefusal.{WriteRefusal}
use Rattle.packed.specs.declared.WriteRefusal.TheVariants as writing

-- ---- a call that writes a lent slice

-- what the slice holds afterwards: where the rows pass what is written, and beyond it what it held; else all that it held
abbrev pub slice_after : (rows : Verdict) → (written before : List ℕ) → List ℕ
slice_after passes written before = written ++ drop (length written) before
slice_after (refused number place second) written before = before

-- what the call says, and what the lent slice holds before and after it
pub record Wrote (rows : Verdict) (written before : List ℕ) (said : Verdict) (after : List ℕ) : Type 0 where
  pub row_is : said ≡ rows
  pub after_is : after ≡ slice_after rows written before

-- ---- reading

-- 1, 29, 30, then 19: the lent slice is shorter than the cells
unfoldable pub read_rows : List ℕ → (width height lent : ℕ) → Verdict
read_rows packed width height lent = and_then (packed_rows packed width height) (row (ltb lent (width * height)) 19 0)

-- the row of each refusal of the code, and what its answer says
abbrev pub read_refusal_row : ReadRefusal → Verdict
read_refusal_row (reading.Packed why) = packed_row why
read_refusal_row reading.Short = refused 19 0 0

abbrev pub said_read : Result (Unit {0}) ReadRefusal → Verdict
said_read = verdict read_refusal_row

abbrev pub CellsRead : (packed : List ℕ) (width height : ℕ) (before : List ℕ) (said : Verdict) (after : List ℕ) → Type 0
CellsRead packed width height before = Wrote (read_rows packed width height (length before)) (cells_of packed width height) before

-- ---- writing

-- 1, 2, 3, then 21: the lent slice is shorter than the packed bytes
unfoldable pub write_rows : Board → (lent : ℕ) → Verdict
write_rows b lent = and_then (board_rows b) (row (ltb lent (packed_bytes b.width b.height)) 21 0)

abbrev pub write_refusal_row : WriteRefusal → Verdict
write_refusal_row (writing.Board why) = refusal_row why
write_refusal_row writing.Short = refused 21 0 0

abbrev pub said_written : Result (Unit {0}) WriteRefusal → Verdict
said_written = verdict write_refusal_row

abbrev pub PackedWritten : (b : Board) (before : List ℕ) (said : Verdict) (after : List ℕ) → Type 0
PackedWritten b before = Wrote (write_rows b (length before)) (packed_of b.cells b.width b.height) before

-- ---- counting

-- how many cells are blocked
pub record Count : Type 0 where
  pub blocked : ℕ

abbrev pub no_count : Count
no_count = record { blocked = 0 }

abbrev pub handed_count : Result ℕ PackedRefusal → Handed Count
handed_count = handed no_count (λ n. record { blocked = n }) packed_row

-- 1, 29, 30
unfoldable pub count_row : List ℕ → (width height : ℕ) → Handed Count
count_row packed width height =
    unless no_count (packed_rows packed width height) (answer (record { blocked = blocked_in packed width height }))
