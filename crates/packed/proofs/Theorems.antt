-- What is true of the three calls together: reading and writing undo each other, and the count is that of the cells read.
-- Assumes nothing.
use Prim.Native.Nat.{ℕ, ◌*◌, ◌≤◌, ◌<◌}
use mathlib.Core.Path.{◌≡◌, refl, sym, ap, ◌∙◌}
use mathlib.Core.List.{List, ◌++◌}
use native.Mathlib.Omega.{arith}
use lib.Dec.{eqb}
use lib.ListN.{length, get_or, take, drop, get_or-append}
use lib.Seq.{take_at}
use Rattle.laws.specs.Below.{how_many}
use Rattle.laws.proofs.Below.{many_same}
use Rattle.board.specs.Board.{board}
use Rattle.board.specs.Handed.{passes, board_rows}
use Rattle.board.proofs.Rows.{rows_pass}
use Rattle.board.proofs.Verdicts.{both_pass}
use Rattle.std.specs.Prelude.{Result, Ok}
use Rattle.filling.specs.declared.PackedRefusal.{PackedRefusal}
use Rattle.packed.specs.declared.ReadRefusal.{ReadRefusal}
use Rattle.packed.specs.declared.WriteRefusal.{WriteRefusal}
use Rattle.bits.specs.Packed.{packed_bytes, cell_of, cells_of, blocked_in, byte_from, packed_of}
use Rattle.filling.specs.Filling.{packed_rows}
use Rattle.filling.proofs.Checking as checking
use Rattle.filling.proofs.Checking.{packed_known}
use Rattle.packed.specs.Answers.{read_rows, write_rows, CellsRead, said_read}
use Rattle.packed.specs.Answers.{PackedWritten, said_written, handed_count, count_row}
use Rattle.bits.proofs.Entries.{entries_length, entries_at}
use Rattle.bits.proofs.Trips.{read_written, written_clean, read_bits, written_read}
use Rattle.packed.proofs.Answering.{board_sides, board_full, board_fits, board_bits, wrote_done, wrote_all}
use Rattle.packed.proofs.Determined.{read_determined, written_determined, count_determined}

-- ---- where cells were written, and the part that was written is read into a slice that is long enough

module _ (cells : List ℕ) (w h : ℕ) (before after : List ℕ)
    (wrote : PackedWritten (board cells w h) before (said_written (Ok tt)) after) where
  accepted : board_rows (board cells w h) ≡ passes
  unfolding write_rows
  accepted = (both_pass (board_rows (board cells w h)) _ (wrote_all wrote).0).0

  -- the part that was written
  abbrev pub part : List ℕ
  part = take (packed_bytes w h) after

  part_is : part ≡ packed_of cells w h
  part_is =
      let n = entries_length (byte_from cells w) (packed_bytes w h) in
      ap (λ (l : List ℕ). take (packed_bytes w h) l) (wrote_all wrote).1
      ∙ take_at (packed_of cells w h) (drop (length (packed_of cells w h)) before) (packed_bytes w h) n

  part_passes : packed_rows (packed_of cells w h) w h ≡ passes
  part_passes =
      let n = entries_length (byte_from cells w) (packed_bytes w h) in
      let s = board_sides (board cells w h) accepted in
      let c = written_clean w h s.wide cells (board_bits (board cells w h) accepted).bit in
      checking.rows_pass (packed_of cells w h) w h (board_fits (board cells w h) accepted) n (omega (arith, c))

  -- then it is read, and the slice holds the cells that were written
  pub written_then_read : {lent left : List ℕ} {r : Result (Unit {0}) ReadRefusal} → w * h ≤ length lent → CellsRead part w h lent (said_read r) left
      → (r ≡ Ok tt) × (left ≡ cells ++ drop (w * h) lent)
  unfolding read_rows
  written_then_read {lent} {left} {r} room read =
      let s = board_sides (board cells w h) accepted in
      let back =
      read_written w h s.wide cells (board_bits (board cells w h) accepted).bit (board_full (board cells w h) accepted) in
      let full = board_full (board cells w h) accepted in
      let done : CellsRead part w h lent (said_read (Ok tt)) (cells ++ drop (w * h) lent) =
      rw (part_is, back) (wrote_done cells lent part_passes (length lent) (w * h) 19 room full refl) in
      read_determined part w h lent read done

-- ---- where packed bytes were read, and the cells are written into a slice that is long enough

module _ (packed : List ℕ) (w h : ℕ) (before after : List ℕ) (read : CellsRead packed w h before (said_read (Ok tt)) after) where
  taken : packed_rows packed w h ≡ passes
  unfolding read_rows
  taken = (both_pass (packed_rows packed w h) _ (wrote_all read).0).0

  -- the cells that were read
  abbrev pub cells_read : List ℕ
  cells_read = take (w * h) after

  read_length : length (cells_of packed w h) ≡ w * h
  read_length = entries_length (cell_of packed w) (w * h)

  cells_are : cells_read ≡ cells_of packed w h
  cells_are =
      ap (λ (l : List ℕ). take (w * h) l) (wrote_all read).1
      ∙ take_at (cells_of packed w h) (drop (length (cells_of packed w h)) before) (w * h) read_length

  cells_pass : board_rows (board (cells_of packed w h) w h) ≡ passes
  cells_pass =
      let k = packed_known packed w h taken in
      let b = read_bits w h k.sized.sides.wide packed in
      rows_pass (board (cells_of packed w h) w h) k.fits read_length (omega (arith, b))

  -- then they are written, and the slice holds the bytes that were read; a packed slice holds bytes
  pub read_then_written : ((i : ℕ) → get_or packed i 0 < 256) → {lent left : List ℕ} {r : Result (Unit {0}) WriteRefusal}
      → packed_bytes w h ≤ length lent
      → PackedWritten (board cells_read w h) lent (said_written r) left
      → (r ≡ Ok tt) × (left ≡ packed ++ drop (packed_bytes w h) lent)
  unfolding write_rows
  read_then_written bytes {lent} {left} {r} room wrote =
      let k = packed_known packed w h taken in
      let back = written_read w h k.sized.sides.wide packed k.sized.full k.clean bytes in
      let done : PackedWritten (board cells_read w h) lent (said_written (Ok tt)) (packed ++ drop (packed_bytes w h) lent) =
      rw (cells_are, back) (wrote_done packed lent cells_pass (length lent) (packed_bytes w h) 21 room k.sized.full refl) in
      written_determined (board cells_read w h) lent wrote done

  -- and the count is the number of cell bytes that are 1
  pub read_then_counted : {r : Result ℕ PackedRefusal} → handed_count r ≡ count_row packed w h
      → r ≡ Ok (how_many (w * h) (λ (k : ℕ). eqb (get_or after k 0) 1))
  unfolding count_row blocked_in
  read_then_counted {r} counted =
      count_determined packed w h counted (rw taken (ap (λ (n : ℕ). handed_count (Ok n)) (sym same)))
    where
      cell : (k : ℕ) → k < w * h → get_or after k 0 ≡ cell_of packed w k
      cell k l =
          ap (λ (a : List ℕ). get_or a k 0) (wrote_all read).1
          ∙ get_or-append (cells_of packed w h) (drop (length (cells_of packed w h)) before) 0 k (omega (arith, read_length))
          ∙ entries_at (cell_of packed w) (w * h) k l

      same : how_many (w * h) (λ (k : ℕ). eqb (cell_of packed w k) 1) ≡ how_many (w * h) (λ (k : ℕ). eqb (get_or after k 0) 1)
      same =
          many_same (λ (k : ℕ). eqb (cell_of packed w k) 1) (λ (k : ℕ). eqb (get_or after k 0) 1) (w * h) (λ (k : ℕ) (l : k < w * h).
          ap (λ (c : ℕ). eqb c 1) (sym (cell k l)))
