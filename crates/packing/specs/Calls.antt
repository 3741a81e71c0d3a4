-- The calls for packed boards as C has them: what it gets, and what the lent slice holds before and after.
use Rattle.std.specs.Prelude.{ℕ, ◌≡◌, List, length}
use Rattle.board.specs.Board.{Board}
use Rattle.board.specs.Handed.{Verdict}
use Rattle.bits.specs.Packed.{cells_of, packed_of}
use Rattle.packed.specs.Answers.{slice_after, read_rows, write_rows}
use Rattle.packing.specs.declared.Packing.{Packing}
use Rattle.packing.specs.Packing.{told_rows}

-- a call that writes a lent slice: what C gets, and what the slice holds before and after it
pub record WroteForC (rows : Verdict) (written before : List ℕ) (r : Packing) (after : List ℕ) : Type 0 where
  pub told : r ≡ told_rows rows
  pub after_is : after ≡ slice_after rows written before

abbrev pub UnpackedForC : (packed : List ℕ) (width height : ℕ) (before : List ℕ) (r : Packing) (after : List ℕ) → Type 0
UnpackedForC packed width height before =
    WroteForC (read_rows packed width height (length before)) (cells_of packed width height) before

abbrev pub PackedForC : (b : Board) (before : List ℕ) (r : Packing) (after : List ℕ) → Type 0
PackedForC b before = WroteForC (write_rows b (length before)) (packed_of b.cells b.width b.height) before
