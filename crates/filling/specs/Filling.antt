-- Which packed bytes are refused, in the table's numbers.
use Rattle.std.specs.Prelude.{ℕ, not, cond, List, ltb, eqb, length, Option, Some, None}
use Rattle.board.specs.Handed.{Verdict, refused, row, and_then, side_row}
use Rattle.bits.specs.Packed.{packed_bytes, first_filling}
use Rattle.filling.specs.declared.PackedRefusal.{PackedRefusal}
use Rattle.filling.specs.declared.PackedRefusal.TheVariants.{Side, Length, Filling}

-- 1, then 29: wrong packed length, then 30: a filling bit set, with the byte's index
unfoldable pub packed_rows : List ℕ → (width height : ℕ) → Verdict
packed_rows packed width height =
    and_then (side_row width height)
    (and_then (row (not (eqb (length packed) (packed_bytes width height))) 29 0)
    (row (ltb (first_filling packed width) (length packed)) 30 (first_filling packed width)))

-- the row of each refusal of the code
abbrev pub packed_row : PackedRefusal → Verdict
packed_row Side = refused 1 0 0
packed_row Length = refused 29 0 0
packed_row (Filling at) = refused 30 at 0

-- the place of the first byte that has a filling bit set, if there is one
abbrev pub filling_place : List ℕ → (width : ℕ) → Option ℕ
filling_place packed width = cond (ltb (first_filling packed width) (length packed)) (Some (first_filling packed width)) None
