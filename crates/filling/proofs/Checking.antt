-- Which row packed bytes get, and what accepted ones are known to be. Assumes nothing.
use Prim.Native.Nat.{ℕ, ◌≤◌, ◌<◌}
use mathlib.Core.Path.{◌≡◌}
use mathlib.Core.Bool.{Bool, true, false, not, ◌&&◌}
use mathlib.Core.List.{List}
use native.Mathlib.Omega.{arith}
use lib.Dec.{ltb, eqb}
use lib.ListN.{length}
use borrow.Author.Tests.{not-false, ltb-false, eqb-true, lt-ltb, le-ltb, eq-eqb, ne_eqb}
use Rattle.laws.proofs.Tests.{and_left, and_right, and_false}
use Rattle.board.specs.Handed.{passes, refused, row, and_then, side_fits, side_row}
use Rattle.board.proofs.Verdicts.{no_pass, row_passes, both_pass}
use Rattle.board.proofs.Rows.{side_least, side_le}
use Rattle.bits.specs.Packed.{packed_bytes, first_filling}
use Rattle.bits.specs.Inner.{Sides, Sized}
use Rattle.filling.specs.declared.PackedRefusal.{PackedRefusal}
use Rattle.filling.specs.declared.PackedRefusal.TheVariants.{Side, Length, Filling}
use Rattle.std.specs.Prelude.{Some, None}
use Rattle.filling.specs.Filling.{filling_place, packed_rows, packed_row}

-- ---- the rows 1, 29 and 30, case by case

module _ (packed : List ℕ) (w h : ℕ) where
  pub rows_width : side_fits w ≡ false → packed_rows packed w h ≡ refused 1 0 0
  unfolding packed_rows
  rows_width e = rw e

  pub rows_height : side_fits h ≡ false → packed_rows packed w h ≡ refused 1 0 0
  unfolding packed_rows
  rows_height e = rw (and_false (side_fits w) e)

  -- both sides fit
  module _ (s : (side_fits w && side_fits h) ≡ true) where
    pub rows_length : (length packed ≡ packed_bytes w h → ⊥) → packed_rows packed w h ≡ refused 29 0 0
    unfolding packed_rows
    rows_length e = rw (s, ne_eqb (length packed) (packed_bytes w h) e)

    pub rows_filling : length packed ≡ packed_bytes w h → first_filling packed w < length packed
        → packed_rows packed w h ≡ refused 30 (first_filling packed w) 0
    unfolding packed_rows
    rows_filling f l = rw (s, eq-eqb (length packed) (packed_bytes w h) f, lt-ltb (first_filling packed w) (length packed) l)

    pub rows_pass : length packed ≡ packed_bytes w h → length packed ≤ first_filling packed w → packed_rows packed w h ≡ passes
    unfolding packed_rows
    rows_pass f l = rw (s, eq-eqb (length packed) (packed_bytes w h) f, le-ltb (first_filling packed w) (length packed) l)

  -- ---- the place of a filling bit

  pub some_place : {at : ℕ} → at ≡ first_filling packed w → at < length packed → Some at ≡ filling_place packed w
  some_place {at} e l = rw (← e, lt-ltb at (length packed) l)

  pub none_place : length packed ≡ first_filling packed w → None ≡ filling_place packed w
  none_place e = rw (← e, le-ltb (length packed) (length packed) (omega arith))

-- ---- what accepted bytes are known to be

pub sides_known : (w h : ℕ) → side_fits w ≡ true → side_fits h ≡ true → Sides w h
sides_known w h p q = record { wide = side_least w p; narrow = side_le w p; low = side_le h q }

pub record Known (packed : List ℕ) (w h : ℕ) : Type 0 where
  pub fits : (side_fits w && side_fits h) ≡ true
  pub sized : Sized packed w h
  pub clean : length packed ≤ first_filling packed w

pub packed_known : (packed : List ℕ) (w h : ℕ) → packed_rows packed w h ≡ passes → Known packed w h
unfolding packed_rows
packed_known packed w h e =
    let wrong : Bool = not (eqb (length packed) (packed_bytes w h)) in
    let filling : Bool = ltb (first_filling packed w) (length packed) in
    let t = both_pass (side_row w h) (and_then (row wrong 29 0) (row filling 30 (first_filling packed w))) e in
    let u = both_pass (row wrong 29 0) (row filling 30 (first_filling packed w)) t.1 in
    let s = not-false _ (row_passes (not (side_fits w && side_fits h)) 1 0 t.0) in
    record {
      fits = s;
      sized = record {
        sides = sides_known w h (and_left (side_fits w) (side_fits h) s) (and_right (side_fits w) (side_fits h) s);
        full = eqb-true (length packed) (packed_bytes w h) (not-false _ (row_passes wrong 29 0 u.0));
      };
      clean = ltb-false (first_filling packed w) (length packed) (row_passes filling 30 (first_filling packed w) u.1);
    }

-- ---- no refusal passes

pub packed_refuses : (why : PackedRefusal) → packed_row why ≡ passes → ⊥
packed_refuses Side e = no_pass e
packed_refuses Length e = no_pass e
packed_refuses (Filling at) e = no_pass e
