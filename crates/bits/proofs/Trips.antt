-- Reading and writing undo each other, for any width and height. Assumes nothing.
use Prim.Native.Nat.{ℕ, ◌+◌, ◌*◌, ◌/◌, ◌%◌, ◌≤◌, ◌<◌}
use mathlib.Core.Path.{◌≡◌, refl, sym, ap, ap₂, ◌∙◌}
use mathlib.Core.Logic.{⊎_elim}
use mathlib.Core.Bool.{false, ◌&&◌}
use mathlib.Core.List.{List}
use native.Mathlib.Nat.{div-add-mod', mod-lt}
use native.Mathlib.Omega.{arith}
use lib.Dec.{leb, eqb}
use lib.ListN.{length, get_or}
use borrow.Author.Tests.{lt-ltb, le-ltb, lt-leb}
use Rattle.laws.proofs.Tests.{order, and_false}
use Rattle.laws.proofs.Below.{none_below, some_none}
use Rattle.board.specs.Handed.{first_bad}
use Rattle.board.proofs.Bytes.{all_bits}
use Rattle.board.proofs.Numbers.{cell_index}
use Rattle.bits.specs.Packed.{bit_at, joined, row_bytes, packed_bytes, byte_of, column_at, row_at, bit_of}
use Rattle.bits.specs.Packed.{cell_of, cells_of, has_filling, first_filling, bit_from, byte_from, packed_of}
use Rattle.bits.proofs.Digits.{digit, bit_digit, bit_le, joined_same, joined_digits, digit_joined}
use Rattle.bits.proofs.Entries.{entries_length, entries_at, entries_all}
use Rattle.bits.proofs.Rows.{line_of, place_of, line_below, byte_below, clean_bit}

-- ---- the bit for a column

module _ (cells : List ℕ) (w : ℕ) where
  pub bit_on : (x y : ℕ) → x < w → bit_from cells w x y ≡ get_or cells (y * w + x) 0
  unfolding bit_from
  bit_on x y l = rw (lt-ltb x w l)

  pub bit_past : (x y : ℕ) → w ≤ x → bit_from cells w x y ≡ 0
  unfolding bit_from
  bit_past x y l = rw (le-ltb x w l)

  pub bit_from_le : ((k : ℕ) → get_or cells k 0 ≤ 1) → (x y : ℕ) → bit_from cells w x y ≤ 1
  bit_from_le bits x y =
      ⊎_elim (λ (l : x < w). omega (arith, bit_on x y l, bits (y * w + x))) (λ (l : w ≤ x). omega (arith, bit_past x y l))
      (order x w)

pub cell_is : (packed : List ℕ) (w k : ℕ) → bit_of packed w (k % w) (k / w) ≡ cell_of packed w k
unfolding cell_of
cell_is packed w k = refl

pub byte_is : (cells : List ℕ) (w i : ℕ) {d : ℕ} → d ≡ row_bytes w
    → joined 8 (λ (place : ℕ). bit_from cells w (i % d * 8 + place) (i / d)) ≡ byte_from cells w i
unfolding byte_from
byte_is cells w i e = rw e

module _ (w h : ℕ) (wide : 1 ≤ w) where
  -- ---- cells that are written, and read again

  module _ (cells : List ℕ) (bits : (k : ℕ) → get_or cells k 0 ≤ 1) where
    abbrev packed_up : List ℕ
    packed_up = packed_of cells w h

    -- a bit of a written byte is the bit for its column
    written_bit : (i p : ℕ) → i < packed_bytes w h → p < 8
        → bit_at (get_or packed_up i 0) p ≡ bit_from cells w (column_at w i p) (row_at w i)
    unfolding byte_from
    written_bit i p l b =
        let f : ℕ → ℕ = λ q. bit_from cells w (column_at w i q) (row_at w i) in
        ap (λ (a : ℕ). bit_at a p) (entries_at (byte_from cells w) (packed_bytes w h) i l) ∙ bit_digit (joined 8 f) p
        ∙ digit_joined f (λ q. bit_from_le cells w bits (column_at w i q) (row_at w i)) 8 p b

    written_cell : (x y : ℕ) → x < w → y < h → bit_of packed_up w x y ≡ get_or cells (y * w + x) 0
    unfolding bit_of
    written_cell x y lx ly =
        let k : x / 8 < row_bytes w = omega arith in
        let column : column_at w (byte_of w x y) (x % 8) ≡ x =
        ap (λ (q : ℕ). q * 8 + x % 8) (place_of (row_bytes w) y (x / 8) k) ∙ omega arith in
        written_bit (byte_of w x y) (x % 8) (byte_below w h x y lx ly) (omega arith)
        ∙ ap₂ (λ (c r : ℕ). bit_from cells w c r) column (line_of (row_bytes w) y (x / 8) k) ∙ bit_on cells w x y lx

    pub read_written : length cells ≡ w * h → cells_of packed_up w h ≡ cells
    read_written full =
        entries_all (cell_of packed_up w) cells (w * h) full (λ (k : ℕ) (l : k < w * h).
        sym (cell_is packed_up w k) ∙ written_cell (k % w) (k / w) (mod-lt k wide) (line_below w h k wide l)
        ∙ ap (λ (i : ℕ). get_or cells i 0) (div-add-mod' k w))

    -- and what is written has zero bits in its filling
    pub written_clean : first_filling packed_up w ≡ length packed_up
    unfolding first_filling has_filling
    written_clean =
        none_below (has_filling packed_up w) (length packed_up) (λ (i : ℕ) (l : i < length packed_up).
        some_none (λ (p : ℕ). leb w (column_at w i p) && eqb (bit_at (get_or packed_up i 0) p) 1) 8
        (clear i (omega (arith, entries_length (byte_from cells w) (packed_bytes w h)))))
      where
        clear : (i : ℕ) → i < packed_bytes w h → (p : ℕ) → p < 8
            → (leb w (column_at w i p) && eqb (bit_at (get_or packed_up i 0) p) 1) ≡ false
        clear i l p b =
            ⊎_elim (λ (g : column_at w i p < w). rw (lt-leb w (column_at w i p) g))
            (λ (g : w ≤ column_at w i p).
            and_false (leb w (column_at w i p)) (rw (written_bit i p l b ∙ bit_past cells w (column_at w i p) (row_at w i) g)))
            (order (column_at w i p) w)

  -- ---- packed bytes that are read, and written again

  module _ (packed : List ℕ) where
    pub read_bits : first_bad (cells_of packed w h) ≡ length (cells_of packed w h)
    unfolding cell_of bit_of
    read_bits =
        all_bits (cells_of packed w h) (λ (k : ℕ) (l : k < length (cells_of packed w h)).
        rw (entries_at (cell_of packed w) (w * h) k (omega (arith, entries_length (cell_of packed w) (w * h))))
        (bit_le (get_or packed (byte_of w (k % w) (k / w)) 0) (k % w % 8)))

    read_cell : (x y : ℕ) → x < w → y < h → get_or (cells_of packed w h) (y * w + x) 0 ≡ bit_of packed w x y
    read_cell x y lx ly =
        entries_at (cell_of packed w) (w * h) (y * w + x) (cell_index w h x y lx ly) ∙ sym (cell_is packed w (y * w + x))
        ∙ ap₂ (λ (a b : ℕ). bit_of packed w a b) (place_of w y x lx) (line_of w y x lx)

    module _ (full : length packed ≡ packed_bytes w h) (clean : length packed ≤ first_filling packed w) where
      -- the bit for a column of a byte is the bit that was read there
      read_bit : (i p : ℕ) → i < packed_bytes w h → p < 8
          → bit_from (cells_of packed w h) w (column_at w i p) (row_at w i) ≡ digit 8 (get_or packed i 0) p
      unfolding bit_of
      read_bit i p l b =
          let row : ℕ = row_bytes w in
          let some : 0 < row = omega arith in
          let k : i / row < h = line_below row h i some l in
          let byte : (i % row * 8 + p) / 8 ≡ i % row = omega arith in
          let place : (i % row * 8 + p) % 8 ≡ p = omega arith in
          let back : i / row * row + (i % row * 8 + p) / 8 ≡ i = rw byte (div-add-mod' i row) in
          ⊎_elim
          (λ (g : column_at w i p < w).
          bit_on (cells_of packed w h) w (column_at w i p) (row_at w i) g ∙ read_cell (column_at w i p) (row_at w i) g k
          ∙ ap₂ (λ (j q : ℕ). bit_at (get_or packed j 0) q) back place ∙ bit_digit (get_or packed i 0) p)
          (λ (g : w ≤ column_at w i p).
          bit_past (cells_of packed w h) w (column_at w i p) (row_at w i) g ∙ sym (clean_bit packed w wide clean i p (rw full l) b g)
          ∙ bit_digit (get_or packed i 0) p)
          (order (column_at w i p) w)

      pub written_read : ((i : ℕ) → get_or packed i 0 < 256) → packed_of (cells_of packed w h) w h ≡ packed
      unfolding byte_from
      written_read bytes =
          entries_all (byte_from (cells_of packed w h) w) packed (packed_bytes w h) full (λ (i : ℕ) (l : i < packed_bytes w h).
          joined_same 8 (λ (p : ℕ). bit_from (cells_of packed w h) w (column_at w i p) (row_at w i)) (digit 8 (get_or packed i 0))
          (λ (p : ℕ) (b : p < 8). read_bit i p l b)
          ∙ joined_digits 8 (get_or packed i 0) (bytes i))
