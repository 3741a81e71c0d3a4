-- The bits that are 1, byte by byte, and that they are the blocked cells where no filling bit is set. Assumes nothing.
use Prim.Native.Nat.{ℕ, zero, suc, ◌+◌, ◌*◌, ◌-◌, ◌/◌, ◌%◌, ◌≤◌, ◌<◌}
use mathlib.Core.Path.{◌≡◌, refl, sym, ap, ap₂, ◌∙◌}
use mathlib.Core.Bool.{Bool, false}
use mathlib.Core.List.{List}
use native.Mathlib.Omega.{arith}
use lib.Count.{ones}
use lib.Dec.{eqb}
use lib.ListN.{length, get_or, take}
use native.Mathlib.Numerals.{add-one}
use Rattle.std.specs.List.{sum_by}
use Rattle.std.proofs.Math.Seq.{take-length}
use Rattle.std.proofs.lemmas.List.Sums.{sum_by_more}
use Rattle.laws.specs.Below.{how_many}
use Rattle.laws.proofs.Below.{many_same, many_none, many_split}
use Rattle.board.proofs.Numbers.{cell_index}
use Rattle.bits.specs.Packed.{bit_at, row_bytes, packed_bytes, column_at, cell_of, bit_of, blocked_in, first_filling}
use Rattle.bits.specs.Inner.{set_bits}
use Rattle.bits.proofs.Digits.{digit, bit_digit, ones_digits}
use Rattle.bits.proofs.Rows.{line_of, place_of, clean_bit}

-- bit x of line y, of lines that are d bytes long
bit_byte : (d x y : ℕ) → (y * (d * 8) + x) / 8 ≡ y * d + x / 8
bit_byte d x y = omega arith

bit_place : (d x y : ℕ) → (y * (d * 8) + x) % 8 ≡ x % 8
bit_place d x y = omega arith

module _ (packed : List ℕ) where
  -- bit j of all the bytes is 1
  abbrev pub is_set : ℕ → Bool
  is_set j = eqb (bit_at (get_or packed (j / 8) 0) (j % 8)) 1

  -- ---- byte by byte

  pub bytes_more : (i : ℕ) → get_or packed i 0 < 256 → how_many ((i + 1) * 8) is_set ≡ how_many (i * 8) is_set + ones (get_or packed i 0)
  bytes_more i l =
      let e : (i + 1) * 8 ≡ i * 8 + 8 = omega arith in
      ap (λ (n : ℕ). how_many n is_set) e ∙ many_split (i * 8) 8 is_set
      ∙ ap (λ (n : ℕ). how_many (i * 8) is_set + n) (byte ∙ ones_digits 8 (get_or packed i 0) l)
    where
      byte : how_many 8 (λ (p : ℕ). is_set (i * 8 + p)) ≡ how_many 8 (λ (p : ℕ). eqb (digit 8 (get_or packed i 0) p) 1)
      byte =
          many_same (λ (p : ℕ). is_set (i * 8 + p)) (λ (p : ℕ). eqb (digit 8 (get_or packed i 0) p) 1) 8 (λ (p : ℕ) (b : p < 8).
          let q : (i * 8 + p) / 8 ≡ i = omega arith in
          let r : (i * 8 + p) % 8 ≡ p = omega arith in
          rw (q, r) (ap (λ (d : ℕ). eqb d 1) (bit_digit (get_or packed i 0) p)))

  -- the ones of all bytes are the bits that are 1
  module _ (bytes : (i : ℕ) → get_or packed i 0 < 256) where
    summed : (n : ℕ) → n ≤ length packed → sum_by ones (take n packed) ≡ how_many (n * 8) is_set
    unfolding how_many
    summed zero l = refl
    summed (suc n) l =
        rw (← add-one n) (sum_by_more ones packed n 0 (omega arith) ∙ ap (λ (m : ℕ). m + ones (get_or packed n 0)) (summed n (omega arith)) ∙ sym (bytes_more n (bytes n)))

    pub bits_summed : sum_by ones packed ≡ set_bits packed
    unfolding set_bits
    bits_summed = ap (λ (l : List ℕ). sum_by ones l) (sym (take-length packed)) ∙ summed (length packed) (omega arith)

  -- ---- row by row, where the filling is clean

  module _ (w h : ℕ) (wide : 1 ≤ w) (full : length packed ≡ packed_bytes w h) (clean : length packed ≤ first_filling packed w) where
    abbrev is_blocked : ℕ → Bool
    is_blocked k = eqb (cell_of packed w k) 1

    abbrev bits : ℕ
    bits = row_bytes w * 8

    cell_set : (x y : ℕ) → x < w → is_set (y * bits + x) ≡ is_blocked (y * w + x)
    unfolding cell_of bit_of
    cell_set x y l = rw (bit_byte (row_bytes w) x y, bit_place (row_bytes w) x y, line_of w y x l, place_of w y x l)

    filling_unset : (c y : ℕ) → c < bits → w ≤ c → y < h → is_set (y * bits + c) ≡ false
    filling_unset c y l g b =
        let k : c / 8 < row_bytes w = omega arith in
        let i : y * row_bytes w + c / 8 < length packed = rw full (cell_index (row_bytes w) h (c / 8) y k b) in
        let column : column_at w (y * row_bytes w + c / 8) (c % 8) ≡ c =
        ap (λ (q : ℕ). q * 8 + c % 8) (place_of (row_bytes w) y (c / 8) k) ∙ omega arith in
        let zero_bit = clean_bit packed w wide clean (y * row_bytes w + c / 8) (c % 8) i (omega arith) (rw column g) in
        rw (bit_byte (row_bytes w) c y, bit_place (row_bytes w) c y, zero_bit)

    row_count : (y : ℕ) → y < h → how_many bits (λ (c : ℕ). is_set (y * bits + c)) ≡ how_many w (λ (x : ℕ). is_blocked (y * w + x))
    row_count y b =
        let e : bits ≡ w + (bits - w) = omega arith in
        let cells =
        many_same (λ (x : ℕ). is_set (y * bits + x)) (λ (x : ℕ). is_blocked (y * w + x)) w
        (λ (x : ℕ) (l : x < w). cell_set x y l) in
        let none =
        many_none (λ (i : ℕ). is_set (y * bits + (w + i))) (bits - w)
        (λ (i : ℕ) (l : i < bits - w). filling_unset (w + i) y (omega arith) (omega arith) b) in
        ap (λ (n : ℕ). how_many n (λ (c : ℕ). is_set (y * bits + c))) e ∙ many_split w (bits - w) (λ (c : ℕ). is_set (y * bits + c))
        ∙ omega (arith, cells, none)

    rows_count : (n : ℕ) → n ≤ h → how_many (n * bits) is_set ≡ how_many (n * w) is_blocked
    unfolding how_many
    rows_count zero l =
        let e : 0 * bits ≡ 0 = omega arith in
        let f : 0 * w ≡ 0 = omega arith in
        rw (e, f)
    rows_count (suc n) l =
        let e : suc n * bits ≡ n * bits + bits = omega arith in
        let f : suc n * w ≡ n * w + w = omega arith in
        ap (λ (m : ℕ). how_many m is_set) e ∙ many_split (n * bits) bits is_set
        ∙ ap₂ ◌+◌ (rows_count n (omega arith)) (row_count n l)
        ∙ sym (ap (λ (m : ℕ). how_many m is_blocked) f ∙ many_split (n * w) w is_blocked)

    -- the bits that are 1 are the blocked cells
    pub bits_blocked : set_bits packed ≡ blocked_in packed w h
    unfolding set_bits blocked_in
    bits_blocked =
        let e : length packed * 8 ≡ h * bits = omega (arith, full) in
        let f : w * h ≡ h * w = omega arith in
        ap (λ (m : ℕ). how_many m is_set) e ∙ rows_count h (omega arith) ∙ ap (λ (m : ℕ). how_many m is_blocked) (sym f)
