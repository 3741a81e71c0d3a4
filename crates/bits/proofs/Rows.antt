-- The row rule over any width: where the bits of a row lie, and which of them are filling. Assumes nothing.
use Prim.Native.Nat.{ℕ, ◌+◌, ◌*◌, ◌-◌, ◌/◌, ◌%◌, ◌^◌, ◌≤◌, ◌<◌}
use mathlib.Core.Path.{◌≡◌, sym, ap, ◌∙◌}
use mathlib.Core.Logic.{⊎_elim}
use mathlib.Core.Bool.{Bool, true, false, ◌&&◌}
use mathlib.Core.List.{List}
use native.Mathlib.Nat.{mul-le-mul, mul-le-mul_right, mul-add-mod_self_right, mod-eq_of_lt, div-eq_of_lt-le, div-lt_iff_lt-mul}
use native.Mathlib.Omega.{arith}
use lib.Dec.{leb, eqb}
use lib.ListN.{length, get_or}
use lib.Pow.{shl_exact}
use borrow.Author.Tests.{ltb-false, le-leb, lt-leb, eqb-false}
use Rattle.laws.specs.Below.{some, first_where}
use Rattle.laws.proofs.Tests.{order, bool_cases, and_false}
use Rattle.laws.proofs.Below.{none_yet, none_below, first_here, first_before, some_none, some_first}
use Rattle.board.specs.Limits.{largest_side}
use Rattle.board.proofs.Numbers.{cell_index}
use Rattle.bits.specs.Packed.{bit_at, row_bytes, packed_bytes, byte_of, column_at, has_filling, first_filling}
use Rattle.bits.specs.Inner.{Sides}
use Rattle.bits.proofs.Digits.{bit_le, low_zero, low_clear}

-- ---- place k of line y, of lines that are d long

module _ (d y k : ℕ) (l : k < d) where
  pub line_of : (y * d + k) / d ≡ y
  line_of = div-eq_of_lt-le d (omega arith) (omega arith)

  pub place_of : (y * d + k) % d ≡ k
  place_of = mul-add-mod_self_right y d k ∙ mod-eq_of_lt l

pub line_below : (d n i : ℕ) → 0 < d → i < d * n → i / d < n
line_below d n i p l = (div-lt_iff_lt-mul p).1 (omega arith)

-- the byte of a cell is one of the board's, and so are all bytes of a row
pub byte_below : (w h x y : ℕ) → x < w → y < h → byte_of w x y < packed_bytes w h
byte_below w h x y lx ly = cell_index (row_bytes w) h (x / 8) y (omega arith) ly

pub row_room : (w h end : ℕ) {d : ℕ} → d ≡ row_bytes w → end ≤ h → end * d ≤ packed_bytes w h
row_room w h end e l = rw e (omega (arith, mul-le-mul_right (row_bytes w) l))

-- the row of cells that byte i is made of is one of the board's
pub line_room_lem : (w h : ℕ) → 1 ≤ w → {d : ℕ} → d ≡ row_bytes w → (i : ℕ) → i < packed_bytes w h → {n : ℕ} → n ≡ w * h
    → i / d * w + w ≤ n
line_room_lem w h wide {d} e i l {n} f =
    let below : i / row_bytes w < h = line_below (row_bytes w) h i (omega arith) l in
    rw (e, f) (omega (arith, mul-le-mul_right w below))

-- no side that fits makes a product too large
pub cells_few : (w h : ℕ) → Sides w h → w * h ≤ largest_side * largest_side
cells_few w h s = mul-le-mul s.narrow s.low

pub bytes_few : (w h : ℕ) {d : ℕ} → d ≡ row_bytes w → Sides w h → d * h ≤ largest_side * largest_side
bytes_few w h e s = let l : row_bytes w ≤ largest_side = omega (arith, s.narrow) in rw e (mul-le-mul l s.low)

-- 1 moved up by f places, in a byte
pub power : (f : ℕ) → f < 8 → 1 * 2 ^ f % 256 ≡ 2 ^ f
power f l = shl_exact {a = 1} 1 f 8 (omega arith) (omega arith) ∙ omega arith

-- ---- tests of which none passes

none_at : (t : ℕ → Bool) (n : ℕ) → some n t ≡ false → (i : ℕ) → i < n → t i ≡ false
none_at t n e i l = first_before t n i (omega (arith, ltb-false (first_where n t) n (sym (some_first t n) ∙ e)))

-- ---- the filling of a row

module _ (packed : List ℕ) (w : ℕ) (wide : 1 ≤ w) where
  abbrev filled : ℕ → Bool
  filled i = has_filling packed w i

  column : (y k p : ℕ) → k < row_bytes w → column_at w (y * row_bytes w + k) p ≡ k * 8 + p
  column y k p l = ap (λ (c : ℕ). c * 8 + p) (place_of (row_bytes w) y k l)

  -- a byte before the last of its row has none
  inner_clean : (y k : ℕ) → k + 1 < row_bytes w → filled (y * row_bytes w + k) ≡ false
  unfolding has_filling
  inner_clean y k l =
      some_none _ 8 (λ (p : ℕ) (b : p < 8).
      rw (column y k p (omega arith), lt-leb w (k * 8 + p) (omega arith)))

  -- the last byte of a row has some exactly if its low bits are not all 0
  module _ (y : ℕ) where
    abbrev last : ℕ
    last = y * row_bytes w + (row_bytes w - 1)

    abbrev fill : ℕ
    fill = row_bytes w * 8 - w

    column_last : (p : ℕ) → column_at w last p ≡ (row_bytes w - 1) * 8 + p
    column_last p = column y (row_bytes w - 1) p (omega arith)

    pub last_clean : get_or packed last 0 % 2 ^ fill ≡ 0 → filled last ≡ false
    unfolding has_filling bit_at
    last_clean e = some_none _ 8 none
      where
        none : (p : ℕ) → p < 8 → (leb w (column_at w last p) && eqb (bit_at (get_or packed last 0) p) 1) ≡ false
        none p b =
            ⊎_elim
            (λ (g : (row_bytes w - 1) * 8 + p < w). rw (column_last p, lt-leb w ((row_bytes w - 1) * 8 + p) g))
            (λ (g : w ≤ (row_bytes w - 1) * 8 + p).
            and_false (leb w (column_at w last p)) (rw (low_zero fill (get_or packed last 0) e (7 - p) (omega arith))))
            (order ((row_bytes w - 1) * 8 + p) w)

    pub last_set : (get_or packed last 0 % 2 ^ fill ≡ 0 → ⊥) → filled last ≡ true
    unfolding has_filling bit_at
    last_set n =
        ⊎_elim (λ (e : filled last ≡ true). e)
        (λ (e : filled last ≡ false). absurd (n (low_clear fill (get_or packed last 0) (zeros e))))
        (bool_cases (filled last))
      where
        zeros : filled last ≡ false → (m : ℕ) → m < fill → get_or packed last 0 / 2 ^ m % 2 ≡ 0
        zeros e m l =
            let back : 7 - (7 - m) ≡ m = omega arith in
            let h =
            none_at (λ (p : ℕ). leb w (column_at w last p) && eqb (bit_at (get_or packed last 0) p) 1) 8 e (7 - m) (omega arith) in
            let h' =
            eqb-false (get_or packed last 0 / 2 ^ m % 2) 1
            (rw (column_last (7 - m), le-leb w ((row_bytes w - 1) * 8 + (7 - m)) (omega arith), back) at h) in
            omega arith

  -- ---- "no byte before row y has filling" begins, goes on, and is left

  row_part : (y n : ℕ) → first_where (y * row_bytes w) filled ≡ y * row_bytes w
      → ((k : ℕ) → k < n → filled (y * row_bytes w + k) ≡ false)
      → first_where (y * row_bytes w + n) filled ≡ y * row_bytes w + n
  row_part y n e f =
      none_below filled (y * row_bytes w + n) (λ (i : ℕ) (l : i < y * row_bytes w + n).
      ⊎_elim
      (λ (b : i < y * row_bytes w). first_before filled (y * row_bytes w) i (omega arith))
      (λ (b : y * row_bytes w ≤ i).
      let s : y * row_bytes w + (i - y * row_bytes w) ≡ i = omega arith in
      rw s at (f (i - y * row_bytes w) (omega arith)))
      (order i (y * row_bytes w)))

  pub before_last : (y : ℕ) → first_where (y * row_bytes w) filled ≡ y * row_bytes w → first_where (last y) filled ≡ last y
  before_last y e = row_part y (row_bytes w - 1) e (λ (k : ℕ) (l : k < row_bytes w - 1). inner_clean y k (omega arith))

  -- ---- the code's row d, which ends before row number end, and the byte that it looks at

  module _ {d end : ℕ} (e : d ≡ row_bytes w) (y : ℕ) (s : end ≡ y + 1)
      (before : first_where (y * row_bytes w) filled ≡ y * row_bytes w) where
    abbrev low : ℕ
    low = get_or packed (end * d - 1) 0 % (1 * 2 ^ (d * 8 - w) % 256)

    last_is : (y + 1) * row_bytes w - 1 ≡ last y
    last_is = omega arith

    low_is : low ≡ get_or packed (last y) 0 % 2 ^ fill y
    low_is = rw (e, s, last_is, power (fill y) (omega arith))

    pub filling_found : end * d ≤ length packed → (low ≡ 0 → ⊥) → end * d - 1 ≡ first_filling packed w
    unfolding first_filling
    filling_found room n =
        let set = last_set y (λ z. n (low_is ∙ z)) in
        let room' : (y + 1) * row_bytes w ≤ length packed = rw (e, s) at room in
        rw (e, s, last_is) (sym (first_here filled (last y) (before_last y before) set (length packed) (omega arith)))

    pub filling_passed : low ≡ 0 → first_where (end * row_bytes w) filled ≡ end * row_bytes w
    filling_passed z =
        let more : (y + 1) * row_bytes w ≡ y * row_bytes w + row_bytes w = omega arith in
        rw (s, more) (row_part y (row_bytes w) before each)
      where
        each : (k : ℕ) → k < row_bytes w → filled (y * row_bytes w + k) ≡ false
        each k l =
            ⊎_elim (λ (b : k + 1 < row_bytes w). inner_clean y k b)
            (λ (b : row_bytes w ≤ k + 1).
            let k-is : k ≡ row_bytes w - 1 = omega arith in
            rw k-is (last_clean y (sym low_is ∙ z)))
            (order (k + 1) (row_bytes w))

  pub filling_begins : first_where (0 * row_bytes w) filled ≡ 0 * row_bytes w
  filling_begins = let z : 0 * row_bytes w ≡ 0 = omega arith in rw z (none_yet filled)

  pub filling_none : (h : ℕ) → length packed ≡ packed_bytes w h → first_where (h * row_bytes w) filled ≡ h * row_bytes w
      → length packed ≡ first_filling packed w
  unfolding first_filling
  filling_none h full e = let s : length packed ≡ h * row_bytes w = omega arith in rw s (sym e)

  -- ---- a board whose rows are all filled up with zero bits

  pub clean_bit : length packed ≤ first_filling packed w → (i p : ℕ) → i < length packed → p < 8 → w ≤ column_at w i p
      → bit_at (get_or packed i 0) p ≡ 0
  unfolding first_filling has_filling
  clean_bit e i p l b g =
      let h =
      none_at (λ (q : ℕ). leb w (column_at w i q) && eqb (bit_at (get_or packed i 0) q) 1) 8
      (first_before filled (length packed) i (omega arith)) p b in
      let h' = eqb-false (bit_at (get_or packed i 0) p) 1 (rw (le-leb w (column_at w i p) g) at h) in
      omega (arith, bit_le (get_or packed i 0) p)
