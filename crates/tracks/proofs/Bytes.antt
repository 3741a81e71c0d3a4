-- A file as its records' bytes: eight at a time, and what those of a record that passes are. Assumes nothing.
use Prim.Native.Nat.{ℕ, zero, suc, ◌+◌, ◌*◌, ◌/◌, ◌%◌, ◌≤◌, ◌<◌}
use mathlib.Core.Path.{◌≡◌, refl, sym, ap, ◌∙◌}
use mathlib.Core.Bool.{true, false, not}
use mathlib.Core.List.{List, [], ◌∷◌, ◌++◌}
use native.Mathlib.Nat.{mul-add-mod_self_right, mod-eq_of_lt, div-eq_of_lt-le}
use native.Mathlib.Omega.{arith}
use lib.Dec.{ltb}
use lib.ListN.{length, get_or, drop, length-append}
use lib.Seq.{drop-cons, get_or-append-add}
use borrow.Author.Tests.{not-false, ltb-false, eqb-true}
use Rattle.laws.proofs.Below.{first_before}
use Rattle.records.specs.Records.{record_bytes, records, byte, is_in, is_stray_byte, stray_byte}
use Rattle.tracks.specs.Tracks.{point_record, none_record, is_point, net_of, place_of, point_of}
use Rattle.tracks.specs.Faults.{used_by}
use Rattle.tracks.proofs.Before.{Clean, none_is}

-- ---- entries of a list, one after the other

abbrev part : List ℕ → (at k n : ℕ) → List ℕ
part l at k zero = []
part l at k (suc n) = get_or l (at + k) 0 ∷ part l at (suc k) n

part_drop : (l : List ℕ) (at n k : ℕ) → at + k + n ≤ length l → drop (at + k) l ≡ part l at k n ++ drop (at + (k + n)) l
part_drop l at zero k h = let e : at + (k + 0) ≡ at + k = omega arith in rw e
part_drop l at (suc n) k h =
    let e : suc (at + k) ≡ at + suc k = omega arith in
    let f : at + (k + suc n) ≡ at + (suc k + n) = omega arith in
    drop-cons l (at + k) 0 (omega arith) ∙ rw (e, f) (ap (λ (r : List ℕ). get_or l (at + k) 0 ∷ r) (part_drop l at n (suc k) (omega arith)))

-- the bytes of record i
abbrev pub bytes_of : List ℕ → ℕ → List ℕ
bytes_of file i =
    byte file i 0 ∷ byte file i 1 ∷ byte file i 2 ∷ byte file i 3 ∷ byte file i 4 ∷ byte file i 5 ∷ byte file i 6 ∷ byte file i 7 ∷ []

pub record_drop : (file : List ℕ) (i : ℕ) → i < records file → drop (i * 8) file ≡ bytes_of file i ++ drop (suc i * 8) file
unfolding byte
record_drop file i l =
    let e : i * 8 ≡ i * 8 + 0 = omega arith in
    let f : suc i * 8 ≡ i * 8 + 8 = omega arith in
    ap (λ (n : ℕ). drop n file) e ∙ part_drop file (i * 8) 8 0 (omega arith) ∙ rw f

-- ---- a record that passes

-- an unused byte of a record without stray bytes is 0
unused : (file used : List ℕ) (i k : ℕ) → ltb (stray_byte file used i) record_bytes ≡ false → k < record_bytes → is_in k used ≡ false → byte file i k ≡ 0
unused file used i k t l u =
    let stray = first_before (is_stray_byte file used i) record_bytes k (omega (arith, ltb-false (stray_byte file used i) record_bytes t)) in
    eqb-true (byte file i k) 0 (not-false _ (rw u at stray))

-- a place is told back from its two bytes, low byte first
low_byte : (a b : ℕ) → a < 256 → (a + b * 256) % 256 ≡ a
low_byte a b l =
    let e : a + b * 256 ≡ b * 256 + a = omega arith in
    rw e (mul-add-mod_self_right b 256 a ∙ mod-eq_of_lt l)

high_part : (a b : ℕ) → a < 256 → (a + b * 256) / 256 ≡ b
high_part a b l = div-eq_of_lt-le 256 (omega arith) (omega arith)

high_byte : (a b : ℕ) → a < 256 → b < 256 → (a + b * 256) / 256 % 256 ≡ b
high_byte a b l h = rw (high_part a b l) (mod-eq_of_lt h)

-- eight bytes, some of them known to be others
listed : {a b c d e f g h a' c' d' g' h' : ℕ} → a ≡ a' → c ≡ c' → d ≡ d' → g ≡ g' → h ≡ h'
    → ◌≡◌ {A = List ℕ} (a ∷ b ∷ c ∷ d ∷ e ∷ f ∷ g ∷ h ∷ []) (a' ∷ b ∷ c' ∷ d' ∷ e ∷ f ∷ g' ∷ h' ∷ [])
listed p q r s t = rw (p, q, r, s, t)

module _ (file : List ℕ) (i : ℕ) (c : Clean file i) where
  pub point_bytes : ((k : ℕ) → get_or file k 0 < 256) → is_point file i ≡ true → bytes_of file i ≡ point_record (net_of file i) (place_of file i) (point_of file i)
  unfolding place_of used_by byte
  point_bytes bytes p =
      let t : byte file i 0 ≡ 4 = eqb-true (byte file i 0) 4 p in
      let tidy = rw t at c.tidy in
      let six : byte file i 6 ≡ 0 = unused file (used_by 4) i 6 tidy (omega arith) refl in
      let seven : byte file i 7 ≡ 0 = unused file (used_by 4) i 7 tidy (omega arith) refl in
      let low = bytes (i * 8 + 2) in
      let high = bytes (i * 8 + 3) in
      let two : byte file i 2 ≡ place_of file i % 256 = sym (low_byte (byte file i 2) (byte file i 3) low) in
      let three : byte file i 3 ≡ place_of file i / 256 % 256 = sym (high_byte (byte file i 2) (byte file i 3) low high) in
      listed t two three six seven

  pub none_bytes : is_point file i ≡ false → bytes_of file i ≡ none_record (net_of file i)
  unfolding used_by
  none_bytes p =
      let t : byte file i 0 ≡ 5 = eqb-true (byte file i 0) 5 (none_is file i c.known ∙ ap not p) in
      let tidy = rw t at c.tidy in
      let zero_at : (k : ℕ) → k < record_bytes → is_in k (used_by 5) ≡ false → byte file i k ≡ 0 = λ k l u. unused file (used_by 5) i k tidy l u in
      rw (
        t,
        zero_at 2 (omega arith) refl,
        zero_at 3 (omega arith) refl,
        zero_at 4 (omega arith) refl,
        zero_at 5 (omega arith) refl,
        zero_at 6 (omega arith) refl,
        zero_at 7 (omega arith) refl,
      )

-- ---- records before others

module _ (r : List ℕ) (eight : length r ≡ 8) (rest : List ℕ) where
  pub byte_shift : (i k : ℕ) → byte (r ++ rest) (suc i) k ≡ byte rest i k
  unfolding byte
  byte_shift i k =
      let e : suc i * 8 + k ≡ length r + (i * 8 + k) = omega arith in
      ap (λ (n : ℕ). get_or (r ++ rest) n 0) e ∙ get_or-append-add r rest (i * 8 + k) 0

  pub records_shift : records (r ++ rest) ≡ suc (records rest)
  records_shift = omega (arith, length-append r rest)
