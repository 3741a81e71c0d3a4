-- The first bad byte of a board's cells, from a place on, and whether there is one. Assumes nothing.
use mathlib.Core.Path.{◌≡◌, refl, sym, ◌∙◌}
use mathlib.Core.Logic.{⊎_elim}
use mathlib.Core.Bool.{Bool, true, false, ◌||◌, cond}
use mathlib.Core.List.{List, [], ◌∷◌}
use Prim.Native.Nat.{ℕ, zero, suc, ◌+◌, ◌≤◌, ◌<◌}
use native.Mathlib.Nat.{zero-lt-suc}
use native.Mathlib.Numerals.{add-one}
use native.Mathlib.Omega.{arith}
use lib.Dec.{ltb}
use lib.ListN.{length, get_or, drop, get_or-eq_default}
use lib.Seq.{drop-cons, drop-length}
use borrow.Author.Tests.{le-leb, lt-leb, le-ltb, lt-ltb}
use Rattle.laws.proofs.Tests.{order, or_false}
use Rattle.std.specs.Prelude.{Some, None}
use Rattle.std.specs.List.{position, position_or_len}
use Rattle.std.proofs.lemmas.List.Recursion.{is_position_or_len}
use Rattle.board.specs.Handed.{first_bad, bad_place}

module _ (l : List ℕ) (i : ℕ) where
  pub bad_here : i < length l → 1 < get_or l i 0 → first_bad (drop i l) ≡ 0
  unfolding first_bad
  bad_here h b = rw (drop-cons l i 0 h, lt-leb (get_or l i 0) 1 b)

  pub bad_later : i < length l → get_or l i 0 ≤ 1 → first_bad (drop i l) ≡ first_bad (drop (i + 1) l) + 1
  unfolding first_bad
  bad_later h b = rw (drop-cons l i 0 h, le-leb (get_or l i 0) 1 b, add-one i) (omega arith)

  pub bad_never : i ≡ length l → first_bad (drop i l) ≡ 0
  unfolding first_bad
  bad_never e = rw (e, drop-length l)

pub bad_le : (l : List ℕ) → first_bad l ≤ length l
unfolding first_bad
bad_le [] = omega arith
bad_le (x ∷ l) =
    ⊎_elim (λ (h : 1 < x). rw (lt-leb x 1 h) (omega arith)) (λ (g : x ≤ 1). rw (le-leb x 1 g) (omega (arith, bad_le l))) (order 1 x)

-- ---- the first bad byte is bad, and none before it is

-- a good byte in front moves it by one
bad_next : (x : ℕ) (l : List ℕ) → x ≤ 1 → first_bad (x ∷ l) ≡ suc (first_bad l)
unfolding first_bad
bad_next x l s = rw (le-leb x 1 s)

bad_first : (x : ℕ) (l : List ℕ) → 1 < x → first_bad (x ∷ l) ≡ zero
unfolding first_bad
bad_first x l b = rw (lt-leb x 1 b)

pub bad_wrong : (l : List ℕ) → first_bad l < length l → 1 < get_or l (first_bad l) 0
unfolding first_bad
bad_wrong [] h = absurd (omega arith)
bad_wrong (x ∷ l) h =
    ⊎_elim (λ (b : 1 < x). rw (bad_first x l b) b)
    (λ (s : x ≤ 1). rw (bad_next x l s) (bad_wrong l (omega (arith, bad_next x l s)))) (order 1 x)

pub bad_before : (l : List ℕ) (j : ℕ) → j < first_bad l → get_or l j 0 ≤ 1
unfolding first_bad
bad_before [] j h = absurd (omega arith)
bad_before (x ∷ l) zero h = ⊎_elim (λ (b : 1 < x). absurd (omega (arith, bad_first x l b))) (λ (s : x ≤ 1). s) (order 1 x)
bad_before (x ∷ l) (suc j) h =
    ⊎_elim (λ (b : 1 < x). absurd (omega (arith, bad_first x l b)))
    (λ (s : x ≤ 1). bad_before l j (omega (arith, bad_next x l s))) (order 1 x)

-- ---- no byte is bad exactly if each is 0 or 1

pub all_bits : (l : List ℕ) → ((k : ℕ) → k < length l → get_or l k 0 ≤ 1) → first_bad l ≡ length l
all_bits l f =
    ⊎_elim (λ (b : first_bad l < length l). absurd (omega (arith, bad_wrong l b, f (first_bad l) b)))
    (λ (b : length l ≤ first_bad l). omega (arith, bad_le l)) (order (first_bad l) (length l))

-- a place past the end reads as 0
pub bits_all : (l : List ℕ) → length l ≤ first_bad l → (k : ℕ) → get_or l k 0 ≤ 1
bits_all l h k =
    ⊎_elim (λ (b : k < length l). bad_before l k (omega arith))
    (λ (b : length l ≤ k). omega (arith, get_or-eq_default l 0 b)) (order k (length l))

-- ---- whether some byte is bad

abbrev pub has_bad : List ℕ → Bool
has_bad l = ltb (first_bad l) (length l)

ltb_suc : (a b : ℕ) → ltb (suc a) (suc b) ≡ ltb a b
ltb_suc a b =
    ⊎_elim (λ (h : a < b). lt-ltb (suc a) (suc b) (omega arith) ∙ sym (lt-ltb a b h))
    (λ (g : b ≤ a). le-ltb (suc a) (suc b) (omega arith) ∙ sym (le-ltb a b g)) (order a b)

one_more : (x : ℕ) (l : List ℕ) → has_bad (x ∷ l) ≡ (ltb 1 x || has_bad l)
unfolding first_bad
one_more x l =
    ⊎_elim (λ (h : 1 < x). rw (lt-leb x 1 h, lt-ltb 1 x h) (lt-ltb 0 (length (x ∷ l)) (zero-lt-suc (length l))))
    (λ (g : x ≤ 1). rw (le-leb x 1 g, le-ltb 1 x g) (ltb_suc (first_bad l) (length l))) (order 1 x)

-- so far or in what is left: a turn moves a byte from there to here
pub bad_so_far : (bad : Bool) (l : List ℕ) (i : ℕ) → i < length l → ((bad || ltb 1 (get_or l i 0)) || has_bad (drop (i + 1) l)) ≡ (bad || has_bad (drop i l))
bad_so_far true l i h = refl
bad_so_far false l i h = rw (drop-cons l i 0 h, one_more, add-one i)

pub bad_at_end : (bad : Bool) (l : List ℕ) (i : ℕ) → i ≡ length l → (bad || has_bad (drop i l)) ≡ bad
unfolding first_bad
bad_at_end bad l i e = rw (e, drop-length l) (or_false bad)

-- ---- the first bad byte as the library's search finds it

first_bad_is : (l : List ℕ) → first_bad l ≡ position_or_len (ltb 1) l
unfolding first_bad
first_bad_is = is_position_or_len first_bad (ltb 1) refl step
  where
    step : (x : ℕ) (xs : List ℕ) → first_bad (x ∷ xs) ≡ cond (ltb 1 x) 0 (1 + first_bad xs)
    step x xs =
        ⊎_elim (λ (h : 1 < x). rw (lt-leb x 1 h, lt-ltb 1 x h) refl)
        (λ (g : x ≤ 1). rw (le-leb x 1 g, le-ltb 1 x g) (omega arith)) (order 1 x)

pub bad_place_is : (l : List ℕ) → position (ltb 1) l ≡ bad_place l
bad_place_is l = rw (first_bad_is l) refl

pub no_bad_place : (l : List ℕ) → has_bad l ≡ false → bad_place l ≡ None
no_bad_place l e = rw e refl

pub some_bad_place : (l : List ℕ) (at : ℕ) → bad_place l ≡ Some at → (first_bad l < length l) × (at ≡ first_bad l)
some_bad_place l at e =
    ⊎_elim (λ (h : first_bad l < length l). (h, let f = rw (lt-ltb _ _ h) at e in cc))
    (λ (g : length l ≤ first_bad l). let f = rw (le-ltb _ _ g) at e in cc) (order (first_bad l) (length l))

pub none_bad_place : (l : List ℕ) → bad_place l ≡ None → length l ≤ first_bad l
none_bad_place l e =
    ⊎_elim (λ (h : first_bad l < length l). let f = rw (lt-ltb _ _ h) at e in cc)
    (λ (g : length l ≤ first_bad l). g) (order (first_bad l) (length l))
