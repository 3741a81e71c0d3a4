-- A list by its entries: its length, each entry, and that it is written one entry after the other. Assumes nothing.
use Prim.Native.Nat.{ℕ, zero, suc, ◌+◌, ◌≤◌, ◌<◌}
use mathlib.Core.Path.{◌≡◌, refl, sym, ◌∙◌}
use mathlib.Core.Logic.{⊎_elim}
use mathlib.Core.List.{List, [], ◌∷◌, ◌++◌}
use native.Mathlib.Numerals.{add-one}
use native.Mathlib.Omega.{arith}
use lib.ListN.{length, get_or, set, drop, length-append, length-drop, get_or-append}
use lib.Seq.{drop-cons, append_snoc, set_at, get_or_at, ext_get_or}
use Rattle.std.proofs.Math.Seq.{drop-length}
use Rattle.std.proofs.lemmas.List.{append-nil}
use Rattle.laws.proofs.Tests.{order}
use Rattle.bits.specs.Packed.{entries}

module _ (f : ℕ → ℕ) where
  pub entries_none : (before : List ℕ) → before ≡ entries 0 f ++ drop 0 before
  unfolding entries
  entries_none before = refl

  pub entries_length : (n : ℕ) → length (entries n f) ≡ n
  unfolding entries
  entries_length zero = refl
  entries_length (suc n) = length-append (entries n f) (f n ∷ []) ∙ omega (arith, entries_length n)

  pub entries_at : (n k : ℕ) → k < n → get_or (entries n f) k 0 ≡ f k
  unfolding entries
  entries_at zero k l = absurd (omega arith)
  entries_at (suc n) k l =
      ⊎_elim
      (λ (b : k < n). get_or-append (entries n f) (f n ∷ []) 0 k (omega (arith, entries_length n)) ∙ entries_at n k b)
      (λ (b : n ≤ k). let e : k ≡ n = omega arith in rw e (get_or_at (entries n f) (f n) [] 0 n (entries_length n)))
      (order k n)

  -- a slice whose first n entries are written keeps its length, and takes the next one
  pub written_length : (n : ℕ) (before : List ℕ) → n ≤ length before → length (entries n f ++ drop n before) ≡ length before
  written_length n before l = simp (length-append, length-drop) (omega (arith, entries_length n))

  pub written_more : (n : ℕ) (before : List ℕ) → n < length before
      → set (entries n f ++ drop n before) n (f n) ≡ entries (n + 1) f ++ drop (n + 1) before
  unfolding entries
  written_more n before l =
      rw (drop-cons before n 0 l, add-one n)
      (set_at (entries n f) (get_or before n 0) (drop (suc n) before) (f n) n (entries_length n)
      ∙ sym (append_snoc (entries n f) (f n) (drop (suc n) before)))

-- so it goes on in a slice that holds the first n entries and beyond them what it held
module _ (f : ℕ → ℕ) (n : ℕ) (before : List ℕ) {now : List ℕ} (e : now ≡ entries n f ++ drop n before) where
  pub kept_length : n ≤ length before → length now ≡ length before
  kept_length l = rw e (written_length f n before l)

  pub written_next : {a : ℕ} → a ≡ f n → n < length before → set now n a ≡ entries (n + 1) f ++ drop (n + 1) before
  written_next s l = rw (e, s) (written_more f n before l)

  -- and when its last entry is written it holds the entries alone
  pub written_all : {m : ℕ} → length before ≡ n → n ≡ m → now ≡ entries m f
  written_all {m} s t = e ∙ rw (t, ← (s ∙ t), drop-length before) (append-nil (entries (length before) f))

-- a list whose entries these are
pub entries_all : (f : ℕ → ℕ) (l : List ℕ) (n : ℕ) → length l ≡ n → ((k : ℕ) → k < n → f k ≡ get_or l k 0) → entries n f ≡ l
entries_all f l n e h =
    ext_get_or 0 (entries n f) l (entries_length f n ∙ sym e)
    (λ (k : ℕ) (b : k < length (entries n f)).
    let c : k < n = omega (arith, entries_length f n) in
    entries_at f n k c ∙ h k c)
