-- The numbers below n that pass a test, in order: the one with an index. Assumes nothing.
use Prim.Native.Nat.{ℕ, zero, suc, ◌+◌, ◌≤◌, ◌<◌}
use mathlib.Core.Path.{◌≡◌, refl, sym, ap, ◌∙◌}
use mathlib.Core.Logic.{⊎_elim}
use mathlib.Core.Bool.{Bool, true, false, cond}
use mathlib.Core.List.{List, [], ◌∷◌, ◌++◌}
use native.Mathlib.Omega.{arith}
use lib.Dec.{leb}
use lib.ListN.{length, get_or, length-append, get_or-append}
use lib.Seq.{get_or_at}
use borrow.Author.Tests.{le-leb, lt-leb}
use Rattle.std.specs.Prelude.{Some, None}
use Rattle.std.specs.List.{filter, range_with_len, slice_get}
use Rattle.std.proofs.lemmas.List.Elements.{filter-append}
use Rattle.std.proofs.lemmas.Option.{slice_get-get_or, slice_get_past}
use Rattle.laws.proofs.Tests.{order, bool_cases}
use Rattle.laws.specs.Below.{how_many, first_where}
use Rattle.laws.proofs.Below.{indexed, indexed_here}

range_more : (a n : ℕ) → range_with_len a (suc n) ≡ range_with_len a n ++ (a + n) ∷ []
range_more a zero = let e : a + 0 ≡ a = omega arith in rw e refl
range_more a (suc n) = let e : (a + 1) + n ≡ a + suc n = omega arith in ap (λ (l : List ℕ). a ∷ l) (rw e at (range_more (a + 1) n))

module _ (t : ℕ → Bool) where
  abbrev pub passing : ℕ → List ℕ
  passing n = filter t (range_with_len 0 n)

  last : (n : ℕ) → passing (suc n) ≡ passing n ++ cond (t n) (n ∷ []) []
  last n =
      let z : 0 + n ≡ n = omega arith in
      ap (filter t) (rw z at (range_more 0 n)) ∙ filter-append t (range_with_len 0 n) (n ∷ [])

  last_passes : (n : ℕ) → t n ≡ true → passing (suc n) ≡ passing n ++ n ∷ []
  last_passes n h = last n ∙ rw h refl

  last_fails : (n : ℕ) → t n ≡ false → passing (suc n) ≡ passing n ++ []
  last_fails n h = last n ∙ rw h refl

  long : (n : ℕ) → length (passing n) ≡ how_many n t
  unfolding how_many
  long zero = refl
  long (suc n) =
      ⊎_elim
      (λ (h : t n ≡ true). ap length (last_passes n h) ∙ length-append (passing n) (n ∷ []) ∙ rw h (omega (arith, long n)))
      (λ (h : t n ≡ false). ap length (last_fails n h) ∙ length-append (passing n) [] ∙ rw h (omega (arith, long n)))
      (bool_cases (t n))

  -- it passes, and as many as its index do before it
  record At (n k i : ℕ) : Type 0 where
    below : i < n
    passes : t i ≡ true
    index : how_many i t ≡ k

  up : {n k i j : ℕ} → i ≡ j → At n k j → At (suc n) k i
  up e a = rw e (record { below = omega (arith, a.below); passes = a.passes; index = a.index })

  at : (n k : ℕ) → k < how_many n t → At n k (get_or (passing n) k 0)
  unfolding how_many
  at zero k l = absurd (omega arith)
  at (suc n) k l =
      ⊎_elim
      (λ (h : t n ≡ true).
      ⊎_elim
      (λ (b : k < how_many n t).
      up (ap (λ (xs : List ℕ). get_or xs k 0) (last_passes n h) ∙ get_or-append (passing n) (n ∷ []) 0 k (omega (arith, long n))) (at n k b))
      (λ (b : how_many n t ≤ k).
      let m : k < how_many n t + 1 = rw h at l in
      let e : k ≡ how_many n t = omega arith in
      let i : get_or (passing (suc n)) k 0 ≡ n = ap (λ (xs : List ℕ). get_or xs k 0) (last_passes n h) ∙ get_or_at (passing n) n [] 0 k (long n ∙ sym e) in
      rw i (record { below = omega arith; passes = h; index = sym e }))
      (order k (how_many n t)))
      (λ (h : t n ≡ false).
      let m : k < how_many n t + 0 = rw h at l in
      let b : k < how_many n t = omega arith in
      up (ap (λ (xs : List ℕ). get_or xs k 0) (last_fails n h) ∙ get_or-append (passing n) [] 0 k (omega (arith, long n))) (at n k b))
      (bool_cases (t n))

  pub found : (n k : ℕ) → slice_get (passing n) k ≡ cond (leb (how_many n t) k) None (Some (first_where n (indexed t k)))
  found n k =
      ⊎_elim
      (λ (l : k < how_many n t).
      let p = at n k l in
      rw (lt-leb (how_many n t) k l, slice_get-get_or (passing n) k 0 (omega (arith, long n))) (ap Some (sym (rw p.index at (indexed_here t n (get_or (passing n) k 0) p.below p.passes)))))
      (λ (g : how_many n t ≤ k). rw (le-leb (how_many n t) k g) (slice_get_past (passing n) k (omega (arith, long n))))
      (order k (how_many n t))
