-- Tests over the numbers below n: what `every`, `some`, `how_many` and `first_where` answer. Assumes nothing.
use Prim.Native.Nat.{ℕ, zero, suc, ◌+◌, ◌≤◌, ◌<◌}
use mathlib.Core.Path.{◌≡◌, refl, sym, ap, ap₂, ◌∙◌}
use mathlib.Core.Logic.{◌≢◌, ⊎_elim}
use mathlib.Core.Bool.{Bool, true, false, ◌&&◌, true≢false}
use native.Mathlib.Numerals.{add-one}
use native.Mathlib.Omega.{arith}
use lib.Dec.{ltb, eqb}
use borrow.Author.Tests.{lt-ltb, le-ltb, eq-eqb, eqb-true, eqb-false}
use Rattle.laws.specs.Below.{every, some, as_number, how_many, first_where}
use Rattle.laws.proofs.Tests.{order, bool_cases, and_left, and_right, and_both, false_of, or_left, or_right, or_false}

-- ---- one test

pub number_le : (b : Bool) → as_number b ≤ 1
number_le true = omega arith
number_le false = omega arith

number_mono : (b c : Bool) → (b ≡ true → c ≡ true) → as_number b ≤ as_number c
number_mono true c h = rw (h refl) (omega arith)
number_mono false c h = omega arith

module _ (t : ℕ → Bool) where
  -- ---- the first that passes, from n to n + 1

  first_kept : (n : ℕ) → first_where n t < n → first_where (suc n) t ≡ first_where n t
  unfolding first_where
  first_kept n l = rw (lt-ltb (first_where n t) n l)

  first_new : (n : ℕ) → n ≤ first_where n t → t n ≡ true → first_where (suc n) t ≡ n
  unfolding first_where
  first_new n l h = rw (le-ltb (first_where n t) n l, h)

  first_past : (n : ℕ) → n ≤ first_where n t → t n ≡ false → first_where (suc n) t ≡ suc n
  unfolding first_where
  first_past n l h = rw (le-ltb (first_where n t) n l, h)

  -- ---- "none below i passes" is `firstWhere i t ≡ i`: it begins, goes on, and ends

  pub none_yet : first_where 0 t ≡ 0
  unfolding first_where
  none_yet = refl

  pub none_more : (i : ℕ) → first_where i t ≡ i → t i ≡ false → first_where (i + 1) t ≡ i + 1
  none_more i e h = rw (add-one i) (first_past i (omega arith) h)

  pub first_here : (i : ℕ) → first_where i t ≡ i → t i ≡ true → (n : ℕ) → i < n → first_where n t ≡ i
  first_here i e h zero l = absurd (omega arith)
  first_here i e h (suc n) l =
      ⊎_elim
      (λ (b : i < n). let f = first_here i e h n b in first_kept n (omega arith) ∙ f)
      (λ (b : n ≤ i). let s : n ≡ i = omega arith in rw s (first_new i (omega arith) h))
      (order i n)

  -- ---- what the first that passes is

  pub first_le : (n : ℕ) → first_where n t ≤ n
  unfolding first_where
  first_le zero = omega arith
  first_le (suc n) =
      ⊎_elim
      (λ (l : first_where n t < n). omega (arith, first_kept n l))
      (λ (g : n ≤ first_where n t).
      ⊎_elim
      (λ (h : t n ≡ true). omega (arith, first_new n g h))
      (λ (h : t n ≡ false). omega (arith, first_past n g h))
      (bool_cases (t n)))
      (order (first_where n t) n)

  pub first_passes : (n : ℕ) → first_where n t < n → t (first_where n t) ≡ true
  first_passes zero l = absurd (omega arith)
  first_passes (suc n) l =
      ⊎_elim
      (λ (b : first_where n t < n). rw (first_kept n b) (first_passes n b))
      (λ (g : n ≤ first_where n t).
      ⊎_elim
      (λ (h : t n ≡ true). rw (first_new n g h) h)
      (λ (h : t n ≡ false). absurd (omega (arith, first_past n g h)))
      (bool_cases (t n)))
      (order (first_where n t) n)

  pub first_before : (n j : ℕ) → j < first_where n t → t j ≡ false
  unfolding first_where
  first_before zero j l = absurd (omega arith)
  first_before (suc n) j l =
      ⊎_elim
      (λ (b : first_where n t < n). first_before n j (omega (arith, first_kept n b)))
      (λ (g : n ≤ first_where n t).
      ⊎_elim
      (λ (h : t n ≡ true). first_before n j (omega (arith, first_new n g h)))
      (λ (h : t n ≡ false).
      ⊎_elim
      (λ (b : j < n). first_before n j (omega arith))
      (λ (b : n ≤ j). let s : j ≡ n = omega (arith, first_past n g h) in rw s h)
      (order j n))
      (bool_cases (t n)))
      (order (first_where n t) n)

  pub none_below : (n : ℕ) → ((i : ℕ) → i < n → t i ≡ false) → first_where n t ≡ n
  none_below n f =
      ⊎_elim
      (λ (l : first_where n t < n). absurd (true≢false (sym (first_passes n l) ∙ f (first_where n t) l)))
      (λ (g : n ≤ first_where n t). omega (arith, first_le n))
      (order (first_where n t) n)

  -- ---- every

  pub every_at : (n : ℕ) → every n t ≡ true → (i : ℕ) → i < n → t i ≡ true
  unfolding every
  every_at zero h i l = absurd (omega arith)
  every_at (suc n) h i l =
      ⊎_elim
      (λ (b : i < n). every_at n (and_left (every n t) (t n) h) i b)
      (λ (b : n ≤ i). let s : i ≡ n = omega arith in rw s (and_right (every n t) (t n) h))
      (order i n)

  pub every_of : (n : ℕ) → ((i : ℕ) → i < n → t i ≡ true) → every n t ≡ true
  unfolding every
  every_of zero f = refl
  every_of (suc n) f = and_both (every_of n (λ (i : ℕ) (l : i < n). f i (omega arith))) (f n (omega arith))

  -- ---- some

  some_at : (n i : ℕ) → i < n → t i ≡ true → some n t ≡ true
  unfolding some
  some_at zero i l h = absurd (omega arith)
  some_at (suc n) i l h =
      ⊎_elim
      (λ (b : i < n). or_left (t n) (some_at n i b h))
      (λ (b : n ≤ i). let s : n ≡ i = omega arith in or_right (some n t) (rw s h))
      (order i n)

  pub some_none : (n : ℕ) → ((i : ℕ) → i < n → t i ≡ false) → some n t ≡ false
  unfolding some
  some_none zero f = refl
  some_none (suc n) f = rw (some_none n (λ (i : ℕ) (l : i < n). f i (omega arith)), f n (omega arith))

  pub some_first : (n : ℕ) → some n t ≡ ltb (first_where n t) n
  some_first n =
      ⊎_elim
      (λ (l : first_where n t < n). some_at n (first_where n t) l (first_passes n l) ∙ sym (lt-ltb (first_where n t) n l))
      (λ (g : n ≤ first_where n t).
      some_none n (λ (i : ℕ) (l : i < n). first_before n i (omega arith)) ∙ sym (le-ltb (first_where n t) n g))
      (order (first_where n t) n)

  -- ---- how many

  pub many_pass : (n : ℕ) → t n ≡ true → how_many (n + 1) t ≡ how_many n t + 1
  unfolding how_many
  many_pass n h = rw (add-one n, h)

  pub many_fail : (n : ℕ) → t n ≡ false → how_many (n + 1) t ≡ how_many n t
  unfolding how_many
  many_fail n h = rw (add-one n, h) (omega arith)

  pub many_le : (n : ℕ) → how_many n t ≤ n
  unfolding how_many
  many_le zero = omega arith
  many_le (suc n) = omega (arith, many_le n, number_le (t n))

  pub many_none : (n : ℕ) → ((i : ℕ) → i < n → t i ≡ false) → how_many n t ≡ 0
  unfolding how_many
  many_none zero f = refl
  many_none (suc n) f = omega (arith, ap as_number (f n (omega arith)), many_none n (λ (i : ℕ) (l : i < n). f i (omega arith)))

  many_grow : (i n : ℕ) → i ≤ n → how_many i t ≤ how_many n t
  unfolding how_many
  many_grow i zero l = let s : i ≡ 0 = omega arith in rw s (omega arith)
  many_grow i (suc n) l =
      ⊎_elim
      (λ (b : i < suc n). let m = many_grow i n (omega arith) in omega arith)
      (λ (b : suc n ≤ i). let s : i ≡ suc n = omega arith in rw s (omega arith))
      (order i (suc n))

  pub some_many : (n : ℕ) → some n t ≡ ltb 0 (how_many n t)
  unfolding some how_many
  some_many zero = refl
  some_many (suc n) =
      ⊎_elim
      (λ (h : t n ≡ true). or_right (some n t) h ∙ sym (lt-ltb 0 (how_many (suc n) t) (rw h (omega arith))))
      (λ (h : t n ≡ false).
      let z : how_many n t + 0 ≡ how_many n t = omega arith in
      rw (h, or_false (some n t), z) (some_many n))
      (bool_cases (t n))

-- ---- two tests

module _ (t s : ℕ → Bool) where
  pub every_same : (n : ℕ) → ((i : ℕ) → t i ≡ s i) → every n t ≡ every n s
  unfolding every
  every_same zero e = refl
  every_same (suc n) e = rw (every_same n e, e n)

  pub many_same : (n : ℕ) → ((i : ℕ) → i < n → t i ≡ s i) → how_many n t ≡ how_many n s
  unfolding how_many
  many_same zero h = refl
  many_same (suc n) h = ap₂ ◌+◌ (many_same n (λ i l. h i (omega arith))) (ap as_number (h n (omega arith)))

  pub many_mono : (n : ℕ) → ((i : ℕ) → i < n → t i ≡ true → s i ≡ true) → how_many n t ≤ how_many n s
  unfolding how_many
  many_mono zero h = omega arith
  many_mono (suc n) h = omega (arith, number_mono (t n) (s n) (h n (omega arith)), many_mono n (λ i l. h i (omega arith)))

  -- they differ at most at u
  pub many_but_one : (n u : ℕ) → u < n → ((i : ℕ) → i < n → i ≢ u → s i ≡ t i) → how_many n s + as_number (t u) ≡ how_many n t + as_number (s u)
  unfolding how_many
  many_but_one zero u l h = omega arith
  many_but_one (suc n) u l h =
      ⊎_elim
      (λ (b : u < n). omega (arith, many_but_one n u b (λ i k. h i (omega arith)), ap as_number (h n (omega arith) (omega arith))))
      (λ (b : n ≤ u).
      let e : u ≡ n = omega arith in
      rw e (omega (arith, many_same n (λ i k. sym (h i (omega arith) (omega arith))))))
      (order u n)

  -- whatever passes t passes s, and u passes s alone
  pub many_fewer : (n u : ℕ) → u < n → t u ≡ false → s u ≡ true → ((i : ℕ) → i < n → t i ≡ true → s i ≡ true) → how_many n t < how_many n s
  unfolding how_many
  many_fewer zero u l a b h = omega arith
  many_fewer (suc n) u l a b h =
      ⊎_elim
      (λ (m : u < n). omega (arith, many_fewer n u m a b (λ i k. h i (omega arith)), number_mono (t n) (s n) (h n (omega arith))))
      (λ (m : n ≤ u).
      let e : u ≡ n = omega arith in
      omega (arith, ap as_number (rw e at a), ap as_number (rw e at b), many_mono n (λ i k. h i (omega arith))))
      (order u n)

-- each that passes r passes exactly one of t and s
pub many_add : (t s r : ℕ → Bool) (n : ℕ) → ((i : ℕ) → i < n → as_number (r i) ≡ as_number (t i) + as_number (s i)) → how_many n r ≡ how_many n t + how_many n s
unfolding how_many
many_add t s r zero h = refl
many_add t s r (suc n) h = omega (arith, h n (omega arith), many_add t s r n (λ i l. h i (omega arith)))

-- the numbers below a + b are those below a, and b more
pub many_split : (a b : ℕ) (t : ℕ → Bool) → how_many (a + b) t ≡ how_many a t + how_many b (λ (i : ℕ). t (a + i))
unfolding how_many
many_split a zero t = let e : a + 0 ≡ a = omega arith in rw e (omega arith)
many_split a (suc b) t = let e : a + suc b ≡ suc (a + b) = omega arith in rw e (omega (arith, many_split a b t))

-- ---- the one with an index: it passes, and as many as the index do before it

module _ (t : ℕ → Bool) where
  abbrev pub indexed : (index j : ℕ) → Bool
  indexed index j = t j && eqb (how_many j t) index

  indexed_index : (k j : ℕ) → indexed k j ≡ true → how_many j t ≡ k
  indexed_index k j h = eqb-true (how_many j t) k (and_right (t j) (eqb (how_many j t) k) h)

  indexed_passes : (k j : ℕ) → indexed k j ≡ true → t j ≡ true
  indexed_passes k j h = and_left (t j) (eqb (how_many j t) k) h

  -- one that passes is the one with its own index
  pub indexed_here : (n i : ℕ) → i < n → t i ≡ true → first_where n (indexed (how_many i t)) ≡ i
  indexed_here n i l h =
      first_here (indexed (how_many i t)) i (none_below (indexed (how_many i t)) i others) (and_both h (eq-eqb (how_many i t) (how_many i t) refl)) n l
    where
      others : (j : ℕ) → j < i → indexed (how_many i t) j ≡ false
      others j b =
          false_of (indexed (how_many i t) j) (λ (e : indexed (how_many i t) j ≡ true).
          omega (arith, many_pass t j (indexed_passes (how_many i t) j e), indexed_index (how_many i t) j e, many_grow t (j + 1) i (omega arith)))

  pub many_above : (n i : ℕ) → i < n → t i ≡ true → how_many i t < how_many n t
  many_above n i l h = omega (arith, many_pass t i h, many_grow t (i + 1) n (omega arith))

  -- and there is one for each index below how many there are
  unindexed : (k n : ℕ) → ((j : ℕ) → j < n → indexed k j ≡ false) → how_many n t ≤ k
  unfolding how_many
  unindexed k zero f = omega arith
  unindexed k (suc n) f =
      let before = unindexed k n (λ (j : ℕ) (l : j < n). f j (omega arith)) in
      ⊎_elim
      (λ (h : t n ≡ true). let other = eqb-false (how_many n t) k (rw h at (f n (omega arith))) in rw h (omega arith))
      (λ (h : t n ≡ false). rw h (omega arith))
      (bool_cases (t n))

  pub indexed_below : (n k : ℕ) → k < how_many n t → first_where n (indexed k) < n
  indexed_below n k l =
      ⊎_elim
      (λ (b : first_where n (indexed k) < n). b)
      (λ (g : n ≤ first_where n (indexed k)).
      absurd (omega (arith, unindexed k n (λ (j : ℕ) (b : j < n). first_before (indexed k) n j (omega arith)))))
      (order (first_where n (indexed k)) n)

  module _ (n k : ℕ) (l : k < how_many n t) where
    pub indexed_does_pass : t (first_where n (indexed k)) ≡ true
    indexed_does_pass = indexed_passes k (first_where n (indexed k)) (first_passes (indexed k) n (indexed_below n k l))
