-- The discipline of marks: a taken vertex becomes 2, its unseen near neighbours 1. Each such change is a `Step` in the sense of Taken.antt,
-- whatever else a search keeps. Assumes nothing.
use mathlib.Core.Path.{◌≡◌, refl, ap, ◌∙◌}
use mathlib.Core.Logic.{◌⊎◌, inl, inr, ◌≢◌}
use mathlib.Core.Bool.{Bool, true, false, not, ◌&&◌, ◌||◌, cond}
use mathlib.Core.List.{List}
use Prim.Native.Nat.{ℕ, zero, suc, ◌≤◌, ◌<◌}
use native.Mathlib.Omega.{arith}
use native.Mathlib.Decide.{ℕ_discrete, dec_lt}
use lib.Dec.{eqb, eqb-suc-zero}
use lib.ListN.{length, set, length-set}
use lib.Seq.{get_or-set_same, get_or-set_other}
use borrow.Author.Tests.{eq-eqb, ne_eqb}
use Rattle.laws.proofs.Tests.{bool_cases}
use Rattle.reach.specs.Turns.{at, seen_in, done_in}
use Rattle.reach.proofs.Taken.{Step}

-- every mark is 0, 1 or 2
abbrev pub Marks : ℕ → List ℕ → Type 0
Marks n m = (v : ℕ) → v < n → at m v ≤ 2

abbrev pub opened : Bool → ℕ → List ℕ → List ℕ
opened true w m = set m w 1
opened false w m = m

-- the unseen near neighbours of u below k are opened
unfoldable pub turned : (ℕ → ℕ → Bool) → ℕ → ℕ → List ℕ → List ℕ
turned near u zero m = m
turned near u (suc k) m = let r = turned near u k m in opened (near u k && eqb (at r k) 0) k r

-- u is taken, of n vertices
abbrev pub taking : (ℕ → ℕ → Bool) → ℕ → ℕ → List ℕ → List ℕ
taking near n u m = turned near u n (set m u 2)

-- ---- one entry

length_opened : (c : Bool) (w : ℕ) (m : List ℕ) → length (opened c w m) ≡ length m
length_opened true w m = length-set m w 1
length_opened false w m = refl

opened_here : (c : Bool) (w : ℕ) (m : List ℕ) → w < length m → at (opened c w m) w ≡ cond c 1 (at m w)
opened_here true w m l = get_or-set_same m w 1 0 l
opened_here false w m l = refl

opened_else : (c : Bool) (w : ℕ) (m : List ℕ) (v : ℕ) → v ≢ w → at (opened c w m) v ≡ at m v
opened_else true w m v h = get_or-set_other m w v 1 0 h
opened_else false w m v h = refl

after_seen : (x : Bool) (a : ℕ) → not (eqb (cond (x && eqb a 0) 1 a) 0) ≡ (x || not (eqb a 0))
after_seen true zero = refl
after_seen true (suc a) = simp eqb-suc-zero
after_seen false a = refl

after_done : (x : Bool) (a : ℕ) → eqb (cond (x && eqb a 0) 1 a) 2 ≡ eqb a 2
after_done true zero = refl
after_done true (suc a) = simp eqb-suc-zero
after_done false a = refl

after_le : (c : Bool) (a : ℕ) → a ≤ 2 → cond c 1 a ≤ 2
after_le true a h = omega arith
after_le false a h = h

-- ---- the neighbours

module _ (near : ℕ → ℕ → Bool) (u : ℕ) (m : List ℕ) where
  length_turned : (k : ℕ) → length (turned near u k m) ≡ length m
  unfolding turned
  length_turned zero = refl
  length_turned (suc k) = length_opened (near u k && eqb (at (turned near u k m) k) 0) k (turned near u k m) ∙ length_turned k

  pub turned_later : (k v : ℕ) → k ≤ v → at (turned near u k m) v ≡ at m v
  unfolding turned
  turned_later zero v l = refl
  turned_later (suc k) v l =
      opened_else (near u k && eqb (at (turned near u k m) k) 0) k (turned near u k m) v (omega arith) ∙ turned_later k v (omega arith)

  turned_now : (k v : ℕ) → v < k → k ≤ length m → at (turned near u k m) v ≡ cond (near u v && eqb (at m v) 0) 1 (at m v)
  unfolding turned
  turned_now zero v l h = omega arith
  turned_now (suc k) v l h = go (ℕ_discrete v k) (λ l'. turned_now k v l' (omega arith))
    where
      r : List ℕ
      r = turned near u k m

      go : Dec (v ≡ k) → (v < k → at r v ≡ cond (near u v && eqb (at m v) 0) 1 (at m v))
          → at (opened (near u k && eqb (at r k) 0) k r) v ≡ cond (near u v && eqb (at m v) 0) 1 (at m v)
      go (yes e) ih =
          rw (e, opened_here (near u k && eqb (at r k) 0) k r (omega (arith, length_turned k)), turned_later k k (omega arith)) refl
      go (no e) ih = opened_else (near u k && eqb (at r k) 0) k r v e ∙ ih (omega arith)

  -- what is expanded stays so, and nothing else becomes so
  pub turned_done : (k v : ℕ) → k ≤ length m → done_in (turned near u k m) v ≡ done_in m v
  turned_done k v h = go (dec_lt v k)
    where
      go : Dec (v < k) → done_in (turned near u k m) v ≡ done_in m v
      go (yes l) = rw (turned_now k v l h) (after_done (near u v) (at m v))
      go (no l) = rw (turned_later k v (omega arith)) refl

  pub turned_le : (k v : ℕ) → k ≤ length m → at m v ≤ 2 → at (turned near u k m) v ≤ 2
  turned_le k v h a = go (dec_lt v k)
    where
      go : Dec (v < k) → at (turned near u k m) v ≤ 2
      go (yes l) = rw (turned_now k v l h) (after_le (near u v && eqb (at m v) 0) (at m v) a)
      go (no l) = rw (turned_later k v (omega arith)) a

  -- what is seen was seen, or is near
  pub turned_seen : (k v : ℕ) → k ≤ length m → at (turned near u k m) v ≢ 0 → (at m v ≢ 0) ⊎ (near u v ≡ true)
  turned_seen k v h s = go (dec_lt v k) (bool_cases (near u v))
    where
      go : Dec (v < k) → (near u v ≡ true) ⊎ (near u v ≡ false) → (at m v ≢ 0) ⊎ (near u v ≡ true)
      go d (inl n) = inr n
      go (yes l) (inr n) = inl (λ e. s (rw (turned_now k v l h, n) e))
      go (no l) (inr n) = inl (λ e. s (turned_later k v (omega arith) ∙ e))

-- ---- the taken vertex and its neighbours

pub marks_set : (n u : ℕ) (m : List ℕ) → u < length m → Marks n m → Marks n (set m u 2)
marks_set n u m l h v k = go (ℕ_discrete v u)
  where
    go : Dec (v ≡ u) → at (set m u 2) v ≤ 2
    go (yes e) = rw (e, get_or-set_same m u 2 0 l) (omega arith)
    go (no e) = rw (get_or-set_other m u v 2 0 e) (h v k)

module _ (n : ℕ) (near : ℕ → ℕ → Bool) (u : ℕ) (m : List ℕ) (l : u < n) (room : n ≤ length m) (o : at m u ≡ 1) where
  now : (v : ℕ) → v < n → at (taking near n u m) v ≡ cond (near u v && eqb (at (set m u 2) v) 0) 1 (at (set m u 2) v)
  now v k = turned_now near u (set m u 2) n v k (omega (arith, length-set m u 2))

  pub set_seen : (v : ℕ) → seen_in (set m u 2) v ≡ seen_in m v
  set_seen v = go (ℕ_discrete v u)
    where
      go : Dec (v ≡ u) → seen_in (set m u 2) v ≡ seen_in m v
      go (yes e) = rw (e, get_or-set_same m u 2 0 (omega arith), o) refl
      go (no e) = rw (get_or-set_other m u v 2 0 e) refl

  pub set_done : (v : ℕ) → done_in (set m u 2) v ≡ (eqb v u || done_in m v)
  set_done v = go (ℕ_discrete v u)
    where
      go : Dec (v ≡ u) → done_in (set m u 2) v ≡ (eqb v u || done_in m v)
      go (yes e) = rw (e, get_or-set_same m u 2 0 (omega arith), eq-eqb u u refl) refl
      go (no e) = rw (get_or-set_other m u v 2 0 e, ne_eqb v u e) refl

  pub marks_step : Step n near u (seen_in m) (done_in m) (seen_in (taking near n u m)) (done_in (taking near n u m))
  marks_step = record {
    below = l;
    was_seen = rw o refl;
    not_done = rw o refl;
    done_now = λ v k. turned_done near u (set m u 2) n v (omega (arith, length-set m u 2)) ∙ set_done v;
    seen_now = λ v k.
        rw (now v k) (after_seen (near u v) (at (set m u 2) v)) ∙ ap (λ (b : Bool). near u v || b) (set_seen v);
  }

  pub marks_kept : Marks n m → Marks n (taking near n u m)
  marks_kept h v k = turned_le near u (set m u 2) n v (omega (arith, length-set m u 2)) (marks_set n u m (omega arith) h v k)

  pub length_taking : length (taking near n u m) ≡ length m
  length_taking = length_turned near u (set m u 2) n ∙ length-set m u 2

-- ---- the beginning: one entry among zeros

pub one_entry : (l : List ℕ) (n s x : ℕ) → s < length l → ((v : ℕ) → v < n → at l v ≡ 0) → (v : ℕ) → v < n → at (set l s x) v ≡ cond (eqb v s) x 0
one_entry l n s x b z v k = go (ℕ_discrete v s)
  where
    go : Dec (v ≡ s) → at (set l s x) v ≡ cond (eqb v s) x 0
    go (yes e) = rw (e, get_or-set_same l s x 0 b, eq-eqb s s refl) refl
    go (no e) = rw (get_or-set_other l s v x 0 e, z v k, ne_eqb v s e) refl
