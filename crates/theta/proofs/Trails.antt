-- Reading the path back from the parents: how long it is, its last, that each is the parent of the next, and that all are on the board.
-- Assumes nothing.
use mathlib.Core.Path.{◌≡◌, refl, sym, ap, ◌∙◌}
use mathlib.Core.Logic.{◌≢◌}
use mathlib.Core.List.{List, [], ◌∷◌, ◌++◌}
use Prim.Native.Nat.{ℕ, zero, suc, ◌≤◌, ◌<◌}
use native.Mathlib.Omega.{arith}
use native.Mathlib.Decide.{ℕ_discrete}
use lib.ListN.{length, length-append, get_or-append}
use lib.Seq.{get_or_at}
use borrow.Author.Tests.{eq-eqb, ne_eqb}
use Rattle.reach.specs.Turns.{at}
use Rattle.theta.specs.Search.{trail}
use Rattle.theta.specs.Back.{Back, root, leg, Traced}

module _ (start : ℕ) (parent : List ℕ) where
  pub trail_start : (f : ℕ) → trail start parent f start ≡ start ∷ []
  unfolding trail
  trail_start zero = refl
  trail_start (suc f) = rw (eq-eqb start start refl, trail)

  pub trail_back : (f v : ℕ) → v ≢ start → trail start parent (suc f) v ≡ trail start parent f (at parent v) ++ (v ∷ [])
  unfolding trail
  trail_back f v h = rw (ne_eqb v start h, trail)

module _ {n start : ℕ} {parent : List ℕ} where
  pub trail_length : {v k : ℕ} → Back n start parent v k → (f : ℕ) → k ≤ f → length (trail start parent f v) ≡ suc k
  trail_length root f l = rw (trail_start start parent f) refl
  trail_length (leg {v} {k} m h r) zero l = absurd (omega arith)
  trail_length (leg {v} {k} m h r) (suc f) l = rw (trail_back start parent f v h, length-append) (omega (arith, trail_length r f (omega arith)))

  pub trail_last : {v k : ℕ} → Back n start parent v k → (f : ℕ) → k ≤ f → at (trail start parent f v) k ≡ v
  trail_last root f l = rw (trail_start start parent f) refl
  trail_last (leg {v} {k} m h r) zero l = absurd (omega arith)
  trail_last (leg {v} {k} m h r) (suc f) l =
      rw (trail_back start parent f v h) (get_or_at (trail start parent f (at parent v)) v [] 0 (suc k) (trail_length r f (omega arith)))

  -- the path to v, but for v, is the path to its parent
  trail_inside : {v k : ℕ} → v ≢ start → Back n start parent (at parent v) k → (f : ℕ) → k ≤ f → (i : ℕ) → i ≤ k
      → at (trail start parent (suc f) v) i ≡ at (trail start parent f (at parent v)) i
  trail_inside {v} {k} h r f l i j =
      ap (λ (x : List ℕ). at x i) (trail_back start parent f v h)
      ∙ get_or-append (trail start parent f (at parent v)) (v ∷ []) 0 i (omega (arith, trail_length r f l))

  -- each is the parent of the next
  pub trail_prev : {v k : ℕ} → Back n start parent v k → (f : ℕ) → k ≤ f → (i : ℕ) → suc i ≤ k
      → at parent (at (trail start parent f v) (suc i)) ≡ at (trail start parent f v) i
  trail_prev root f l i j = absurd (omega arith)
  trail_prev (leg {v} {k} m h r) zero l i j = absurd (omega arith)
  trail_prev (leg {v} {k} m h r) (suc f) l i j = go (ℕ_discrete i k) (λ j'. trail_prev r f (omega arith) i j')
    where
      T : List ℕ
      T = trail start parent f (at parent v)

      go : Dec (i ≡ k) → (suc i ≤ k → at parent (at T (suc i)) ≡ at T i)
          → at parent (at (trail start parent (suc f) v) (suc i)) ≡ at (trail start parent (suc f) v) i
      go (yes e) ih =
          rw (e, trail_last (leg m h r) (suc f) l, trail_inside h r f (omega arith) k (omega arith)) (sym (trail_last r f (omega arith)))
      go (no e) ih =
          rw (trail_inside h r f (omega arith) (suc i) (omega arith), trail_inside h r f (omega arith) i (omega arith)) (ih (omega arith))

  -- whatever the start and each vertex on the way have, all on the path have
  pub trail_all : (P : ℕ → Type 0) → P start → {v k : ℕ} → Back n start parent v k
      → ((x : ℕ) → x < n → x ≢ start → P x → P (at parent x)) → P v → (f : ℕ) → k ≤ f → (i : ℕ) → i ≤ k → P (at (trail start parent f v) i)
  trail_all P b root up q f l i j = let z : i ≡ 0 = omega arith in rw (trail_start start parent f, z) b
  trail_all P b (leg {v} {k} m h r) up q zero l i j = absurd (omega arith)
  trail_all P b (leg {v} {k} m h r) up q (suc f) l i j = go (ℕ_discrete i (suc k)) (λ j'. trail_all P b r up (up v m h q) f (omega arith) i j')
    where
      go : Dec (i ≡ suc k) → (i ≤ k → P (at (trail start parent f (at parent v)) i)) → P (at (trail start parent (suc f) v) i)
      go (yes e) ih = rw (e, trail_last (leg m h r) (suc f) l) q
      go (no e) ih = rw (trail_inside h r f (omega arith) i (omega arith)) (ih (omega arith))

  -- ---- each vertex of the path hangs on the start by as many legs as its place says

  pub trail_at : {v k : ℕ} → Back n start parent v k → (f : ℕ) → k ≤ f → (i : ℕ) → i ≤ k → Back n start parent (at (trail start parent f v) i) i
  trail_at root f l i j = let z : i ≡ 0 = omega arith in rw (z, trail_start start parent f) root
  trail_at (leg {v} {k} m h r) zero l i j = absurd (omega arith)
  trail_at (leg {v} {k} m h r) (suc f) l i j = go (ℕ_discrete i (suc k)) (λ j'. trail_at r f (omega arith) i j')
    where
      go : Dec (i ≡ suc k) → (i ≤ k → Back n start parent (at (trail start parent f (at parent v)) i) i)
          → Back n start parent (at (trail start parent (suc f) v) i) i
      go (yes e) ih = rw (e, trail_last (leg m h r) (suc f) l) (leg m h r)
      go (no e) ih = rw (trail_inside h r f (omega arith) i (omega arith)) (ih (omega arith))

  back_none : {v k : ℕ} → Back n start parent v k → k ≡ 0 → v ≡ start
  back_none root e = refl
  back_none (leg m h r) e = absurd (omega arith)

  pub back_start : {v k : ℕ} → Back n start parent v k → v ≡ start → k ≡ 0
  back_start root e = refl
  back_start (leg m h r) e = absurd (h e)

  pub back_some : {v k : ℕ} → Back n start parent v k → v ≢ start → (i : ℕ) × (k ≡ suc i) × Back n start parent (at parent v) i × (v < n)
  back_some root d = absurd (d refl)
  back_some (leg {v} {k} m h r) d = (k, refl, r, m)

  back_on : {v k : ℕ} → start < n → Back n start parent v k → v < n
  back_on sn root = sn
  back_on sn (leg m h r) = m

  module _ {v k : ℕ} (b : Back n start parent v k) (f : ℕ) (l : k ≤ f) where
    pub trail_first : at (trail start parent f v) 0 ≡ start
    trail_first = back_none (trail_at b f l 0 (omega arith)) refl

    pub trail_on : start < n → (i : ℕ) → i ≤ k → at (trail start parent f v) i < n
    trail_on sn i j = back_on sn (trail_at b f l i j)

    -- the path does not come back to the start
    pub trail_leaves : (i : ℕ) → suc i ≤ k → at (trail start parent f v) (suc i) ≢ start
    trail_leaves i j e = omega (arith, back_start (trail_at b f l (suc i) j) e)

-- ---- in longer lists

-- more turns than the path has legs give the same path
pub trail_fuel : {n start : ℕ} {parent : List ℕ} {v k : ℕ} → Back n start parent v k → (f h : ℕ) → k ≤ f → k ≤ h
    → trail start parent f v ≡ trail start parent h v
trail_fuel {start = start} {parent = parent} root f h a c = trail_start start parent f ∙ sym (trail_start start parent h)
trail_fuel (leg m d r) zero h a c = absurd (omega arith)
trail_fuel (leg m d r) (suc f) zero a c = absurd (omega arith)
trail_fuel {start = start} {parent = parent} {v = v} (leg m d r) (suc f) (suc h) a c =
    trail_back start parent f v d
    ∙ ap (λ (l : List ℕ). l ++ (v ∷ [])) (trail_fuel r f h (omega arith) (omega arith))
    ∙ sym (trail_back start parent h v d)

-- the parents of more vertices lead back the same
pub back_longer : {n start : ℕ} {parent : List ℕ} (m : ℕ) (rest : List ℕ) → n ≤ m → n ≤ length parent → {v k : ℕ} → Back n start parent v k
    → Back m start (parent ++ rest) v k
back_longer m rest l h root = root
back_longer {n} {start} {parent} m rest l h (leg {v} {k} a d r) =
    let e : at (parent ++ rest) v ≡ at parent v = get_or-append parent rest 0 v (omega arith) in
    leg {v = v} {k = k} (omega arith) d (rw e (back_longer m rest l h r))

pub traced_longer : {n start : ℕ} {parent : List ℕ} {v : ℕ} (rest all : List ℕ) → all ≡ parent ++ rest → n ≤ length parent → Traced n start parent v
    → Traced (length all) start all v
traced_longer {n} {parent = parent} rest all e h T =
    let l : n ≤ length (parent ++ rest) = rw length-append (omega arith) in
    rw e (record { legs = T.legs; back = back_longer (length (parent ++ rest)) rest l h T.back; few = omega (arith, T.few) })
