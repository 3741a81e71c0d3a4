-- `least` is what it should be: an open vertex that no open vertex comes before, and the size only if none is open. Assumes nothing.
use mathlib.Core.Path.{◌≡◌, refl, sym, ◌∙◌}
use mathlib.Core.Bool.{Bool, true, false, ◌&&◌, ◌||◌, cond, false≢true, true≢false}
use Prim.Native.Nat.{ℕ, zero, suc, ◌≤◌, ◌<◌}
use native.Mathlib.Omega.{arith}
use native.Mathlib.Decide.{ℕ_discrete}
use lib.Dec.{eqb}
use borrow.Author.Tests.{eq-eqb, ne_eqb}
use Rattle.theta.specs.Order.{sooner, Contest, least}
use Rattle.theta.proofs.Order.{sooner_trans, sooner_irrefl}

-- v is open, and comes before r
abbrev pub Before : Contest → ℕ → ℕ → Type 0
Before C v r = (C.is_open v ≡ true) × (sooner (C.rank v) (C.rank r) ≡ true)

-- r is the size and none below k is open; or r is open, and none below k comes before it
pub data Chosen (C : Contest) (k r : ℕ) : Type 0 where
  nobody : r ≡ C.size → ((v : ℕ) → v < k → C.is_open v ≡ true → ⊥) → Chosen C k r
  somebody : r < k → C.is_open r ≡ true → ((v : ℕ) → v < k → Before C v r → ⊥) → Chosen C k r

-- what is false of k, and of those below k, is false of those below k + 1
each : {P : ℕ → Type 0} {k : ℕ} → (P k → ⊥) → ((v : ℕ) → v < k → P v → ⊥) → (v : ℕ) → v < suc k → P v → ⊥
each {P} {k} last f v l p = go (ℕ_discrete v k)
  where
    go : Dec (v ≡ k) → ⊥
    go (yes e) = last (rw e at p)
    go (no d) = f v (omega arith) p

module _ {C : Contest} {k : ℕ} (l : k < C.size) where
  next : {r : ℕ} → (b : Bool) → C.is_open k ≡ b → Chosen C k r
      → Chosen C (suc k) (cond (b && (eqb r C.size || sooner (C.rank k) (C.rank r))) k r)
  next false e (nobody z f) = nobody z (each {P = λ v. C.is_open v ≡ true} (λ o. false≢true (sym e ∙ o)) f)
  next {r} false e (somebody m o f) = somebody (omega arith) o (each {P = λ v. Before C v r} (λ q. false≢true (sym e ∙ q.0)) f)
  next {r} true e (nobody z f) =
      rw (eq-eqb r C.size z)
      (somebody (omega arith) e (each {P = λ v. Before C v k} (λ q. sooner_irrefl (C.rank k) q.1) (λ v i q. f v i q.0)))
  next {r} true e (somebody m o f) = rw (ne_eqb r C.size (λ z. omega arith)) (by (sooner (C.rank k) (C.rank r)) refl)
    where
      by : (x : Bool) → sooner (C.rank k) (C.rank r) ≡ x → Chosen C (suc k) (cond x k r)
      by true s =
          somebody (omega arith) e
          (each {P = λ v. Before C v k} (λ q. sooner_irrefl (C.rank k) q.1)
          (λ v i q. f v i (q.0, sooner_trans (C.rank v) (C.rank k) (C.rank r) q.1 s)))
      by false s = somebody (omega arith) o (each {P = λ v. Before C v r} (λ q. true≢false (sym q.1 ∙ s)) f)

pub least_chosen : (C : Contest) (k : ℕ) → k ≤ C.size → Chosen C k (least C k)
unfolding least
least_chosen C zero l = nobody refl (λ v m. absurd (omega arith))
least_chosen C (suc k) l = next (omega arith) (C.is_open k) refl (least_chosen C k (omega arith))

-- it depends on nothing but the vertices
pub least_same : (C C' : Contest) → C'.size ≡ C.size → ((v : ℕ) → v < C.size → C'.is_open v ≡ C.is_open v)
    → ((v : ℕ) → v < C.size → C'.rank v ≡ C.rank v) → (k : ℕ) → k ≤ C.size → least C' k ≡ least C k
unfolding least
least_same C C' e opens ranks zero l = e
least_same C C' e opens ranks (suc k) l =
    rw (least_same C C' e opens ranks k (omega arith), e, opens k (omega arith), ranks k (omega arith)) (go (least_chosen C k (omega arith)))
  where
    r : ℕ
    r = least C k

    go : Chosen C k r
        → cond (C.is_open k && (eqb r C.size || sooner (C.rank k) (C'.rank r))) k r
        ≡ cond (C.is_open k && (eqb r C.size || sooner (C.rank k) (C.rank r))) k r
    go (nobody z f) = rw (eq-eqb r C.size z) refl
    go (somebody m o f) = rw (ranks r (omega arith)) refl
