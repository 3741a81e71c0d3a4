-- How many pairs pass a test, and that "the number of" is one number. Assumes nothing.
use mathlib.Core.Path.{◌≡◌, refl, sym, ap₂, ◌∙◌}
use mathlib.Core.Bool.{Bool, true, false}
use Prim.Native.Nat.{ℕ, zero, suc, ◌+◌, ◌*◌, ◌≤◌, ◌<◌}
use native.Mathlib.Omega.{arith}
use Rattle.laws.proofs.Tests.{same_test}
use Rattle.laws.proofs.Below.{many_le, many_same, many_mono, many_none}
use Rattle.reach.specs.Number.{pairs, Number, Number²}

-- ---- pairs

pub pairs_le : (n : ℕ) (p : ℕ → ℕ → Bool) → pairs n p ≤ n * n
pairs_le zero p = omega arith
pairs_le (suc n) p = omega (arith, many_le (λ u. p u n) n, pairs_le n p)

pub pairs_same : (n : ℕ) (p q : ℕ → ℕ → Bool) → ((u v : ℕ) → u < v → v < n → p u v ≡ q u v) → pairs n p ≡ pairs n q
pairs_same zero p q h = refl
pairs_same (suc n) p q h =
    ap₂ ◌+◌ (many_same (λ u. p u n) (λ u. q u n) n (λ u l. h u n l (omega arith))) (pairs_same n p q (λ u v l k. h u v l (omega arith)))

pub pairs_mono : (n : ℕ) (p q : ℕ → ℕ → Bool) → ((u v : ℕ) → u < v → v < n → p u v ≡ true → q u v ≡ true) → pairs n p ≤ pairs n q
pairs_mono zero p q h = omega arith
pairs_mono (suc n) p q h = omega (
  arith,
  many_mono (λ u. p u n) (λ u. q u n) n (λ u l. h u n l (omega arith)),
  pairs_mono n p q (λ u v l k. h u v l (omega arith)),
)

pub pairs_none : (n : ℕ) (p : ℕ → ℕ → Bool) → ((u v : ℕ) → u < v → v < n → p u v ≡ false) → pairs n p ≡ 0
pairs_none zero p h = refl
pairs_none (suc n) p h =
    omega (arith, many_none (λ u. p u n) n (λ u l. h u n l (omega arith)), pairs_none n p (λ u v l k. h u v l (omega arith)))

-- ---- the number of the vertices, and of the pairs, with a property is one number

pub number_unique : {n : ℕ} {P : ℕ → Type 0} {k k' : ℕ} → Number n P k → Number n P k' → k ≡ k'
number_unique {n} (p, d, e) (p', d', e') =
    e
    ∙ many_same p p' n
    (λ v l. same_test (p v) (p' v) (λ h. d'.has_yes v l (d.yes_has v l h)) (λ h. d.has_yes v l (d'.yes_has v l h)))
    ∙ sym e'

pub number²-unique : {n : ℕ} {P : ℕ → ℕ → Type 0} {k k' : ℕ} → Number² n P k → Number² n P k' → k ≡ k'
number²-unique {n} (p, d, e) (p', d', e') =
    e
    ∙ pairs_same n p p'
    (λ u v l m. same_test (p u v) (p' u v) (λ h. d'.has_yes u v l m (d.yes_has u v l m h)) (λ h. d.has_yes u v l m (d'.yes_has u v l m h)))
    ∙ sym e'
