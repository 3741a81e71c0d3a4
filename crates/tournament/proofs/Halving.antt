-- The climb from a node by halves: it ends at the root, and a node stands above what its two children stand above. Assumes nothing.
use mathlib.Core.Path.{◌≡◌, refl, sym, ◌∙◌}
use mathlib.Core.Logic.{◌⊎◌, inl, inr, ◌≢◌, ⊎_elim}
use Prim.Native.Nat.{ℕ, zero, suc, ◌+◌, ◌-◌, ◌*◌, ◌/◌, ◌%◌, ◌≤◌, ◌<◌}
use native.Mathlib.Omega.{arith}
use native.Mathlib.Decide.{ℕ_discrete}
use lib.Bits.{bit_xor, differ, xor_step, xor_zero_r}
use Rattle.tournament.specs.Tournament.{Under, here, above}

-- the climb does not rise
pub under_le : {j i : ℕ} → Under j i → j ≤ i
under_le here = omega arith
under_le (above u) = omega (arith, under_le u)

-- it is there, or goes on
pub under_cases : {j i : ℕ} → Under j i → (j ≡ i) ⊎ Under j (i / 2)
under_cases here = inl refl
under_cases (above u) = inr u

-- it goes on from where it comes by
pub under_half : {j i : ℕ} → Under j i → Under (j / 2) i
under_half here = above here
under_half (above u) = above (under_half u)

pub under_trans : {i j k : ℕ} → Under i j → Under j k → Under i k
under_trans u here = u
under_trans u (above v) = above (under_trans u v)

-- whether it comes by j
pub under? : (k j i : ℕ) → i ≤ k → Dec (Under j i)
under? zero j i l = go (ℕ_discrete j i)
  where
    go : Dec (j ≡ i) → Dec (Under j i)
    go (yes e) = yes (rw e here)
    go (no d) = no (λ u. d (let e : j ≡ i = omega (arith, under_le u) in e))
under? (suc k) j i l = go (ℕ_discrete j i) (under? k j (i / 2) (omega arith))
  where
    go : Dec (j ≡ i) → Dec (Under j (i / 2)) → Dec (Under j i)
    go (yes e) h = yes (rw e here)
    go (no d) (yes u) = yes (above u)
    go (no d) (no x) = no (λ u. ⊎_elim d x (under_cases u))

-- every climb ends at the root
pub under_root : (k i : ℕ) → i ≤ k → 0 < i → Under 1 i
under_root zero i l p = absurd (omega arith)
under_root (suc k) i l p = go (ℕ_discrete 1 i) (under_root k (i / 2) (omega arith))
  where
    go : Dec (1 ≡ i) → (0 < i / 2 → Under 1 (i / 2)) → Under 1 i
    go (yes e) up = rw (sym e) here
    go (no d) up = above (up (omega arith))

-- from below i it comes to i by one of the two children, c and its sibling
pub under_child : {i l : ℕ} (c d : ℕ) → c / 2 ≡ i → d / 2 ≡ i → c ≢ d → i < l → Under i l → Under c l ⊎ Under d l
under_child c d p q x h here = absurd (omega arith)
under_child {i} {l} c d p q x h (above u) = go (ℕ_discrete i (l / 2)) (ℕ_discrete c l) (λ k. under_child c d p q x k u)
  where
    go : Dec (i ≡ l / 2) → Dec (c ≡ l) → (i < l / 2 → Under c (l / 2) ⊎ Under d (l / 2)) → Under c l ⊎ Under d l
    go (yes e) (yes z) up = inl (rw z here)
    go (yes e) (no z) up = let k : d ≡ l = omega arith in inr (rw k here)
    go (no e) z up = ⊎_elim (λ v. inl (above v)) (λ v. inr (above v)) (up (omega (arith, under_le u)))

-- the other child of a node's parent, by its last binary digit
pub sibling_is : (i : ℕ) → bit_xor i 1 ≡ i / 2 * 4 + 1 - i
sibling_is i = xor_step i 1 ∙ rw (xor_zero_r (i / 2)) (go (ℕ_discrete (i % 2) 0))
  where
    go : Dec (i % 2 ≡ 0) → i / 2 * 2 + differ (i % 2) 1 ≡ i / 2 * 4 + 1 - i
    go (yes e) = rw e (omega arith)
    go (no d) = let e : i % 2 ≡ 1 = omega arith in rw e (omega arith)
