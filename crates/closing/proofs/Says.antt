-- A test says whether a fact holds; so do tests joined by `||` and `&&`. Assumes nothing.
use mathlib.Core.Path.{◌≡◌, refl}
use mathlib.Core.Logic.{◌⊎◌, inl, inr, ⊎_elim, ◌≢◌}
use mathlib.Core.Bool.{Bool, true, false, not, ◌&&◌, ◌||◌, true≢false}
use Prim.Native.Nat.{ℕ, ◌<◌}
use native.Mathlib.Omega.{arith}
use lib.Dec.{ltb, leb, eqb}
use borrow.Author.Tests.{ltb-true, ltb-false, leb-true, leb-false, eqb-true, eqb-false, not-true, not-false}

pub record Says (test : Bool) (Fact : Type 0) : Type 0 where
  pub yes : test ≡ true → Fact
  pub no : test ≡ false → Fact → ⊥

pub says_below : (a b : ℕ) → Says (ltb a b) (a < b)
says_below a b = record { yes = ltb-true a b; no = λ e l. omega (arith, ltb-false a b e) }

pub says_above : (a b : ℕ) → Says (not (leb a b)) (b < a)
says_above a b = record { yes = λ e. leb-false a b (not-true (leb a b) e); no = λ e l. omega (arith, leb-true a b (not-false (leb a b) e)) }

pub says_zero : (n : ℕ) → Says (not (leb 1 n)) (n ≡ 0)
says_zero n = record {
  yes = λ e. omega (arith, leb-false 1 n (not-true (leb 1 n) e));
  no = λ e l. omega (arith, leb-true 1 n (not-false (leb 1 n) e));
}

pub says_differ : (a b : ℕ) → Says (not (eqb a b)) (a ≢ b)
says_differ a b = record { yes = λ e. eqb-false a b (not-true (eqb a b) e); no = λ e d. d (eqb-true a b (not-false (eqb a b) e)) }

module _ {P Q : Type 0} where
  pub says_either : (t u : Bool) → Says t P → Says u Q → Says (t || u) (P ⊎ Q)
  says_either true u A B = record { yes = λ e. inl (A.yes refl); no = λ e. absurd (true≢false e) }
  says_either false u A B = record { yes = λ e. inr (B.yes e); no = λ e. ⊎_elim (A.no refl) (B.no e) }

  pub says_not_both : (t u : Bool) → Says (not t) P → Says (not u) Q → Says (not (t && u)) (P ⊎ Q)
  says_not_both true u A B = record { yes = λ e. inr (B.yes e); no = λ e. ⊎_elim (A.no refl) (B.no e) }
  says_not_both false u A B = record { yes = λ e. inl (A.yes refl); no = λ e. absurd (true≢false e) }
