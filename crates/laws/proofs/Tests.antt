-- What tests say: `not`, `&&`, `||`, and two numbers in order. Assumes nothing.
use mathlib.Core.Path.{◌≡◌, refl, sym, ◌∙◌}
use mathlib.Core.Logic.{◌⊎◌, inl, inr}
use mathlib.Core.Bool.{Bool, true, false, not, ◌&&◌, ◌||◌, false≢true, true≢false}
use Prim.Native.Nat.{ℕ, ◌≤◌, ◌<◌}
use native.Mathlib.Decide.{dec_lt}
use native.Mathlib.Omega.{arith}
use borrow.Author.Tests.{not-true, not-false}

pub order : (a b : ℕ) → (a < b) ⊎ (b ≤ a)
order a b = elim (dec_lt a b) [ yes h ↦ inl h | no n ↦ inr (omega arith) ]

pub bool_cases : (x : Bool) → (x ≡ true) ⊎ (x ≡ false)
bool_cases true = inl refl
bool_cases false = inr refl

pub and_both : {a b : Bool} → a ≡ true → b ≡ true → (a && b) ≡ true
and_both p q = rw (p, q)

pub and_left : (a b : Bool) → (a && b) ≡ true → a ≡ true
and_left true b h = refl
and_left false b h = h

pub and_right : (a b : Bool) → (a && b) ≡ true → b ≡ true
and_right true b h = h
and_right false b h = absurd (false≢true h)

pub and_false : (a : Bool) {b : Bool} → b ≡ false → (a && b) ≡ false
and_false true h = h
and_false false h = refl

pub or_cases : (a b : Bool) → (a || b) ≡ true → (a ≡ true) ⊎ (b ≡ true)
or_cases true b h = inl refl
or_cases false b h = inr h

pub or_left : {a : Bool} (b : Bool) → a ≡ true → (a || b) ≡ true
or_left b p = rw p

pub or_right : (a : Bool) {b : Bool} → b ≡ true → (a || b) ≡ true
or_right true p = refl
or_right false p = p

pub or_neither : (a b : Bool) → (a || b) ≡ false → (a ≡ false) × (b ≡ false)
or_neither true b h = absurd (true≢false h)
or_neither false b h = (refl, h)

pub or_false : (a : Bool) → (a || false) ≡ a
or_false true = refl
or_false false = refl

pub false_of : (a : Bool) → (a ≡ true → ⊥) → a ≡ false
false_of true f = absurd (f refl)
false_of false f = refl

pub not_of : (a : Bool) → (a ≡ true → ⊥) → not a ≡ true
not_of true f = absurd (f refl)
not_of false f = refl

pub not_both : (a b : Bool) → not (a && b) ≡ true → a ≡ true → b ≡ true → ⊥
not_both true true h p q = false≢true h
not_both true false h p q = false≢true q
not_both false b h p q = false≢true p

-- a call answered r for the test t: what a branch on `!r` says of t
pub answered_no : {r t : Bool} → r ≡ t → not r ≡ true → t ≡ false
answered_no e h = sym e ∙ not-true _ h

pub answered_yes : {r t : Bool} → r ≡ t → not r ≡ false → t ≡ true
answered_yes e h = sym e ∙ not-false _ h

-- two tests with the same yes are the same
pub same_test : (a b : Bool) → (a ≡ true → b ≡ true) → (b ≡ true → a ≡ true) → a ≡ b
same_test true b f g = sym (f refl)
same_test false true f g = g refl
same_test false false f g = refl
