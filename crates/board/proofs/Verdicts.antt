-- Rows of the table, one after the other: the first that refuses decides, and what passes as a whole passes row by row. Assumes nothing.
use mathlib.Core.Path.{◌≡◌, refl, sym, ap, ◌∙◌}
use mathlib.Core.Bool.{Bool, true, false}
use Prim.Native.Nat.{ℕ}
use native.Mathlib.Omega.{arith}
use Rattle.std.specs.Prelude.{Result, Ok, Err}
use Rattle.board.specs.declared.Refusal.{Refusal}
use Rattle.board.specs.declared.Refusal.TheVariants.{Side, Count, Byte, First, Second}
use Rattle.board.specs.Handed.{Verdict, passes, refused, row, and_then, Handed, unless, judged, refusal_row, verdict}

-- a refusal does not pass
pub no_pass : {n p s : ℕ} → refused n p s ≡ passes → ⊥
no_pass e = let z : ◌≡◌ {A = ℕ} 0 1 = cc in omega arith

-- a row that passes has a condition that does not hold
pub row_passes : (condition : Bool) (n p : ℕ) → row condition n p ≡ passes → condition ≡ false
row_passes true n p e = absurd (no_pass e)
row_passes false n p e = refl

-- rows that pass together pass each
pub both_pass : (v w : Verdict) → and_then v w ≡ passes → (v ≡ passes) × (w ≡ passes)
both_pass passes w e = (refl, e)
both_pass (refused n p s) w e = absurd (no_pass e)

-- after rows that pass, the others decide
pub passes_on : {v : Verdict} (w : Verdict) → v ≡ passes → and_then v w ≡ w
passes_on w e = ap (λ (v : Verdict). and_then v w) e

-- where rows refuse, the others do not matter
pub refusal_first : (why : Refusal) (w : Verdict) → and_then (refusal_row why) w ≡ refusal_row why
refusal_first Side w = refl
refusal_first Count w = refl
refusal_first (Byte at) w = refl
refusal_first First w = refl
refusal_first Second w = refl

pub refuses_on : {v : Verdict} (why : Refusal) (w : Verdict) → refusal_row why ≡ v → refusal_row why ≡ and_then v w
refuses_on why w e = sym (refusal_first why w) ∙ ap (λ (v : Verdict). and_then v w) e

-- ---- an answer, and what is handed back by it

pub accepted : {A E : Type 0} (row_of : E → Verdict) {r : Result A E} {a : A} {v : Verdict} → r ≡ Ok a → verdict row_of r ≡ v → v ≡ passes
accepted row_of g e = sym e ∙ ap (verdict row_of) g

pub refused_row : {A E : Type 0} (row_of : E → Verdict) {r : Result A E} {why : E} {v : Verdict} → r ≡ Err why → verdict row_of r ≡ v → row_of why ≡ v
refused_row row_of g e = sym (ap (verdict row_of) g) ∙ e

-- an answer that refuses does so whatever comes after
pub checked_refuses : {A : Type 0} {r : Result A Refusal} {why : Refusal} {v : Verdict} (w : Verdict) → r ≡ Err why → verdict refusal_row r ≡ v
    → verdict refusal_row r ≡ and_then v w
checked_refuses {why = why} w e f = ap (verdict refusal_row) e ∙ refuses_on why w (refused_row refusal_row e f)

-- a refusal is handed back alike, whatever would have come after it
pub refusal_handed : {Values : Type 0} (none : Values) (why : Refusal) {v : Verdict} (rest : Handed Values) → refusal_row why ≡ v
    → judged none (refusal_row why) ≡ unless none v rest
refusal_handed {Values} none why rest e = alike why ∙ ap (λ (v : Verdict). unless none v rest) e
  where
    alike : (w : Refusal) → judged none (refusal_row w) ≡ unless none (refusal_row w) rest
    alike Side = refl
    alike Count = refl
    alike (Byte at) = refl
    alike First = refl
    alike Second = refl

-- ---- which numbers some rows may refuse with

-- if they refuse, the number passes the test
abbrev pub Within : (ℕ → Bool) → Verdict → Type 0
Within test passes = Unit {0}
Within test (refused n p s) = test n ≡ true

pub row_within : (test : ℕ → Bool) (condition : Bool) (n p : ℕ) → test n ≡ true → Within test (row condition n p)
row_within test true n p e = e
row_within test false n p e = tt

pub then_within : (test : ℕ → Bool) (v w : Verdict) → Within test v → Within test w → Within test (and_then v w)
then_within test passes w a b = b
then_within test (refused n p s) w a b = a
