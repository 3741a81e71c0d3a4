-- A job's refusals: the row of each and the way back, and how rows that refuse or pass are handed back. Assumes nothing.
use Prim.Native.Nat.{ℕ}
use mathlib.Core.Path.{◌≡◌, refl, sym, ap, ◌∙◌}
use mathlib.Core.Bool.{Bool, true, false, ◌&&◌, ◌||◌, cond, true≢false}
use native.Mathlib.Omega.{arith}
use lib.Dec.{leb, ltb, eqb}
use borrow.Author.Tests.{ltb-true, eqb-false, ne_eqb}
use Rattle.board.specs.Handed.{Verdict, passes, refused, and_then, Handed, answer, unless, judged}
use Rattle.board.proofs.Verdicts.{Within}
use Rattle.refusals.specs.declared.JobRefusal.{JobRefusal}
use Rattle.refusals.specs.declared.JobRefusal.TheVariants.{Long, Uneven, Order, Unknown, Side, Keepout, End}
use Rattle.refusals.specs.declared.JobRefusal.TheVariants.{Number, Late, Unused}
use Rattle.refusals.specs.Refusals.{refusal_row}

-- ---- each refusal

-- the numbers of a job's own rows
abbrev pub is_own : ℕ → Bool
is_own n = (leb 10 n && leb n 18) || eqb n 23

-- the refusal with this number and these places
abbrev pub refusal_of : (number place second : ℕ) → JobRefusal
refusal_of number place second =
    cond (eqb number 10) Long
    (cond (eqb number 11) Uneven
    (cond (eqb number 12) (Order place)
    (cond (eqb number 13) (Unknown place)
    (cond (eqb number 14) (Side place)
    (cond (eqb number 15) (Keepout place)
    (cond (eqb number 16) (End place)
    (cond (eqb number 17) (Number place) (cond (eqb number 18) (Late place) (Unused place second)))))))))

pub record Listed (why : JobRefusal) : Type 0 where
  pub number : ℕ
  pub place : ℕ
  pub second : ℕ
  pub row_is : refusal_row why ≡ refused number place second
  pub own : is_own number ≡ true
  pub back : refusal_of number place second ≡ why

entry : (why : JobRefusal) (number place second : ℕ) → refusal_row why ≡ refused number place second → is_own number ≡ true
    → refusal_of number place second ≡ why → Listed why
entry why number place second r o b =
    record { number = number; place = place; second = second; row_is = r; own = o; back = b }

pub listed : (why : JobRefusal) → Listed why
listed Long = entry Long 10 0 0 refl refl refl
listed Uneven = entry Uneven 11 0 0 refl refl refl
listed (Order i) = entry (Order i) 12 i 0 refl refl refl
listed (Unknown i) = entry (Unknown i) 13 i 0 refl refl refl
listed (Side i) = entry (Side i) 14 i 0 refl refl refl
listed (Keepout i) = entry (Keepout i) 15 i 0 refl refl refl
listed (End i) = entry (End i) 16 i 0 refl refl refl
listed (Number i) = entry (Number i) 17 i 0 refl refl refl
listed (Late i) = entry (Late i) 18 i 0 refl refl refl
listed (Unused i k) = entry (Unused i k) 23 i k refl refl refl

-- no other number is a job's
pub not_own : {why : JobRefusal} (k : Listed why) (m : ℕ) → is_own m ≡ false → eqb k.number m ≡ false
not_own k m e = ne_eqb k.number m (λ (q : k.number ≡ m). true≢false (sym k.own ∙ ap is_own q ∙ e))

-- ---- what rows hand back

-- rows of the table refuse with numbers above 0
abbrev pub Numbered : Verdict → Type 0
Numbered v = Within (ltb 0) v

same : {n p s n' p' s' : ℕ} → n' ≡ n → p' ≡ p → s' ≡ s → refused n p s ≡ refused n' p' s'
same a b c = rw (a, b, c)

module _ {Values : Type 0} (none : Values) where
  -- an answer: the rows pass, and the rest is handed back
  pub answered : (v : Verdict) → Numbered v → {given : Values} {rest : Handed Values} → answer given ≡ unless none v rest
      → (v ≡ passes) × (answer given ≡ rest)
  answered passes m e = (refl, e)
  answered (refused n p s) m e =
      let z : 0 ≡ n = ap (λ (h : Handed Values). h.number) e in absurd (omega (arith, ltb-true 0 n m))

  -- a refusal: it is the rows'
  pub refuses : (v : Verdict) (why : JobRefusal) (given : Values) → judged none (refusal_row why) ≡ unless none v (answer given) → v ≡ refusal_row why
  refuses passes why given e =
      let k = listed why in
      absurd (eqb-false k.number 0 (not_own k 0 refl) (ap (λ (h : Handed Values). h.number) (rw k.row_is at e)))
  refuses (refused n p s) why given e =
      let k = listed why in
      let f = rw k.row_is at e in
      same (ap (λ (h : Handed Values). h.number) f) (ap (λ (h : Handed Values). h.place) f) (ap (λ (h : Handed Values). h.second) f) ∙ sym k.row_is

  -- and it is handed back the same, whatever else is asked
  pub refused_same : {v : Verdict} (why : JobRefusal) (w : Verdict) (rest : Handed Values) → v ≡ refusal_row why
      → judged none (refusal_row why) ≡ unless none (and_then v w) rest
  refused_same why w rest e = rw (e, (listed why).row_is)
