-- The checks' contracts admit one result: two answers with the same verdict are equal. Assumes nothing.
use mathlib.Core.Path.{◌≡◌, refl}
use mathlib.Core.Bool.{cond}
use Prim.Native.Nat.{ℕ}
use lib.Dec.{eqb}
use Rattle.laws.proofs.Determined.{undone}
use Rattle.board.specs.declared.Refusal.{Refusal}
use Rattle.board.specs.declared.Refusal.TheVariants.{Side, Count, Byte, First, Second}
use Rattle.std.specs.Prelude.{Result, Ok, Err}
use Rattle.board.specs.Handed.{Verdict, passes, refused, refusal_row, verdict}

-- the refusal with this number and place
abbrev pub refusal_of : (number place : ℕ) → Refusal
refusal_of number place =
    cond (eqb number 1) Side (cond (eqb number 2) Count (cond (eqb number 3) (Byte place) (cond (eqb number 4) First Second)))

-- the answer with this verdict
checked_of : Verdict → Result (Unit {0}) Refusal
checked_of passes = Ok tt
checked_of (refused number place second) = Err (refusal_of number place)

back : (r : Result (Unit {0}) Refusal) → checked_of (verdict refusal_row r) ≡ r
unfolding checked_of
back (Ok a) = refl
back (Err Side) = refl
back (Err Count) = refl
back (Err (Byte at)) = refl
back (Err First) = refl
back (Err Second) = refl

-- of `check_board` and `check_leg`
pub checked_determined : {r s : Result (Unit {0}) Refusal} {v : Verdict} → verdict refusal_row r ≡ v → verdict refusal_row s ≡ v → r ≡ s
checked_determined = undone (verdict refusal_row) checked_of back
