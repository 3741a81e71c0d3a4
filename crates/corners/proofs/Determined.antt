-- The contract of `path_points` admits one result, and one content of each lent slice. Assumes nothing.
use Prim.Native.Nat.{ℕ}
use mathlib.Core.Path.{◌≡◌, refl, sym, ◌∙◌}
use mathlib.Core.Bool.{cond}
use mathlib.Core.List.{List}
use lib.Dec.{eqb}
use Rattle.laws.proofs.Determined.{undone}
use Rattle.board.specs.Handed.{Verdict, passes, refused}
use Rattle.std.specs.Prelude.{Result, Ok, Err}
use Rattle.corners.specs.declared.PointsRefusal.{PointsRefusal}
use Rattle.corners.specs.declared.PointsRefusal.TheVariants.{Side, Off, Short}
use Rattle.corners.specs.Corners.{said_points, PointsTold}

-- the answer that says this
answer_of : Verdict → Result (Unit {0}) PointsRefusal
answer_of passes = Ok tt
answer_of (refused number place second) = Err (cond (eqb number 1) Side (cond (eqb number 4) Off Short))

answer_back : (r : Result (Unit {0}) PointsRefusal) → answer_of (said_points r) ≡ r
unfolding answer_of
answer_back (Ok a) = refl
answer_back (Err Side) = refl
answer_back (Err Off) = refl
answer_back (Err Short) = refl

pub points_determined : (path : List ℕ) (width : ℕ) (xs ys : List ℕ) {r s : Result (Unit {0}) PointsRefusal} {xs₁ ys₁ xs₂ ys₂ : List ℕ}
    → PointsTold path width xs ys (said_points r) xs₁ ys₁ → PointsTold path width xs ys (said_points s) xs₂ ys₂
    → (r ≡ s) × (xs₁ ≡ xs₂) × (ys₁ ≡ ys₂)
points_determined path width xs ys p q =
    (undone said_points answer_of answer_back p.row_is q.row_is, p.xs_are ∙ sym q.xs_are, p.ys_are ∙ sym q.ys_are)
