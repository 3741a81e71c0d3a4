-- A path's units against its true length: each leg is rounded down, and the sum falls short by less than one unit per leg. Assumes nothing.
use mathlib.Core.Path.{◌≡◌, refl}
use mathlib.Core.List.{List, [], ◌∷◌}
use Prim.Native.Nat.{ℕ, ◌+◌, ◌-◌, ◌*◌, ◌^◌, ◌≤◌, ◌<◌}
use native.Mathlib.Nat.{mul-add}
use native.Mathlib.Omega.{arith}
use lib.ListN.{length}
use Rattle.board.specs.Board.{Board}
use Rattle.length.specs.Units.{units_of}
use Rattle.root.proofs.Root.{finer_low, finer_high}
use Rattle.length.proofs.Units.{units_bounds}
use Rattle.reach.specs.Turns.{at}
use Rattle.theta.specs.Demands.{units_along}
use Rattle.problem.specs.Problem.{problem, square_from, finer_along, RoundedDown}

module _ (b : Board) (sx sy gx gy : ℕ) where
  finer_low_along : (m : ℕ) (l : List ℕ) → m * units_along (problem b sx sy gx gy) l ≤ finer_along m b l
  unfolding problem units_of
  finer_low_along m [] = omega arith
  finer_low_along m (v ∷ []) = omega arith
  finer_low_along m (v ∷ (w ∷ l)) =
      let n = square_from b v w * 2 ^ 40 in
      omega (arith, finer_low m n, finer_low_along m (w ∷ l), mul-add m (units_of (square_from b v w)) (units_along (problem b sx sy gx gy) (w ∷ l)))

  -- each leg is at least one part short of its units and one unit more
  finer_high_along : (m : ℕ) → 0 < m → (v : ℕ) (l : List ℕ)
      → finer_along m b (v ∷ l) + length l ≤ m * (units_along (problem b sx sy gx gy) (v ∷ l) + length l)
  unfolding problem units_of
  finer_high_along m p v [] = omega arith
  finer_high_along m p v (w ∷ l) =
      let n = square_from b v w * 2 ^ 40 in
      omega (arith, finer_high m n p, finer_high_along m p w l)

  pub path_rounded : (l : List ℕ) → RoundedDown b l (units_along (problem b sx sy gx gy) l)
  path_rounded l = record {
    each = λ i _. units_bounds (square_from b (at l i) (at l (i + 1)));
    at_most = λ m. finer_low_along m l;
    above = λ m p. above m p l;
    none = λ m. none m l;
  }
    where
      above : (m : ℕ) → 0 < m → (l : List ℕ) → 1 < length l → finer_along m b l < m * (units_along (problem b sx sy gx gy) l + (length l - 1))
      above m p [] h = absurd (omega arith)
      above m p (v ∷ l) h =
          let e : length (v ∷ l) - 1 ≡ length l = omega arith in
          rw e (omega (arith, finer_high_along m p v l))

      none : (m : ℕ) (l : List ℕ) → length l ≤ 1 → (units_along (problem b sx sy gx gy) l ≡ 0) × (finer_along m b l ≡ 0)
      none m [] h = (refl, refl)
      none m (v ∷ []) h = (refl, refl)
      none m (v ∷ (w ∷ l)) h = absurd (omega arith)
