-- Leg after leg: single moves join the first vertex of a list to its last, where each has sight of the next. Assumes nothing.
use Prim.Native.Nat.{ℕ, ◌+◌, ◌≤◌, ◌<◌}
use mathlib.Core.Path.{◌≡◌, sym, subst, subst₂}
use mathlib.Core.Bool.{Bool, true}
use mathlib.Core.List.{List}
use native.Mathlib.Omega.{arith}
use Rattle.board.specs.Board.{Board, vertices, number, column, row}
use Rattle.board.proofs.Numbers.{number_back, column_on, row_on}
use Rattle.reach.specs.Reach.{Reach, here, move}
use Rattle.reach.specs.Turns.{at}
use Rattle.legs.specs.Pinched.{admitted}
use Rattle.legs.specs.Sight.{sees}
use Rattle.legs.specs.Neighbours.{visible}
use Rattle.legs.specs.Inner.{EndsOn}
use Rattle.joined.proofs.Steps.{by_steps}
use Rattle.joined.proofs.Legs.{leg_joined}

-- moves after moves
onwards : {near : ℕ → ℕ → Bool} {s u v : ℕ} → Reach near s u → Reach near u v → Reach near s v
onwards r here = r
onwards r (move t e) = move (onwards r t) e

-- vertices by their numbers, as the ends of a leg
numbers_on : (b : Board) (u v : ℕ) → u < vertices b → v < vertices b → EndsOn b (column b u) (row b u) (column b v) (row b v)
numbers_on b u v hu hv = record {
  first = record { x_on = column_on b.width u; y_on = row_on b.width b.height u hu };
  second = record { x_on = column_on b.width v; y_on = row_on b.width b.height v hv };
}

module _ (b : Board) (start goal : ℕ) where
  -- a leg by the numbers of its ends
  pub numbers_joined : (u v : ℕ) → u < vertices b → v < vertices b → sees b (column b u) (row b u) (column b v) (row b v) ≡ true
      → admitted b start goal u ≡ true → admitted b start goal v ≡ true → Reach (visible b start goal) u v
  numbers_joined u v hu hv seen f g =
      let back : (w : ℕ) → number b (column b w) (row b w) ≡ w = number_back b.width in
      let through : (w : ℕ) → admitted b start goal w ≡ true → admitted b start goal (number b (column b w) (row b w)) ≡ true =
      λ w h. subst (λ (z : ℕ). admitted b start goal z ≡ true) (sym (back w)) h in
      subst₂ (λ (s t : ℕ). Reach (visible b start goal) s t) (back u) (back v)
      (leg_joined b start goal (column b u) (row b u) (column b v) (row b v) (numbers_on b u v hu hv) seen (through u f) (through v g))

  -- the first n legs of a list
  pub list_joined : (path : List ℕ) (n : ℕ) → ((i : ℕ) → i ≤ n → at path i < vertices b)
      → ((i : ℕ) → i < n → sees b (column b (at path i)) (row b (at path i)) (column b (at path (i + 1))) (row b (at path (i + 1))) ≡ true)
      → ((i : ℕ) → i ≤ n → admitted b start goal (at path i) ≡ true) → Reach (visible b start goal) (at path 0) (at path n)
  list_joined path n on seen through =
      by_steps (λ (i : ℕ). Reach (visible b start goal) (at path 0) (at path i)) n here (λ i l r.
      onwards r (numbers_joined (at path i) (at path (i + 1)) (on i (omega arith)) (on (i + 1) (omega arith)) (seen i l) (through i (omega arith)) (through (i + 1) (omega arith))))
