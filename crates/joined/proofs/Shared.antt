-- The vertex that two free cells side by side share is not pinched. Assumes nothing.
use Prim.Native.Nat.{ℕ, ◌+◌, ◌-◌, ◌≤◌, ◌<◌}
use mathlib.Core.Path.{◌≡◌, refl}
use mathlib.Core.Logic.{⊎_elim}
use mathlib.Core.Bool.{Bool, true, false}
use native.Mathlib.Nat.{eq-or-lt_of_le}
use native.Mathlib.Omega.{arith}
use Rattle.laws.proofs.Tests.{and_false}
use Rattle.board.specs.Board.{Board, blocked}
use Rattle.legs.specs.Pinched.{on_inside, crosswise, pinched}
use Rattle.legs.specs.Leg.{far, vertex_at, cell_at}
use Rattle.legs.proofs.Pinches.{cells_beside}

-- ---- two of the four cells round a vertex free: those below it, left of it and right of it

free_below : (nw ne : Bool) → crosswise nw ne false false ≡ false
free_below true true = refl
free_below true false = refl
free_below false true = refl
free_below false false = refl

free_left : (ne se : Bool) → crosswise false ne false se ≡ false
free_left true se = refl
free_left false se = refl

free_right : (nw sw : Bool) → crosswise nw false sw false ≡ false
free_right true sw = refl
free_right false sw = refl

module _ (b : Board) (x y : ℕ) where
  not_crosswise : crosswise (blocked b (x - 1) (y - 1)) (blocked b x (y - 1)) (blocked b (x - 1) y) (blocked b x y) ≡ false → pinched b x y ≡ false
  unfolding pinched
  not_crosswise = and_false (on_inside b x y)

  -- a free cell left and right of it, in the row j above or below it
  beside_free : (j : ℕ) → j ≤ y → y ≤ j + 1 → blocked b (x - 1) j ≡ false → blocked b x j ≡ false → pinched b x y ≡ false
  beside_free j h k p q =
      ⊎_elim
      (λ (e : j ≡ y). not_crosswise (rw (← e, p, q) (free_below (blocked b (x - 1) (j - 1)) (blocked b x (j - 1)))))
      (λ (l : j < y). let z : y - 1 ≡ j = omega arith in not_crosswise (rw (z, p, q)))
      (eq-or-lt_of_le h)

  -- a free cell above and below it, in the column i left or right of it
  above_free : (i : ℕ) → i ≤ x → x ≤ i + 1 → blocked b i (y - 1) ≡ false → blocked b i y ≡ false → pinched b x y ≡ false
  above_free i h k p q =
      ⊎_elim
      (λ (e : i ≡ x). not_crosswise (rw (← e, p, q) (free_right (blocked b (i - 1) (y - 1)) (blocked b (i - 1) y))))
      (λ (l : i < x). let z : x - 1 ≡ i = omega arith in not_crosswise (rw (z, p, q) (free_left (blocked b x (y - 1)) (blocked b x y))))
      (eq-or-lt_of_le h)

-- ---- the vertex s + 1 steps along an axis from p to q, between the cells of two steps

module _ (p q s : ℕ) (hs : s + 1 < far p q) where
  both_free : (line : ℕ → Bool) → line (cell_at p q s) ≡ false → line (cell_at p q (s + 1)) ≡ false
      → (line (vertex_at p q (s + 1) - 1) ≡ false) × (line (vertex_at p q (s + 1)) ≡ false)
  both_free line f g =
      ⊎_elim (λ e. (rw e.0 f, rw e.1 g)) (λ e. (rw e.0 g, rw e.1 f)) (cells_beside p q s hs)

  -- of the row j of cells, above or below the vertex
  pub beside_unpinched : (b : Board) (y j : ℕ) → j ≤ y → y ≤ j + 1 → blocked b (cell_at p q s) j ≡ false → blocked b (cell_at p q (s + 1)) j ≡ false
      → pinched b (vertex_at p q (s + 1)) y ≡ false
  beside_unpinched b y j h k f g =
      let w = both_free (λ (i : ℕ). blocked b i j) f g in
      beside_free b (vertex_at p q (s + 1)) y j h k w.0 w.1

  -- of the column i of cells, left or right of it
  pub above_unpinched : (b : Board) (x i : ℕ) → i ≤ x → x ≤ i + 1 → blocked b i (cell_at p q s) ≡ false → blocked b i (cell_at p q (s + 1)) ≡ false
      → pinched b x (vertex_at p q (s + 1)) ≡ false
  above_unpinched b x i h k f g =
      let w = both_free (λ (j : ℕ). blocked b i j) f g in
      above_free b x (vertex_at p q (s + 1)) i h k w.0 w.1
