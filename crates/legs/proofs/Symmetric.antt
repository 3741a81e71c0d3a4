-- Sight is the same from either end. Assumes nothing.
use Prim.Native.Nat.{ℕ, ◌+◌, min, max}
use mathlib.Core.Path.{◌≡◌, refl, sym, ◌∙◌}
use mathlib.Core.Bool.{Bool, true, false, not, ◌&&◌, ◌||◌, and_comm}
use native.Mathlib.Omega.{arith}
use lib.Dec.{eqb}
use borrow.Author.Tests.{eqb-true, eq-eqb}
use Rattle.laws.specs.Below.{every}
use Rattle.laws.proofs.Below.{every_same}
use Rattle.laws.proofs.Tests.{same_test}
use Rattle.board.specs.Board.{Board}
use Rattle.legs.specs.Sight.{positive, negative, some_corner, spans, crossed, row_wall, column_wall, between, cells_free, edges_open, strictly_inside, vertices_open, sees}
use Rattle.legs.proofs.Corners.{corner_same}
use Rattle.legs.proofs.Sides.{positive_is, negative_is, turned}

min_swap : (a b : ℕ) → min a b ≡ min b a
min_swap a b = omega arith

max_swap : (a b : ℕ) → max a b ≡ max b a
max_swap a b = omega arith

pub eqb_swap : (a b : ℕ) → eqb a b ≡ eqb b a
eqb_swap a b =
    same_test (eqb a b) (eqb b a) (λ h. eq-eqb b a (sym (eqb-true a b h))) (λ h. eq-eqb a b (sym (eqb-true b a h)))

-- what is positive from one end is negative from the other
sides_swap : (ax ay bx by x y : ℕ) → positive ax ay bx by x y ≡ negative bx by ax ay x y
sides_swap ax ay bx by x y =
    let t = turned ax ay bx by x y in
    positive_is ax ay bx by x y ∙ sym (negative_is bx by ax ay x y ∙ rw (t.0, t.1))

crossed_swap : (ax ay bx by i j : ℕ) → crossed ax ay bx by i j ≡ crossed bx by ax ay i j
unfolding crossed spans
crossed_swap ax ay bx by i j =
    let p : some_corner (positive ax ay bx by) i j ≡ some_corner (negative bx by ax ay) i j = corner_same _ _ i j (sides_swap ax ay bx by) in
    let q : some_corner (positive bx by ax ay) i j ≡ some_corner (negative ax ay bx by) i j = corner_same _ _ i j (sides_swap bx by ax ay) in
    rw (
      p,
      q,
      min_swap ax bx,
      max_swap ax bx,
      min_swap ay by,
      max_swap ay by,
      and_comm (some_corner (negative ax ay bx by) i j) (some_corner (negative bx by ax ay) i j),
    )

between_swap : (a b k : ℕ) → between a b k ≡ between b a k
unfolding between
between_swap a b k = rw (min_swap a b, max_swap a b)

-- the edges of a leg whose ends have one coordinate in common, from either end
module _ (a b p q size : ℕ) (wall : ℕ → ℕ → Bool) where
  edges_swap : (not (eqb a b) || every size (λ (k : ℕ). not (between p q k && wall a k))) ≡ (not (eqb b a) || every size (λ (k : ℕ). not (between q p k && wall b k)))
  edges_swap = go (eqb a b) refl
    where
      go : (t : Bool) → eqb a b ≡ t → (not (eqb a b) || every size (λ (k : ℕ). not (between p q k && wall a k))) ≡ (not (eqb b a) || every size (λ (k : ℕ). not (between q p k && wall b k)))
      go true e = rw (sym (eqb_swap a b), e, sym (eqb-true a b e)) (every_same _ _ size (λ k. rw (between_swap p q k)))
      go false e = rw (sym (eqb_swap a b), e)

-- a point lies strictly inside from either end
inside_swap : (ax ay bx by x y : ℕ) → strictly_inside ax ay bx by x y ≡ strictly_inside bx by ax ay x y
unfolding strictly_inside
inside_swap ax ay bx by x y =
    rw (
      sides_swap ax ay bx by x y,
      ← sides_swap bx by ax ay x y,
      and_comm (not (negative bx by ax ay x y)) (not (positive bx by ax ay x y)),
      min_swap ax bx,
      max_swap ax bx,
      min_swap ay by,
      max_swap ay by,
      and_comm (not (eqb x ax && eqb y ay)) (not (eqb x bx && eqb y by)),
    )

pub sees_symmetric : (b : Board) (ax ay bx by : ℕ) → sees b ax ay bx by ≡ sees b bx by ax ay
unfolding sees cells_free edges_open vertices_open
sees_symmetric b ax ay bx by =
    let cells : cells_free b ax ay bx by ≡ cells_free b bx by ax ay =
    every_same _ _ b.height (λ j. every_same _ _ b.width (λ i. rw (crossed_swap ax ay bx by i j))) in
    let vertices : vertices_open b ax ay bx by ≡ vertices_open b bx by ax ay =
    every_same _ _ (b.height + 1) (λ y. every_same _ _ (b.width + 1) (λ x. rw (inside_swap ax ay bx by x y))) in
    rw (
      cells,
      edges_swap ay by ax bx b.width (λ (y x : ℕ). row_wall b x y),
      edges_swap ax bx ay by b.height (λ (x y : ℕ). column_wall b x y),
      vertices,
    )
