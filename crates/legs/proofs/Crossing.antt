-- Which cells a leg crosses, counted in columns and rows from its first end. Assumes nothing.
use Prim.Native.Nat.{ℕ, ◌+◌, ◌*◌, ◌≤◌, ◌<◌, min, max}
use mathlib.Core.Path.{◌≡◌, sym, ◌∙◌}
use mathlib.Core.Logic.{◌⊎◌, inl, inr, ⊎_elim}
use mathlib.Core.Bool.{Bool, true, ◌&&◌}
use native.Mathlib.Nat.{mul-le-mul_left}
use native.Mathlib.Omega.{arith}
use borrow.Author.Tests.{lt-ltb, ltb-true}
use lib.Dec.{ltb}
use Rattle.laws.proofs.Tests.{order, and_both, and_left, and_right}
use Rattle.legs.specs.Sight.{positive, negative, some_corner, spans, crossed}
use Rattle.legs.specs.Leg.{far, vertex_at, cell_at}
use Rattle.legs.proofs.Corners.{CornerOf, corner_same, corner_of_lem, corner_at}
use Rattle.legs.proofs.Axis.{Within, axis_corner, axis_within, axis_near, axis_next, axis_spans, axis_of}
use Rattle.legs.proofs.Sides.{plus, minus, positive_is, negative_is}

-- ---- by how far a point is over or under the leg, in each of its four directions

-- the product of two differences, both the same way
areas : (x y z w n t : ℕ) → x ≡ y + n → z ≡ w + t → x * z + y * w ≡ x * w + y * z + n * t
areas x y z w n t e f = rw (e, f) (omega arith)

-- what is added to the side and what is taken away, or the other way round
abbrev pub Height : (over under : ℕ → ℕ → ℕ) (ax ay bx by : ℕ) → Type 0
Height over under ax ay bx by =
    (px py : ℕ) → Within ax bx px → Within ay by py → over px py + far ay by * far ax px ≡ under px py + far ax bx * far ay py

pub heights : (ax ay bx by : ℕ) → Height (plus ax ay bx by) (minus ax ay bx by) ax ay bx by ⊎ Height (minus ax ay bx by) (plus ax ay bx by) ax ay bx by
unfolding plus minus
heights ax ay bx by =
    ⊎_elim
    (λ (l : ax < bx). ⊎_elim
    (λ (k : ay < by). inl (λ px py X Y. omega (
      arith,
      areas bx ax py ay (far ax bx) (far ay py) (omega arith) (omega arith),
      areas by ay px ax (far ay by) (far ax px) (omega arith) (omega arith),
    )))
    (λ (k : by ≤ ay). inr (λ px py X Y. omega (
      arith,
      areas bx ax ay py (far ax bx) (far ay py) (omega arith) (omega arith),
      areas ay by px ax (far ay by) (far ax px) (omega arith) (omega arith),
    )))
    (order ay by))
    (λ (l : bx ≤ ax). ⊎_elim
    (λ (k : ay < by). inr (λ px py X Y. omega (
      arith,
      areas ax bx py ay (far ax bx) (far ay py) (omega arith) (omega arith),
      areas by ay ax px (far ay by) (far ax px) (omega arith) (omega arith),
    )))
    (λ (k : by ≤ ay). inl (λ px py X Y. omega (
      arith,
      areas ax bx ay py (far ax bx) (far ay py) (omega arith) (omega arith),
      areas ay by ax px (far ay by) (far ax px) (omega arith) (omega arith),
    )))
    (order ay by))
    (order ax bx)

-- a leg of n columns and m rows crosses the cell u columns and v rows from its first end exactly if both hold
abbrev pub Crosses : (n m u v : ℕ) → Type 0
Crosses n m u v = (m * u < n * (v + 1)) × (n * v < m * (u + 1))

-- ---- the cell u columns and v rows from the first end: some corner over the leg, some corner under it

module _ (over under : ℕ → ℕ → ℕ) (ax ay bx by u v : ℕ) (hu : u < far ax bx) (hv : v < far ay by)
    (law : Height over under ax ay bx by) where
  abbrev i : ℕ
  i = cell_at ax bx u

  abbrev j : ℕ
  j = cell_at ay by v

  abbrev some_over : Bool
  some_over = some_corner (λ (x y : ℕ). ltb (under x y) (over x y)) i j

  abbrev some_under : Bool
  some_under = some_corner (λ (x y : ℕ). ltb (over x y) (under x y)) i j

  law_at : {x y : ℕ} → CornerOf i j x y → over x y + far ay by * far ax x ≡ under x y + far ax bx * far ay y
  law_at {x} {y} c = law x y (axis_within ax bx u hu x c.left c.right) (axis_within ay by v hv y c.top c.bottom)

  -- a corner is no nearer than the cell, and at most one step on
  steps_at : {x y : ℕ} → CornerOf i j x y
      → ((far ay by * u ≤ far ay by * far ax x) × (far ay by * far ax x ≤ far ay by * (u + 1)))
      × ((far ax bx * v ≤ far ax bx * far ay y) × (far ax bx * far ay y ≤ far ax bx * (v + 1)))
  steps_at {x} {y} c =
      let X = axis_corner ax bx u hu x c.left c.right in
      let Y = axis_corner ay by v hv y c.top c.bottom in
      ((mul-le-mul_left (far ay by) X.0, mul-le-mul_left (far ay by) X.1), (mul-le-mul_left (far ax bx) Y.0, mul-le-mul_left (far ax bx) Y.1))

  sides_out : some_over ≡ true → some_under ≡ true → Crosses (far ax bx) (far ay by) u v
  sides_out h k =
      let (x, y, c, p) = corner_of_lem _ _ _ h in
      let (x', y', c', q) = corner_of_lem _ _ _ k in
      (omega (arith, law_at c, steps_at c, ltb-true (under x y) (over x y) p), omega (arith, law_at c', steps_at c', ltb-true (over x' y') (under x' y') q))

  -- a corner p columns and q rows from the first end
  corner_on : (x y : ℕ) {p q : ℕ} → (i ≤ x) × (x ≤ i + 1) × (far ax x ≡ p) → (j ≤ y) × (y ≤ j + 1) × (far ay y ≡ q)
      → CornerOf i j x y × (over x y + far ay by * p ≡ under x y + far ax bx * q)
  corner_on x y X Y =
      let c : CornerOf i j x y = record { left = X.0; right = X.1; top = Y.0; bottom = Y.1 } in
      (c, rw (← X.2, ← Y.2) (law_at c))

  over_in : far ay by * u < far ax bx * (v + 1) → some_over ≡ true
  over_in h =
      let x = vertex_at ax bx u in
      let y = vertex_at ay by (v + 1) in
      let (c, e) = corner_on x y (axis_near ax bx u hu) (axis_next ay by v hv) in
      corner_at _ _ _ x y c (lt-ltb (under x y) (over x y) (omega arith))

  under_in : far ax bx * v < far ay by * (u + 1) → some_under ≡ true
  under_in h =
      let x = vertex_at ax bx (u + 1) in
      let y = vertex_at ay by v in
      let (c, e) = corner_on x y (axis_next ax bx u hu) (axis_near ay by v hv) in
      corner_at _ _ _ x y c (lt-ltb (over x y) (under x y) (omega arith))

  sides_in : Crosses (far ax bx) (far ay by) u v → (some_over ≡ true) × (some_under ≡ true)
  sides_in h = (over_in h.0, under_in h.1)

-- ---- what a crossing says, part by part

module _ (ax ay bx by i j : ℕ) where
  some_positive : some_corner (positive ax ay bx by) i j ≡ some_corner (λ (x y : ℕ). ltb (minus ax ay bx by x y) (plus ax ay bx by x y)) i j
  some_positive = corner_same _ _ i j (λ x y. positive_is ax ay bx by x y)

  some_negative : some_corner (negative ax ay bx by) i j ≡ some_corner (λ (x y : ℕ). ltb (plus ax ay bx by x y) (minus ax ay bx by x y)) i j
  some_negative = corner_same _ _ i j (λ x y. negative_is ax ay bx by x y)

  crossed_parts : crossed ax ay bx by i j ≡ true → (some_corner (positive ax ay bx by) i j ≡ true) × (some_corner (negative ax ay bx by) i j ≡ true) × (spans ax ay bx by i j ≡ true)
  unfolding crossed
  crossed_parts h =
      let p : Bool = some_corner (positive ax ay bx by) i j in
      let q : Bool = some_corner (negative ax ay bx by) i j in
      let r : Bool = spans ax ay bx by i j in
      let b = and_left (p && q) r h in
      (and_left p q b, and_right p q b, and_right (p && q) r h)

  spans_parts : spans ax ay bx by i j ≡ true → (min ax bx < i + 1) × (i < max ax bx) × (min ay by < j + 1) × (j < max ay by)
  unfolding spans
  spans_parts h =
      let p : Bool = ltb (min ax bx) (i + 1) in
      let q : Bool = ltb i (max ax bx) in
      let r : Bool = ltb (min ay by) (j + 1) in
      let s : Bool = ltb j (max ay by) in
      let x = and_left (p && q) (r && s) h in
      let y = and_right (p && q) (r && s) h in
      (ltb-true _ _ (and_left p q x), ltb-true _ _ (and_right p q x), ltb-true _ _ (and_left r s y), ltb-true _ _ (and_right r s y))

  -- a crossed cell lies some columns and rows from the first end
  pub cross_placed : crossed ax ay bx by i j ≡ true → ((u : ℕ) × (u < far ax bx) × (cell_at ax bx u ≡ i)) × ((v : ℕ) × (v < far ay by) × (cell_at ay by v ≡ j))
  cross_placed h =
      let (p, q, r, t) = spans_parts (crossed_parts h).2 in
      (axis_of ax bx i p q, axis_of ay by j r t)

-- ---- the two tests

module _ (ax ay bx by u v : ℕ) (hu : u < far ax bx) (hv : v < far ay by) where
  abbrev x : ℕ
  x = cell_at ax bx u

  abbrev y : ℕ
  y = cell_at ay by v

  pub cross_out : crossed ax ay bx by x y ≡ true → Crosses (far ax bx) (far ay by) u v
  cross_out h =
      let (p₀, q₀, r) = crossed_parts ax ay bx by x y h in
      let p = sym (some_positive ax ay bx by x y) ∙ p₀ in
      let q = sym (some_negative ax ay bx by x y) ∙ q₀ in
      ⊎_elim
      (λ law. sides_out (plus ax ay bx by) (minus ax ay bx by) ax ay bx by u v hu hv law p q)
      (λ law. sides_out (minus ax ay bx by) (plus ax ay bx by) ax ay bx by u v hu hv law q p)
      (heights ax ay bx by)

  both_sides : Crosses (far ax bx) (far ay by) u v → (some_corner (positive ax ay bx by) x y && some_corner (negative ax ay bx by) x y) ≡ true
  both_sides h =
      rw (some_positive ax ay bx by x y, some_negative ax ay bx by x y) (⊎_elim
      (λ law. let (p, q) = sides_in (plus ax ay bx by) (minus ax ay bx by) ax ay bx by u v hu hv law h in and_both p q)
      (λ law. let (q, p) = sides_in (minus ax ay bx by) (plus ax ay bx by) ax ay bx by u v hu hv law h in and_both p q)
      (heights ax ay bx by))

  pub cross_in : Crosses (far ax bx) (far ay by) u v → crossed ax ay bx by x y ≡ true
  unfolding crossed spans
  cross_in h =
      let X = axis_spans ax bx u hu in
      let Y = axis_spans ay by v hv in
      and_both (both_sides h)
      (and_both (and_both (lt-ltb _ _ X.0) (lt-ltb _ _ X.1)) (and_both (lt-ltb _ _ Y.0) (lt-ltb _ _ Y.1)))

-- a horizontal or vertical leg crosses no cell
pub axis_uncrossed : (ax ay bx by i j : ℕ) → (ax ≡ bx) ⊎ (ay ≡ by) → crossed ax ay bx by i j ≡ true → ⊥
axis_uncrossed ax ay bx by i j z x =
    let o = cross_placed ax ay bx by i j x in
    ⊎_elim (λ (e : ax ≡ bx). omega (arith, o.0.1)) (λ (e : ay ≡ by). omega (arith, o.1.1)) z
