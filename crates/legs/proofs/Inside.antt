-- The points strictly inside a leg, counted in columns and rows from its first end. Assumes nothing.
use Prim.Native.Nat.{ℕ, ◌+◌, ◌*◌, ◌≤◌, ◌<◌, min, max}
use mathlib.Core.Path.{◌≡◌, refl, sym, ap, ◌∙◌}
use mathlib.Core.Logic.{⊎_elim}
use mathlib.Core.Bool.{Bool, true, not, ◌&&◌}
use native.Mathlib.Nat.{mul-le-mul_left, lt_of_mul-lt-mul_left}
use native.Mathlib.Omega.{arith}
use borrow.Author.Tests.{le-leb, leb-true, le-ltb, ltb-false, eqb-true, eq-eqb, not-true}
use lib.Dec.{leb, eqb}
use Rattle.laws.proofs.Tests.{order, and_both, and_left, and_right, not_of, not_both}
use Rattle.legs.specs.Sight.{positive, negative, spanned, strictly_inside}
use Rattle.legs.specs.Leg.{far, vertex_at}
use Rattle.legs.proofs.Axis.{Within, vertex_start, vertex_end, vertex_of, vertex_far, vertex_within}
use Rattle.legs.proofs.Sides.{plus, minus, positive_is, negative_is}
use Rattle.legs.proofs.Crossing.{heights}

-- a leg of n columns and m rows goes through the vertex u columns and v rows from its first end, and it is neither end
pub record Through (n m u v : ℕ) : Type 0 where
  pub on : m * u ≡ n * v
  pub u_on : u ≤ n
  pub v_on : v ≤ m
  pub begun : 0 < u + v
  pub unended : u + v < n + m

not_begun : {n m u v : ℕ} → Through n m u v → u ≡ 0 → v ≡ 0 → ⊥
not_begun t e f = omega (arith, t.begun)

not_ended : {n m u v : ℕ} → Through n m u v → u ≡ n → v ≡ m → ⊥
not_ended t e f = omega (arith, t.unended)

through_of : {n m u v : ℕ} → m * u ≡ n * v → u ≤ n → v ≤ m → (u ≡ 0 → v ≡ 0 → ⊥) → (u ≡ n → v ≡ m → ⊥) → Through n m u v
through_of {n} {m} {u} {v} e hu hv h k =
    record {
      on = e;
      u_on = hu;
      v_on = hv;
      begun = ⊎_elim (λ (l : u + v < 1). absurd (h (omega arith) (omega arith))) (λ (g : 1 ≤ u + v). g) (order (u + v) 1);
      unended =
          ⊎_elim (λ (l : u + v < n + m). l) (λ (g : n + m ≤ u + v). absurd (k (omega arith) (omega arith)))
          (order (u + v) (n + m));
    }

-- a coordinate is not far from itself, and from no other
no_far : (a p : ℕ) → p ≡ a → far a p ≡ 0
no_far a p e = omega arith

pub far_none : (a p : ℕ) → far a p ≡ 0 → p ≡ a
far_none a p e = omega arith

-- ---- what the test says, part by part

module _ (ax ay bx by x y : ℕ) (h : strictly_inside ax ay bx by x y ≡ true) where
  abbrev no_side : Bool
  no_side = not (positive ax ay bx by x y) && not (negative ax ay bx by x y)

  abbrev within : Bool
  within = spanned ax bx x && spanned ay by y

  abbrev is_not_first : Bool
  is_not_first = not (eqb x ax && eqb y ay)

  abbrev is_not_last : Bool
  is_not_last = not (eqb x bx && eqb y by)

  inside_parts : (no_side ≡ true) × (within ≡ true) × (is_not_first ≡ true) × (is_not_last ≡ true)
  unfolding strictly_inside
  inside_parts =
      let l = and_left (no_side && within) (is_not_first && is_not_last) h in
      let r = and_right (no_side && within) (is_not_first && is_not_last) h in
      (and_left no_side within l, and_right no_side within l, and_left is_not_first is_not_last r, and_right is_not_first is_not_last r)

  span_within : (a b p : ℕ) → spanned a b p ≡ true → Within a b p
  span_within a b p s =
      record {
        low = leb-true (min a b) p (and_left (leb (min a b) p) (leb p (max a b)) s);
        high = leb-true p (max a b) (and_right (leb (min a b) p) (leb p (max a b)) s);
      }

  inside_columns : Within ax bx x
  inside_columns = span_within ax bx x (and_left (spanned ax bx x) (spanned ay by y) inside_parts.1)

  inside_rows : Within ay by y
  inside_rows = span_within ay by y (and_right (spanned ax bx x) (spanned ay by y) inside_parts.1)

  sides_equal : plus ax ay bx by x y ≡ minus ax ay bx by x y
  sides_equal =
      let p : Bool = not (positive ax ay bx by x y) in
      let q : Bool = not (negative ax ay bx by x y) in
      let e = sym (positive_is ax ay bx by x y) ∙ not-true (positive ax ay bx by x y) (and_left p q inside_parts.0) in
      let f = sym (negative_is ax ay bx by x y) ∙ not-true (negative ax ay bx by x y) (and_right p q inside_parts.0) in
      omega (
        arith,
        ltb-false (minus ax ay bx by x y) (plus ax ay bx by x y) e,
        ltb-false (plus ax ay bx by x y) (minus ax ay bx by x y) f,
      )

  inside_on : far ay by * far ax x ≡ far ax bx * far ay y
  inside_on =
      let s = sides_equal in
      ⊎_elim (λ law. omega (arith, law x y inside_columns inside_rows)) (λ law. omega (arith, law x y inside_columns inside_rows))
      (heights ax ay bx by)

  pub not_first : x ≡ ax → y ≡ ay → ⊥
  not_first e f = not_both (eqb x ax) (eqb y ay) inside_parts.2 (eq-eqb x ax e) (eq-eqb y ay f)

  not_last : x ≡ bx → y ≡ by → ⊥
  not_last e f = not_both (eqb x bx) (eqb y by) inside_parts.3 (eq-eqb x bx e) (eq-eqb y by f)

  -- it lies some columns and rows from the first end
  pub inside_out : Through (far ax bx) (far ay by) (far ax x) (far ay y)
      × (vertex_at ax bx (far ax x) ≡ x) × (vertex_at ay by (far ay y) ≡ y)
  inside_out =
      let (ex, hx) = vertex_of ax bx x inside_columns in
      let (ey, hy) = vertex_of ay by y inside_rows in
      let last : far ax x ≡ far ax bx → far ay y ≡ far ay by → ⊥ =
      λ e f. not_last (sym ex ∙ vertex_end ax bx (far ax x) e) (sym ey ∙ vertex_end ay by (far ay y) f) in
      (through_of inside_on hx hy (λ e f. not_first (far_none ax x e) (far_none ay y f)) last, ex, ey)

-- ---- and back

-- a point that differs from an end passes that test
other_point : (x y ex ey : ℕ) → (x ≡ ex → y ≡ ey → ⊥) → not (eqb x ex && eqb y ey) ≡ true
other_point x y ex ey differ =
    not_of (eqb x ex && eqb y ey) (λ q.
    differ (eqb-true x ex (and_left (eqb x ex) (eqb y ey) q)) (eqb-true y ey (and_right (eqb x ex) (eqb y ey) q)))

module _ (ax ay bx by u v : ℕ) where
  abbrev x : ℕ
  x = vertex_at ax bx u

  abbrev y : ℕ
  y = vertex_at ay by v

  pub inside_in : Through (far ax bx) (far ay by) u v → strictly_inside ax ay bx by x y ≡ true
  unfolding strictly_inside
  inside_in t =
      let X = vertex_within ax bx u t.u_on in
      let Y = vertex_within ay by v t.v_on in
      let ex = vertex_far ax bx u t.u_on in
      let ey = vertex_far ay by v t.v_on in
      let on : far ay by * far ax x ≡ far ax bx * far ay y = rw (ex, ey) t.on in
      let s : plus ax ay bx by x y ≡ minus ax ay bx by x y =
      ⊎_elim (λ law. omega (arith, on, law x y X Y)) (λ law. omega (arith, on, law x y X Y)) (heights ax ay bx by) in
      let p : (spanned ax bx x && spanned ay by y) ≡ true =
      and_both (and_both (le-leb _ _ X.low) (le-leb _ _ X.high)) (and_both (le-leb _ _ Y.low) (le-leb _ _ Y.high)) in
      rw (
        positive_is ax ay bx by x y,
        negative_is ax ay bx by x y,
        le-ltb (minus ax ay bx by x y) (plus ax ay bx by x y) (omega arith),
        le-ltb (plus ax ay bx by x y) (minus ax ay bx by x y) (omega arith),
        p,
      ) (and_both (other_point x y ax ay (λ g h. not_begun t (sym ex ∙ no_far ax x g) (sym ey ∙ no_far ay y h)))
      (other_point x y bx by (λ g h. not_ended t (sym ex ∙ ap (far ax) g) (sym ey ∙ ap (far ay) h))))

  -- a vertex some steps on that lies strictly inside is one that the leg goes through
  pub inside_through : u ≤ far ax bx → v ≤ far ay by → strictly_inside ax ay bx by x y ≡ true → Through (far ax bx) (far ay by) u v
  inside_through hu hv h = rw (vertex_far ax bx u hu, vertex_far ay by v hv) at (inside_out ax ay bx by x y h).0

-- ---- by the leg's direction

-- a level leg and an upright one go through all their vertices but the ends
pub through_level : {n m u v : ℕ} → m ≡ 0 → Through n m u v → (v ≡ 0) × (0 < u) × (u < n)
through_level e t = (omega (arith, t.v_on), omega (arith, t.begun, t.v_on), omega (arith, t.unended))

pub through_upright : {n m u v : ℕ} → n ≡ 0 → Through n m u v → (u ≡ 0) × (0 < v) × (v < m)
through_upright e t = (omega (arith, t.u_on), omega (arith, t.begun, t.u_on), omega (arith, t.unended))

pub inside_level : (c p q u : ℕ) → 0 < u → u < far p q → strictly_inside p c q c (vertex_at p q u) c ≡ true
inside_level c p q u h k =
    let z : far c c ≡ 0 = omega arith in
    let t : Through (far p q) (far c c) u 0 =
    record { on = rw z (omega arith); u_on = omega arith; v_on = omega arith; begun = omega arith; unended = omega arith } in
    rw (vertex_start c c 0 refl) at (inside_in p c q c u 0 t)

pub inside_upright : (c p q u : ℕ) → 0 < u → u < far p q → strictly_inside c p c q c (vertex_at p q u) ≡ true
inside_upright c p q u h k =
    let z : far c c ≡ 0 = omega arith in
    let t : Through (far c c) (far p q) 0 u =
    record { on = rw z (omega arith); u_on = omega arith; v_on = omega arith; begun = omega arith; unended = omega arith } in
    rw (vertex_start c c 0 refl) at (inside_in c p c q 0 u t)

-- and a slanted one only through vertices between its ends both ways
pub through_slanted : {n m u v : ℕ} → 0 < n → 0 < m → Through n m u v → (0 < u) × (u < n) × (0 < v) × (v < m)
through_slanted {n} {m} {u} {v} hn hm t =
    let up : 0 < u → 0 < v = λ h. lt_of_mul-lt-mul_left n (omega (arith, t.on, mul-le-mul_left m h)) in
    let across : 0 < v → 0 < u = λ h. lt_of_mul-lt-mul_left m (omega (arith, t.on, mul-le-mul_left n h)) in
    let short : u < n → v < m = λ h. lt_of_mul-lt-mul_left n (omega (arith, t.on, mul-le-mul_left m h)) in
    let narrow : v < m → u < n = λ h. lt_of_mul-lt-mul_left m (omega (arith, t.on, mul-le-mul_left n h)) in
    let u-some : 0 < u = ⊎_elim (λ (l : u < 1). across (omega (arith, t.begun))) (λ (g : 1 ≤ u). g) (order u 1) in
    let u-less : u < n = ⊎_elim (λ (l : u < n). l) (λ (g : n ≤ u). narrow (omega (arith, t.unended))) (order u n) in
    (u-some, u-less, up u-some, short u-less)

-- nothing lies strictly inside a single move
through_single : {n m u v : ℕ} → Through n m u v → n ≤ 1 → m ≤ 1 → ⊥
through_single {n} {m} {u} {v} t hn hm =
    ⊎_elim (λ (l : n < 1). omega (arith, t.begun, t.unended, t.u_on, t.v_on))
    (λ (g : 1 ≤ n). ⊎_elim (λ (k : m < 1). omega (arith, t.begun, t.unended, t.u_on, t.v_on))
    (λ (k : 1 ≤ m). let (a, b, c, d) = through_slanted g k t in omega arith) (order m 1)) (order n 1)

pub none_inside : (ax ay bx by x y : ℕ) → far ax bx ≤ 1 → far ay by ≤ 1 → strictly_inside ax ay bx by x y ≡ true → ⊥
none_inside ax ay bx by x y hx hy h =
    let (t, _, _) = inside_out ax ay bx by x y h in
    through_single t hx hy
