-- The points of a leg, counted in columns or rows from its first end: a cell is crossed exactly if one of them lies
-- in it, and a vertex lies strictly inside exactly if it is one of them but no end. Assumes nothing.
use Prim.Native.Nat.{ℕ, ◌+◌, ◌*◌, ◌-◌, ◌≤◌, ◌<◌, min, max}
use mathlib.Core.Path.{◌≡◌, refl, ap, subst₂}
use mathlib.Core.Logic.{⊎_elim}
use mathlib.Core.Bool.{true}
use native.Mathlib.Nat.{mul-le-mul_left, mul-le-mul_right, mul-lt-mul_of_pos_left, mul-lt-mul_of_pos_right, lt_of_mul-lt-mul_left, lt_of_mul-lt-mul_right, le_of_mul-le-mul_right, eq_of_mul-eq-mul_right}
use native.Mathlib.Omega.{arith}
use Rattle.laws.proofs.Tests.{order}
use Rattle.legs.specs.declared.Stop.TheVariants.{Cell, Vertex}
use Rattle.legs.specs.Sight.{crossed, strictly_inside}
use Rattle.legs.specs.Leg.{far, vertex_at, cell_at}
use Rattle.legs.specs.Nearer.{Point, parts, along, Nearer, Strictly, Meets}
use Rattle.legs.proofs.Axis.{cell_up, cell_down, vertex_up, vertex_down, Within, vertex_of, axis_of}
use Rattle.legs.proofs.Crossing.{Crosses, cross_placed, cross_in, cross_out}
use Rattle.legs.proofs.Inside.{Through, inside_out, inside_in}

-- at the point a leg of n steps has gone more than s of them and fewer than s + 1
pub record Gone (n s : ℕ) (p : Point) : Type 0 where
  pub more : s * parts p < n * p.before
  pub fewer : n * p.before < (s + 1) * parts p

-- or s of them and not yet s + 1
pub record Reached (n s : ℕ) (p : Point) : Type 0 where
  pub some : s * parts p ≤ n * p.before
  pub fewer : n * p.before < (s + 1) * parts p

pub gone_reached : {n s : ℕ} {p : Point} → Gone n s p → Reached n s p
gone_reached g = record { some = omega (arith, g.more); fewer = g.fewer }

pub exactly_reached : {n s : ℕ} (p : Point) → n * p.before ≡ s * parts p → Reached n s p
exactly_reached p e = record { some = omega (arith, e); fewer = omega (arith, e, p.some) }

-- ---- one axis, from a to b

-- what a point's coordinate is more or less than a's, by its share k : l of the n steps
weigh_up : (a b n k l : ℕ) → b ≡ a + n → a * l + b * k ≡ a * (k + l) + n * k
weigh_up a b n k l e = rw e (omega arith)

weigh_down : (a b n k l : ℕ) → a ≡ b + n → a * l + b * k + n * k ≡ a * (k + l)
weigh_down a b n k l e = rw e (omega arith)

-- the cell s steps from a, and the edge from c to d beside it
module _ (a b s c d : ℕ) (hs : s < far a b) (low : min c d ≡ cell_at a b s) (high : max c d ≡ cell_at a b s + 1) (p : Point) where
  abbrev whole : ℕ
  whole = parts p

  rising : a < b
      → (along a b p ≡ a * whole + far a b * p.before) × (min c d * whole ≡ a * whole + s * whole) × (max c d * whole ≡ min c d * whole + whole)
  rising e =
      let f : min c d ≡ a + s = omega (arith, low, cell_up a b s e) in
      let g : max c d ≡ min c d + 1 = omega (arith, low, high) in
      (weigh_up a b (far a b) p.before p.behind (omega arith), rw f (omega arith), rw g (omega arith))

  falling : b ≤ a
      → (along a b p + far a b * p.before ≡ a * whole) × (a * whole ≡ min c d * whole + (s + 1) * whole) × (max c d * whole ≡ min c d * whole + whole)
  falling e =
      let f : a ≡ min c d + (s + 1) = omega (arith, low, cell_down a b s e) in
      let g : max c d ≡ min c d + 1 = omega (arith, low, high) in
      (weigh_down a b (far a b) p.before p.behind (omega arith), omega (arith, ap (λ (z : ℕ). z * whole) f), rw g (omega arith))

  pub gone_out : Strictly a b c d p → Gone (far a b) s p
  gone_out h =
      ⊎_elim (λ (e : a < b). let r = rising e in record { more = omega (arith, r, h); fewer = omega (arith, r, h) })
      (λ (e : b ≤ a). let r = falling e in record { more = omega (arith, r, h); fewer = omega (arith, r, h) }) (order a b)

  pub gone_in : Gone (far a b) s p → Strictly a b c d p
  gone_in h =
      ⊎_elim (λ (e : a < b). let r = rising e in (omega (arith, r, h), omega (arith, r, h)))
      (λ (e : b ≤ a). let r = falling e in (omega (arith, r, h), omega (arith, r, h))) (order a b)

-- the point is the vertex s steps from a exactly if the leg has gone just s steps there
module _ (a b s : ℕ) (hs : s ≤ far a b) (p : Point) where
  vertex_rising : a < b
      → (along a b p ≡ a * parts p + far a b * p.before) × (vertex_at a b s * parts p ≡ a * parts p + s * parts p)
  vertex_rising e = (weigh_up a b (far a b) p.before p.behind (omega arith), rw (vertex_up a b s e) (omega arith))

  vertex_falling : b ≤ a
      → (along a b p + far a b * p.before ≡ a * parts p) × (a * parts p ≡ vertex_at a b s * parts p + s * parts p)
  vertex_falling e =
      let f : a ≡ vertex_at a b s + s = omega (arith, vertex_down a b s e) in
      (weigh_down a b (far a b) p.before p.behind (omega arith), omega (arith, ap (λ (z : ℕ). z * parts p) f))

  pub exactly_out : along a b p ≡ vertex_at a b s * parts p → far a b * p.before ≡ s * parts p
  exactly_out h =
      ⊎_elim (λ (e : a < b). omega (arith, vertex_rising e, h)) (λ (e : b ≤ a). omega (arith, vertex_falling e, h)) (order a b)

  pub exactly_in : far a b * p.before ≡ s * parts p → along a b p ≡ vertex_at a b s * parts p
  exactly_in h =
      ⊎_elim (λ (e : a < b). omega (arith, vertex_rising e, h)) (λ (e : b ≤ a). omega (arith, vertex_falling e, h)) (order a b)

-- the coordinate of a point is no less than the lesser end's, and no more than the greater's
along_span : (a b : ℕ) (p : Point) → (min a b * parts p ≤ along a b p) × (along a b p ≤ max a b * parts p)
along_span a b p =
    let l : min a b ≤ a = omega arith in
    let k : min a b ≤ b = omega arith in
    let m : a ≤ max a b = omega arith in
    let n : b ≤ max a b = omega arith in (
      omega (arith, mul-le-mul_right p.behind l, mul-le-mul_right p.before k),
      omega (arith, mul-le-mul_right p.behind m, mul-le-mul_right p.before n),
    )

-- so that a cell with a point of the leg in it lies some steps from a
in_placed : (a b i : ℕ) (p : Point) → Strictly a b i (i + 1) p → (s : ℕ) × (s < far a b) × (cell_at a b s ≡ i)
in_placed a b i p h =
    let (l, m) = along_span a b p in
    let e : min i (i + 1) ≡ i = omega arith in
    let f : max i (i + 1) ≡ i + 1 = omega arith in
    let below : min i (i + 1) * parts p < max a b * parts p = omega (arith, h, m) in
    let above : min a b * parts p < max i (i + 1) * parts p = omega (arith, h, l) in
    axis_of a b i (rw f at (lt_of_mul-lt-mul_right (parts p) above)) (rw e at (lt_of_mul-lt-mul_right (parts p) below))

-- ---- which point is nearer

-- fewer steps gone
pub reached_nearer : {n s t : ℕ} {p q : Point} → Reached n s p → Reached n t q → s < t → Nearer p q
reached_nearer {n} {s} {t} {p} {q} g h l =
    lt_of_mul-lt-mul_left n (omega (
      arith,
      mul-lt-mul_of_pos_right g.fewer q.some,
      mul-le-mul_right (parts p * parts q) l,
      mul-le-mul_right (parts p) h.some,
    ))

-- or just as many, and more than those
pub exactly_nearer : {n s : ℕ} (p : Point) {q : Point} → n * p.before ≡ s * parts p → Gone n s q → Nearer p q
exactly_nearer {n} {s} p {q} e h =
    lt_of_mul-lt-mul_left n (omega (arith, ap (λ (z : ℕ). z * parts q) e, mul-lt-mul_of_pos_right h.more p.some))

-- and not both ways
pub nearer_asym : (p q : Point) → Nearer p q → Nearer q p → ⊥
nearer_asym p q h k = omega (arith, h, k)

-- ---- a point in a stretch of the leg

-- the point half way from the part u to the part v of w parts
module _ (w u v : ℕ) (hu : u < v) (hv : v ≤ w) where
  abbrev pub midway : Point
  midway = record { before = u + v; behind = 2 * w - (u + v); some = omega arith }

  midway_parts : parts midway ≡ 2 * w
  midway_parts = omega arith

  -- where these are n steps of m parts each: it lies in the step s if both parts do
  pub midway_gone : (n m s : ℕ) → w ≡ n * m → 0 < n → s * m ≤ u → v ≤ (s + 1) * m → Gone n s midway
  midway_gone n m s e some h k =
      let l : 2 * (s * m) < u + v = omega arith in
      let r : u + v < 2 * ((s + 1) * m) = omega arith in
      record {
        more = rw (midway_parts, e) (omega (arith, mul-lt-mul_of_pos_left l some));
        fewer = rw (midway_parts, e) (omega (arith, mul-lt-mul_of_pos_left r some));
      }

-- ---- a cell is crossed exactly if some point of the leg lies in it

-- a point in the column u and in the row v: the leg crosses their cell
gone_crosses : (n m u v : ℕ) (p : Point) → 0 < n → Gone n u p → Gone m v p → Crosses n m u v
gone_crosses n m u v p some g h = (
  lt_of_mul-lt-mul_right (parts p) (omega (arith, mul-le-mul_left m g.more, mul-le-mul_left n h.fewer)),
  lt_of_mul-lt-mul_right (parts p) (omega (arith, mul-le-mul_left n h.more, mul-le-mul_left m g.fewer)),
)

-- and the other way round: half way between where the leg comes into the cell and where it goes out
crosses_gone : (n m u v : ℕ) → u < n → v < m → Crosses n m u v → (p : Point) × Gone n u p × Gone m v p
crosses_gone n m u v hu hv x =
    let into : ℕ = max (u * m) (v * n) in
    let out : ℕ = min ((u + 1) * m) ((v + 1) * n) in
    stretch into out (omega arith) (omega arith) (omega arith) (omega arith) (omega (arith, hu, hv, x)) (omega (arith, mul-le-mul_right m hu))
  where
    stretch : (into out : ℕ) → u * m ≤ into → v * n ≤ into → out ≤ (u + 1) * m → out ≤ (v + 1) * n → into < out → out ≤ n * m
        → (p : Point) × Gone n u p × Gone m v p
    stretch into out a b c d l e = (
      midway (n * m) into out l e,
      midway_gone (n * m) into out l e n m u refl (omega arith) a c,
      midway_gone (n * m) into out l e m n v (omega arith) (omega arith) b d,
    )

module _ (ax ay bx by i j : ℕ) where
  abbrev n : ℕ
  n = far ax bx

  abbrev m : ℕ
  m = far ay by

  -- the cell is u columns and v rows from the first end
  module _ (u v : ℕ) (hu : u < n) (hv : v < m) (ei : cell_at ax bx u ≡ i) (ej : cell_at ay by v ≡ j) where
    pub cell_gone : (p : Point) → Meets ax ay bx by p (Cell i j) → Gone n u p × Gone m v p
    cell_gone p h = (
      gone_out ax bx u i (i + 1) hu (omega (arith, ei)) (omega (arith, ei)) p h.0,
      gone_out ay by v j (j + 1) hv (omega (arith, ej)) (omega (arith, ej)) p h.1,
    )

    cell_met : (p : Point) → Gone n u p → Gone m v p → Meets ax ay bx by p (Cell i j)
    cell_met p g h = (
      gone_in ax bx u i (i + 1) hu (omega (arith, ei)) (omega (arith, ei)) p g,
      gone_in ay by v j (j + 1) hv (omega (arith, ej)) (omega (arith, ej)) p h,
    )

  pub met_crossed : (p : Point) → Meets ax ay bx by p (Cell i j) → crossed ax ay bx by i j ≡ true
  met_crossed p h =
      let (u, hu, ei) = in_placed ax bx i p h.0 in
      let (v, hv, ej) = in_placed ay by j p h.1 in
      let (g, k) = cell_gone u v hu hv ei ej p h in
      subst₂ (λ (x y : ℕ). crossed ax ay bx by x y ≡ true) ei ej (cross_in ax ay bx by u v hu hv (gone_crosses n m u v p (omega arith) g k))

  pub crossed_met : crossed ax ay bx by i j ≡ true → (p : Point) × Meets ax ay bx by p (Cell i j)
  crossed_met x =
      let ((u, hu, ei), (v, hv, ej)) = cross_placed ax ay bx by i j x in
      let y : crossed ax ay bx by (cell_at ax bx u) (cell_at ay by v) ≡ true = rw (ei, ej) x in
      let (p, g, k) = crosses_gone n m u v hu hv (cross_out ax ay bx by u v hu hv y) in
      (p, cell_met u v hu hv ei ej p g k)

-- ---- a vertex strictly inside a leg is a point of it

module _ (ax ay bx by x y : ℕ) where
  -- the point lies so many columns and so many rows on
  pub vertex_exactly : strictly_inside ax ay bx by x y ≡ true → (p : Point) → Meets ax ay bx by p (Vertex x y)
      → (far ax bx * p.before ≡ far ax x * parts p) × (far ay by * p.before ≡ far ay y * parts p)
  vertex_exactly i p h =
      let (t, ex, ey) = inside_out ax ay bx by x y i in (
        exactly_out ax bx (far ax x) t.u_on p (rw ex h.0),
        exactly_out ay by (far ay y) t.v_on p (rw ey h.1),
      )

  pub inside_met : strictly_inside ax ay bx by x y ≡ true → (p : Point) × Meets ax ay bx by p (Vertex x y)
  inside_met i =
      let (t, ex, ey) = inside_out ax ay bx by x y i in
      let (p, g, h) = through_point t in
      (p, (rw ex at (exactly_in ax bx (far ax x) t.u_on p g), rw ey at (exactly_in ay by (far ay y) t.v_on p h)))
    where
      -- of its n + m parts, those before it are its columns and its rows
      through_point : {n m u v : ℕ} → Through n m u v → (p : Point) × (n * p.before ≡ u * parts p) × (m * p.before ≡ v * parts p)
      through_point {n} {m} {u} {v} t =
          let p : Point = record { before = u + v; behind = (n + m) - (u + v); some = omega (arith, t.begun) } in
          let e : parts p ≡ n + m = omega (arith, t.unended) in
          (p, rw e (omega (arith, t.on)), rw e (omega (arith, t.on)))

-- and every vertex that is a point of the leg between its ends, where these differ, lies strictly inside

-- its coordinates are the ends' or between
point_within : (a b x : ℕ) (p : Point) → along a b p ≡ x * parts p → Within a b x
point_within a b x p e =
    let (l, m) = along_span a b p in
    record { low = le_of_mul-le-mul_right (omega (arith, l, e)) p.some; high = le_of_mul-le-mul_right (omega (arith, m, e)) p.some }

-- and the leg goes through it
point_through : (n m u v : ℕ) (p : Point) → u ≤ n → v ≤ m → 0 < p.before → 0 < p.behind → 0 < n + m
    → n * p.before ≡ u * parts p → m * p.before ≡ v * parts p → Through n m u v
point_through n m u v p hu hv begun left some e f =
    let whole : ℕ = parts p in
    let same : (m * u) * whole ≡ (n * v) * whole = omega (arith, ap (λ (z : ℕ). m * z) e, ap (λ (z : ℕ). n * z) f) in
    record {
      on = eq_of_mul-eq-mul_right whole p.some (m * u) (n * v) same;
      u_on = hu;
      v_on = hv;
      begun = lt_of_mul-lt-mul_right whole (omega (arith, e, f, mul-le-mul_left (n + m) begun));
      unended = lt_of_mul-lt-mul_right whole (omega (arith, e, f, mul-le-mul_left (n + m) left));
    }

module _ (ax ay bx by x y : ℕ) where
  pub met_inside : (p : Point) → 0 < p.before → 0 < p.behind → 0 < far ax bx + far ay by → Meets ax ay bx by p (Vertex x y)
      → strictly_inside ax ay bx by x y ≡ true
  met_inside p begun left some h =
      let (ex, hx) = vertex_of ax bx x (point_within ax bx x p h.0) in
      let (ey, hy) = vertex_of ay by y (point_within ay by y p h.1) in
      let e = exactly_out ax bx (far ax x) hx p (rw ex h.0) in
      let f = exactly_out ay by (far ay y) hy p (rw ey h.1) in
      subst₂ (λ (x y : ℕ). strictly_inside ax ay bx by x y ≡ true) ex ey
      (inside_in ax ay bx by (far ax x) (far ay y) (point_through (far ax bx) (far ay by) (far ax x) (far ay y) p hx hy begun left some e f))
