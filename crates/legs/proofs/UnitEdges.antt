-- The unit edges of a leg in steps from its first end: each is one of them, and a point on it has gone so many steps. Assumes nothing.
use Prim.Native.Nat.{ℕ, ◌+◌, ◌-◌, ◌≤◌, ◌<◌, min, max}
use mathlib.Core.Path.{◌≡◌, refl, sym, ◌∙◌}
use mathlib.Core.Logic.{⊎_elim}
use mathlib.Core.Bool.{Bool, true}
use native.Mathlib.Omega.{arith}
use borrow.Author.Tests.{lt-ltb, le-leb, ltb-true, leb-true}
use lib.Dec.{leb, ltb}
use Rattle.laws.proofs.Tests.{order, and_both, and_left, and_right}
use Rattle.legs.specs.Sight.{between}
use Rattle.legs.specs.Leg.{far, vertex_at, cell_at}
use Rattle.legs.specs.Nearer.{UnitEdge, Point, Strictly}
use Rattle.legs.proofs.Axis.{cell_up, cell_down, vertex_up, vertex_down, axis_near, axis_next, axis_spans, axis_of}
use Rattle.legs.proofs.Points.{Gone, gone_out, gone_in, midway, midway_gone}

pub between_out : (a b k : ℕ) → between a b k ≡ true → (min a b ≤ k) × (k < max a b)
unfolding between
between_out a b k h =
    let s : Bool = leb (min a b) k in
    let t : Bool = ltb k (max a b) in
    (leb-true (min a b) k (and_left s t h), ltb-true k (max a b) (and_right s t h))

-- the unit edge at a cell of the leg is between its ends
between_in : (a b u : ℕ) → u < far a b → between a b (cell_at a b u) ≡ true
unfolding between
between_in a b u l =
    let s = axis_spans a b u l in
    and_both (le-leb (min a b) (cell_at a b u) (omega (arith, s.0))) (lt-ltb (cell_at a b u) (max a b) s.1)

module _ (a b u : ℕ) (hu : u < far a b) where
  pub edge_low : min (vertex_at a b u) (vertex_at a b (u + 1)) ≡ cell_at a b u
  edge_low =
      ⊎_elim (λ (l : a < b). omega (arith, cell_up a b u l, vertex_up a b u l, vertex_up a b (u + 1) l))
      (λ (g : b ≤ a). omega (arith, cell_down a b u g, vertex_down a b u g, vertex_down a b (u + 1) g)) (order a b)

  -- the one between the vertices u and u + 1 steps from a
  pub edge_at : UnitEdge a b (vertex_at a b u) (vertex_at a b (u + 1))
  edge_at =
      record {
        unit =
            ⊎_elim (λ (l : a < b). omega (arith, vertex_up a b u l, vertex_up a b (u + 1) l))
            (λ (g : b ≤ a). omega (arith, vertex_down a b u g, vertex_down a b (u + 1) g)) (order a b);
        on = rw edge_low (between_in a b u hu);
        nearer_first = rw ((axis_near a b u hu).2, (axis_next a b u hu).2) (omega arith);
      }

-- so there is one at every k between a and b
pub edge_of : (a b k : ℕ) → between a b k ≡ true → (p : ℕ) × (q : ℕ) × UnitEdge a b p q × (min p q ≡ k)
edge_of a b k h =
    let (l, m) = between_out a b k h in
    let (u, hu, e) = axis_of a b k (omega (arith, l)) m in
    (vertex_at a b u, vertex_at a b (u + 1), edge_at a b u hu, edge_low a b u hu ∙ e)

-- every unit edge between a and b is one of them
pub record Placed (a b p q : ℕ) : Type 0 where
  pub steps : ℕ
  pub steps_in : steps < far a b
  pub low_is : cell_at a b steps ≡ min p q
  pub first_is : vertex_at a b steps ≡ p
  pub second_is : vertex_at a b (steps + 1) ≡ q

-- which of two that are one apart is nearer to a, on either side of it
nearer_up : (a p q k : ℕ) → a ≤ k → min p q ≡ k → max p q ≡ k + 1 → far a p < far a q → (p ≡ k) × (q ≡ k + 1)
nearer_up a p q k l e f h = ⊎_elim (λ (m : p < q). omega arith) (λ (m : q ≤ p). absurd (omega arith)) (order p q)

nearer_down : (a p q k : ℕ) → k + 1 ≤ a → min p q ≡ k → max p q ≡ k + 1 → far a p < far a q → (p ≡ k + 1) × (q ≡ k)
nearer_down a p q k l e f h = ⊎_elim (λ (m : p < q). absurd (omega arith)) (λ (m : q ≤ p). omega arith) (order p q)

pub edge_placed : (a b p q : ℕ) → UnitEdge a b p q → Placed a b p q
edge_placed a b p q e =
    let (low, high) = between_out a b (min p q) e.on in
    let (u, hu, c) = axis_of a b (min p q) (omega (arith, low)) high in
    ⊎_elim
    (λ (l : a < b).
    let (f, g) = nearer_up a p q (min p q) (omega (arith, c, cell_up a b u l)) refl e.unit e.nearer_first in
    record {
      steps = u;
      steps_in = hu;
      low_is = c;
      first_is = sym (f ∙ omega (arith, c, cell_up a b u l, vertex_up a b u l));
      second_is = sym (g ∙ omega (arith, c, cell_up a b u l, vertex_up a b (u + 1) l));
    })
    (λ (l : b ≤ a).
    let k : a ≡ min p q + (u + 1) = back a b u (min p q) hu l (sym (cell_down a b u l) ∙ c) in
    let (f, g) = nearer_down a p q (min p q) (omega (arith, k)) refl e.unit e.nearer_first in
    record {
      steps = u;
      steps_in = hu;
      low_is = c;
      first_is = sym (f ∙ omega (arith, k, vertex_down a b u l));
      second_is = sym (g ∙ omega (arith, k, vertex_down a b (u + 1) l));
    })
    (order a b)
  where
    back : (a b u k : ℕ) → u < far a b → b ≤ a → a - (u + 1) ≡ k → a ≡ k + (u + 1)
    back a b u k h l e = omega arith

-- what is known of a point on the edge
pub edge_gone : {a b p q : ℕ} (e : UnitEdge a b p q) (o : Placed a b p q) (x : Point) → Strictly a b p q x → Gone (far a b) o.steps x
edge_gone {a} {b} {p} {q} e o x h =
    gone_out a b o.steps p q o.steps_in (sym o.low_is) (omega (arith, e.unit, o.low_is)) x h

pub edge_met : (a b p q : ℕ) → UnitEdge a b p q → (x : Point) × Strictly a b p q x
edge_met a b p q e =
    let o = edge_placed a b p q e in
    let u = o.steps in
    let below : u + 1 ≤ far a b = omega (arith, o.steps_in) in
    let n = far a b in (
      midway n u (u + 1) (omega arith) below,
      gone_in a b u p q o.steps_in (sym o.low_is) (omega (arith, e.unit, o.low_is)) _
          (midway_gone n u (u + 1) (omega arith) below n 1 u (omega arith) (omega (arith, below)) (omega arith) (omega arith)),
    )

-- there is none between equal ends
pub no_unit_edge : (a b p q : ℕ) → a ≡ b → UnitEdge a b p q → ⊥
no_unit_edge a b p q e h = let (l, m) = between_out a b (min p q) h.on in omega (arith, l, m)

-- nothing of a leg lies strictly between equal coordinates
pub none_between : (a b c : ℕ) (x : Point) → Strictly a b c c x → ⊥
none_between a b c x h =
    let e : min c c ≡ c = omega arith in
    let f : max c c ≡ c = omega arith in
    let (l, m) = rw (e, f) at h in
    omega (arith, l, m)
