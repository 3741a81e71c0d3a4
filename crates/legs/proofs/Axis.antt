-- One axis of a leg: its vertices and cells in steps from a towards b. Assumes nothing.
use Prim.Native.Nat.{ℕ, ◌+◌, ◌-◌, ◌≤◌, ◌<◌, min, max}
use mathlib.Core.Path.{◌≡◌}
use mathlib.Core.Logic.{⊎_elim}
use native.Mathlib.Omega.{arith}
use borrow.Author.Tests.{lt-ltb, le-ltb}
use Rattle.laws.proofs.Tests.{order}
use Rattle.legs.specs.Leg.{far, vertex_at, cell_at}

module _ (a b s : ℕ) where
  pub cell_up : a < b → cell_at a b s ≡ a + s
  unfolding cell_at
  cell_up h = rw (lt-ltb a b h)

  pub cell_down : b ≤ a → cell_at a b s ≡ a - (s + 1)
  unfolding cell_at
  cell_down h = rw (le-ltb a b h)

  pub vertex_up : a < b → vertex_at a b s ≡ a + s
  unfolding vertex_at
  vertex_up h = rw (lt-ltb a b h)

  pub vertex_down : b ≤ a → vertex_at a b s ≡ a - s
  unfolding vertex_at
  vertex_down h = rw (le-ltb a b h)

  pub vertex_start : s ≡ 0 → vertex_at a b s ≡ a
  vertex_start e =
      ⊎_elim (λ (l : a < b). omega (arith, vertex_up l)) (λ (g : b ≤ a). omega (arith, vertex_down g)) (order a b)

  pub vertex_end : s ≡ far a b → vertex_at a b s ≡ b
  vertex_end e =
      ⊎_elim (λ (l : a < b). omega (arith, vertex_up l)) (λ (g : b ≤ a). omega (arith, vertex_down g)) (order a b)

-- the coordinate p lies between the ends
pub record Within (a b p : ℕ) : Type 0 where
  pub low : min a b ≤ p
  pub high : p ≤ max a b

-- such a coordinate lies some steps from a, and a vertex some steps from a is such a coordinate
pub vertex_of : (a b p : ℕ) → Within a b p → (vertex_at a b (far a p) ≡ p) × (far a p ≤ far a b)
vertex_of a b p w =
    ⊎_elim (λ (l : a < b). rising (omega (arith, w.low)) (omega (arith, w.high)) l)
    (λ (g : b ≤ a). falling (omega (arith, w.low)) (omega (arith, w.high)) g) (order a b)
  where
    rising : a ≤ p → p ≤ b → a < b → (vertex_at a b (far a p) ≡ p) × (far a p ≤ far a b)
    rising h k l = (omega (arith, vertex_up a b (far a p) l), omega arith)

    falling : b ≤ p → p ≤ a → b ≤ a → (vertex_at a b (far a p) ≡ p) × (far a p ≤ far a b)
    falling h k l = (omega (arith, vertex_down a b (far a p) l), omega arith)

pub vertex_far : (a b s : ℕ) → s ≤ far a b → far a (vertex_at a b s) ≡ s
vertex_far a b s h =
    ⊎_elim (λ (l : a < b). omega (arith, vertex_up a b s l)) (λ (g : b ≤ a). omega (arith, vertex_down a b s g)) (order a b)

pub vertex_within : (a b s : ℕ) → s ≤ far a b → Within a b (vertex_at a b s)
vertex_within a b s h =
    ⊎_elim (λ (l : a < b). let e = vertex_up a b s l in record { low = omega arith; high = omega arith })
    (λ (g : b ≤ a). let e = vertex_down a b s g in record { low = omega arith; high = omega arith }) (order a b)

-- what the cell between the vertices s and s + 1 steps from a is known to be
module _ (a b s : ℕ) (hs : s < far a b) where
  -- a corner of it
  pub axis_corner : (p : ℕ) → cell_at a b s ≤ p → p ≤ cell_at a b s + 1 → (s ≤ far a p) × (far a p ≤ s + 1)
  axis_corner p h k =
      ⊎_elim (λ (l : a < b). omega (arith, cell_up a b s l)) (λ (g : b ≤ a). omega (arith, cell_down a b s g)) (order a b)

  pub axis_within : (p : ℕ) → cell_at a b s ≤ p → p ≤ cell_at a b s + 1 → Within a b p
  axis_within p h k =
      ⊎_elim (λ (l : a < b). let e = cell_up a b s l in record { low = omega arith; high = omega arith })
      (λ (g : b ≤ a). let e = cell_down a b s g in record { low = omega arith; high = omega arith }) (order a b)

  -- its nearer and its farther corner
  pub axis_near : (cell_at a b s ≤ vertex_at a b s) × (vertex_at a b s ≤ cell_at a b s + 1) × (far a (vertex_at a b s) ≡ s)
  axis_near =
      ⊎_elim (λ (l : a < b). omega (arith, cell_up a b s l, vertex_up a b s l))
      (λ (g : b ≤ a). omega (arith, cell_down a b s g, vertex_down a b s g)) (order a b)

  pub axis_next : (cell_at a b s ≤ vertex_at a b (s + 1)) × (vertex_at a b (s + 1) ≤ cell_at a b s + 1) × (far a (vertex_at a b (s + 1)) ≡ s + 1)
  axis_next =
      ⊎_elim (λ (l : a < b). omega (arith, cell_up a b s l, vertex_up a b (s + 1) l))
      (λ (g : b ≤ a). omega (arith, cell_down a b s g, vertex_down a b (s + 1) g)) (order a b)

  -- it passes the span tests
  pub axis_spans : (min a b < cell_at a b s + 1) × (cell_at a b s < max a b)
  axis_spans =
      ⊎_elim (λ (l : a < b). omega (arith, cell_up a b s l)) (λ (g : b ≤ a). omega (arith, cell_down a b s g)) (order a b)

  -- it lies s cells from the first one
  pub axis_far : far (cell_at a b 0) (cell_at a b s) ≡ s
  axis_far =
      ⊎_elim (λ (l : a < b). omega (arith, cell_up a b 0 l, cell_up a b s l))
      (λ (g : b ≤ a). omega (arith, cell_down a b 0 g, cell_down a b s g)) (order a b)

  -- it is on the board if both ends are
  pub axis_on : (size : ℕ) → a ≤ size → b ≤ size → cell_at a b s < size
  axis_on size ha hb = omega (arith, axis_spans)

-- every cell that passes the span tests is some steps away
pub axis_of : (a b i : ℕ) → min a b < i + 1 → i < max a b → (s : ℕ) × (s < far a b) × (cell_at a b s ≡ i)
axis_of a b i h k =
    ⊎_elim (λ (l : a < b). (i - a, omega arith, omega (arith, cell_up a b (i - a) l)))
    (λ (g : b ≤ a). (a - (i + 1), omega arith, omega (arith, cell_down a b (a - (i + 1)) g))) (order a b)
