-- A leg's cells by their indices: steps from one to the next. Assumes nothing.
use Prim.Native.Nat.{ℕ, ◌+◌, ◌*◌, ◌-◌, ◌≤◌, ◌<◌}
use mathlib.Core.Path.{◌≡◌, ap}
use mathlib.Core.Logic.{⊎_elim}
use native.Mathlib.Omega.{arith}
use borrow.Author.Tests.{lt-ltb, le-ltb}
use Rattle.laws.proofs.Tests.{order}
use Rattle.legs.specs.Leg.{far, vertex_at, cell_at}
use Rattle.walls.specs.Leg.{forward}
use Rattle.legs.proofs.Axis.{cell_up, cell_down, vertex_up, vertex_down, vertex_end}

-- steps in a list where neighbours lie `stride` apart, on one axis of a leg from a to b

module _ (a b stride : ℕ) where
  forward_up : a < b → (forward a b stride ≡ stride) × (forward b a stride ≡ 0)
  unfolding forward
  forward_up h = (rw (lt-ltb a b h), rw (le-ltb b a (omega arith)))

  forward_down : b < a → (forward a b stride ≡ 0) × (forward b a stride ≡ stride)
  unfolding forward
  forward_down h = (rw (le-ltb a b (omega arith)), rw (lt-ltb b a h))

  pub forward_most : forward a b stride ≤ stride
  unfolding forward
  forward_most = ⊎_elim (λ (l : a < b). rw (lt-ltb a b l) (omega arith)) (λ (g : b ≤ a). rw (le-ltb a b g) (omega arith)) (order a b)

  -- from a vertex to the next one
  vertex_step : (s : ℕ) → s < far a b → vertex_at a b (s + 1) * stride + forward b a stride ≡ vertex_at a b s * stride + forward a b stride
  vertex_step s h =
      ⊎_elim
      (λ (l : a < b). rw (vertex_up a b s l, vertex_up a b (s + 1) l, (forward_up l).0, (forward_up l).1) (omega arith))
      (λ (g : b ≤ a).
      let z : a - s ≡ (a - (s + 1)) + 1 = omega arith in
      rw (vertex_down a b s g, vertex_down a b (s + 1) g, (forward_down (omega arith)).0, (forward_down (omega arith)).1, z) (omega arith)) (order a b)

  -- from a vertex to the cell ahead of it
  pub cell_step : (s : ℕ) → s < far a b → cell_at a b s * stride + forward b a stride ≡ vertex_at a b s * stride
  cell_step s h =
      ⊎_elim
      (λ (l : a < b). rw (vertex_up a b s l, cell_up a b s l, (forward_up l).1) (omega arith))
      (λ (g : b ≤ a).
      let z : a - s ≡ (a - (s + 1)) + 1 = omega arith in
      rw (vertex_down a b s g, cell_down a b s g, (forward_down (omega arith)).1, z) (omega arith)) (order a b)

  -- and from that cell to the next one
  pub cell_next : (s : ℕ) → s + 1 < far a b → cell_at a b (s + 1) * stride + forward b a stride ≡ cell_at a b s * stride + forward a b stride
  cell_next s h =
      let l : s < far a b = omega arith in
      omega (arith, vertex_step s l, cell_step s l, cell_step (s + 1) h)

  -- and from the last one to the end
  pub cell_end : (s : ℕ) → s + 1 ≡ far a b → cell_at a b s * stride + forward a b stride ≡ b * stride
  cell_end s e =
      let l : s < far a b = omega arith in
      omega (arith, vertex_step s l, cell_step s l, ap (λ (z : ℕ). z * stride) (vertex_end a b (s + 1) e))

-- whatever the ends, a step is at most the stride
pub forward_fits : (a b stride : ℕ) {r : ℕ} → r ≡ forward a b stride → r ≤ stride
forward_fits a b stride e = rw e (forward_most a b stride)
