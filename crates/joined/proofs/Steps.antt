-- What each step keeps, every place has: along a line, and from one crossed cell of a leg to the next. Assumes nothing.
use Prim.Native.Nat.{ℕ, zero, suc, ◌+◌, ◌*◌, ◌≤◌, ◌<◌}
use mathlib.Core.Path.{◌≡◌}
use mathlib.Core.Logic.{⊎_elim}
use native.Mathlib.Nat.{eq-or-lt_of_le}
use native.Mathlib.Numerals.{add-one}
use native.Mathlib.Omega.{arith}
use Rattle.laws.proofs.Tests.{order}
use Rattle.legs.proofs.Crossing.{Crosses}

-- what holds at 0 and is kept by each step below n holds at n
pub by_steps : (R : ℕ → Type 0) (n : ℕ) → R 0 → ((u : ℕ) → u < n → R u → R (u + 1)) → R n
by_steps R zero start step = start
by_steps R (suc n) start step = rw (← add-one n) (step n (omega arith) (by_steps R n start (λ u l. step u (omega arith))))

-- in the leg's own frame of n columns and m rows, R of a crossed cell's nearer corner holds at the first end and is kept by each
-- step to the next crossed cell: beside this one, above it, or across the corner that the leg goes through
pub record Keeps (n m : ℕ) (R : ℕ → ℕ → Type 0) : Type 0 where
  pub start : R 0 0
  pub aside : (u v : ℕ) → u + 1 < n → v < m → Crosses n m u v → Crosses n m (u + 1) v → R u v → R (u + 1) v
  pub along : (u v : ℕ) → u < n → v + 1 < m → Crosses n m u v → Crosses n m u (v + 1) → R u v → R u (v + 1)
  pub across : (u v : ℕ) → u + 1 < n → v + 1 < m → Crosses n m u v → m * (u + 1) ≡ n * (v + 1) → R u v → R (u + 1) (v + 1)

module _ {n m : ℕ} {R : ℕ → ℕ → Type 0} (K : Keeps n m R) where
  -- then it holds of every crossed cell's nearer corner: the crossed cell before one lies by where the leg comes into it
  pub every_crossed : (u v : ℕ) → u < n → v < m → Crosses n m u v → R u v
  every_crossed zero zero hu hv c = K.start
  every_crossed (suc u) zero hu hv c =
      let c₁ : Crosses n m u 0 = (omega arith, omega arith) in
      let c₂ : Crosses n m (u + 1) 0 = (omega arith, omega arith) in
      rw (← add-one u) (K.aside u 0 (omega arith) hv c₁ c₂ (every_crossed u zero (omega arith) hv c₁))
  every_crossed zero (suc v) hu hv c =
      let c₁ : Crosses n m 0 v = (omega arith, omega arith) in
      let c₂ : Crosses n m 0 (v + 1) = (omega arith, omega arith) in
      rw (← add-one v) (K.along 0 v hu (omega arith) c₁ c₂ (every_crossed zero v hu (omega arith) c₁))
  every_crossed (suc u) (suc v) hu hv c =
      ⊎_elim
      (λ (l : n * suc v < m * suc u).
      let c₁ : Crosses n m u (suc v) = (omega arith, omega arith) in
      let c₂ : Crosses n m (u + 1) (suc v) = (omega arith, omega arith) in
      rw (← add-one u) (K.aside u (suc v) (omega arith) hv c₁ c₂ (every_crossed u (suc v) (omega arith) hv c₁)))
      (λ (g : m * suc u ≤ n * suc v). ⊎_elim
      (λ (e : m * suc u ≡ n * suc v).
      let c₁ : Crosses n m u v = (omega arith, omega arith) in
      rw (← add-one u, ← add-one v) (K.across u v (omega arith) (omega arith) c₁ (omega arith) (every_crossed u v (omega arith) (omega arith) c₁)))
      (λ (l : m * suc u < n * suc v).
      let c₁ : Crosses n m (suc u) v = (omega arith, omega arith) in
      let c₂ : Crosses n m (suc u) (v + 1) = (omega arith, omega arith) in
      rw (← add-one v) (K.along (suc u) v hu (omega arith) c₁ c₂ (every_crossed (suc u) v hu (omega arith) c₁)))
      (eq-or-lt_of_le g))
      (order (n * suc v) (m * suc u))
