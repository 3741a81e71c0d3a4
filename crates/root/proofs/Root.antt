-- The whole square root: the definition's is the largest, and exactly one number is. Assumes nothing.
use mathlib.Core.Path.{◌≡◌, refl, ap, ◌∙◌}
use mathlib.Core.Logic.{◌≢◌}
use mathlib.Core.Bool.{Bool, true, false, cond, not}
use Prim.Native.Nat.{ℕ, zero, suc, ◌+◌, ◌*◌, ◌/◌, ◌^◌, ◌≤◌, ◌<◌}
use native.Mathlib.Nat.{mul_comm, mul_assoc, mul_left_comm, mul-add, add-mul, mul-le-mul, mul-le-mul_left, mul-lt-mul_of_pos_left, mul-pos, le_trans, le_antisymm, lt_of_not-le, not-le_of_lt, lt_of_lt_of_le, pow-suc}
use native.Mathlib.Decide.{ℕ_discrete}
use native.Mathlib.Omega.{arith}
use lib.Dec.{T, leb, leb→le, nleb→lt}
use borrow.Author.Tests.{ne_eqb}
use Rattle.root.specs.Root.{Largest, Bounds, doubled, root_in, root}

-- ---- squares

pub even : (r : ℕ) → (r * 2) * (r * 2) ≡ (r * r) * 4
even r = simp (mul_comm, mul_assoc, mul_left_comm) (omega arith)

pub odd : (r : ℕ) → (r * 2 + 1) * (r * 2 + 1) ≡ (r * r) * 4 + r * 4 + 1
odd r = mul-add (r * 2 + 1) (r * 2) 1 ∙ ap (λ (z : ℕ). z + (r * 2 + 1) * 1) (add-mul (r * 2) 1 (r * 2) ∙ ap (λ (z : ℕ). z + 1 * (r * 2)) (even r)) ∙ omega arith

pub next : (r : ℕ) → (r + 1) * (r + 1) ≡ r * r + r * 2 + 1
next r = mul-add (r + 1) r 1 ∙ ap (λ (z : ℕ). z + (r + 1) * 1) (add-mul r 1 r) ∙ omega arith

-- a root is below each number whose square is above
pub below : (a b n : ℕ) → a * a ≤ n → n < (b + 1) * (b + 1) → a ≤ b
below a b n p q = down (lt_of_not-le (λ (g : b + 1 ≤ a). not-le_of_lt (lt_of_lt_of_le q (mul-le-mul g g)) p))
  where
    down : a < b + 1 → a ≤ b
    down h = omega arith

-- ---- exactly one number has the bounds, and it is the largest

pub bounds_one : {n u v : ℕ} → Bounds n u → Bounds n v → u ≡ v
bounds_one {n} {u} {v} p q = le_antisymm (below u v n p.low q.high) (below v u n q.low p.high)

pub bounds_largest : {n u : ℕ} → Bounds n u → Largest n u
bounds_largest {n} {u} b = record { fits = b.low; most = λ v h. below v u n h b.high }

-- ---- the definition's root has them

step : (r n : ℕ) → Bounds (n / 4) r → Bounds n (doubled r n)
step r n b = go (leb ((r * 2 + 1) * (r * 2 + 1)) n) (leb→le ((r * 2 + 1) * (r * 2 + 1)) n) (nleb→lt ((r * 2 + 1) * (r * 2 + 1)) n)
  where
    go : (x : Bool) → (T x → (r * 2 + 1) * (r * 2 + 1) ≤ n) → (T (not x) → n < (r * 2 + 1) * (r * 2 + 1)) → Bounds n (cond x (r * 2 + 1) (r * 2))
    go true h k = record { low = h tt; high = omega (arith, next (r * 2 + 1), odd r, next r, b.high) }
    go false h k = record { low = omega (arith, even r, b.low); high = k tt }

more : (k n : ℕ) → n ≢ 0 → root_in (suc k) n ≡ doubled (root_in k (n / 4)) n
unfolding root_in
more k n h = rw (ne_eqb n 0 h, root_in)

none : (k : ℕ) → root_in k 0 ≡ 0
unfolding root_in
none zero = refl
none (suc k) = refl

in_bounds : (k n : ℕ) → n < 4 ^ k → Bounds n (root_in k n)
in_bounds zero n h = let e : n ≡ 0 = omega arith in rw (e, none 0) (record { low = omega arith; high = omega arith })
in_bounds (suc k) n h = go (ℕ_discrete n 0) (in_bounds k (n / 4) (omega (arith, pow-suc 4 k)))
  where
    go : Dec (n ≡ 0) → Bounds (n / 4) (root_in k (n / 4)) → Bounds n (root_in (suc k) n)
    go (yes e) b = rw (e, none (suc k)) (record { low = omega arith; high = omega arith })
    go (no e) b = rw (more k n e) (step (root_in k (n / 4)) n b)

-- as many turns as the number says are enough
enough : (n : ℕ) → n < 4 ^ n
enough zero = omega arith
enough (suc n) = omega (arith, enough n, pow-suc 4 n)

pub root_bounds : (n : ℕ) → Bounds n (root n)
unfolding root
root_bounds n = in_bounds n n (enough n)

pub root_largest : (n : ℕ) → Largest n (root n)
root_largest n = bounds_largest (root_bounds n)

-- ---- a finer measure: with m parts to a unit, a root of u units has at least m × u parts, and fewer than m × (u + 1)

product_square : (m a : ℕ) → m * a * (m * a) ≡ m * m * (a * a)
product_square m a = simp (mul_assoc, mul_left_comm)

pub finer_low : (m n : ℕ) → m * root n ≤ root (m * m * n)
finer_low m n =
    below (m * root n) (root (m * m * n)) (m * m * n) (rw product_square (mul-le-mul_left (m * m) (root_bounds n).low)) (root_bounds (m * m * n)).high

pub finer_high : (m n : ℕ) → 0 < m → root (m * m * n) < m * (root n + 1)
finer_high m n p =
    lt_of_not-le (λ (g : m * (root n + 1) ≤ root (m * m * n)). not-le_of_lt above (le_trans (mul-le-mul g g) (root_bounds (m * m * n)).low))
  where
    above : m * m * n < m * (root n + 1) * (m * (root n + 1))
    above = rw product_square (mul-lt-mul_of_pos_left (root_bounds n).high (mul-pos p p))
