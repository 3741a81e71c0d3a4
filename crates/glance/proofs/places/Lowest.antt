-- The lowest set bit of a number: where it is, and what is left without it. Assumes nothing.
use Prim.Native.Nat.{ℕ, zero, suc, ◌-◌, ◌/◌, ◌%◌, ◌^◌, ◌≤◌, ◌<◌, min}
use mathlib.Core.Path.{◌≡◌}
use mathlib.Core.Logic.{⊎_elim}
use mathlib.Core.Bool.{false, ◌&&◌}
use native.Mathlib.Nat.{two-pow-succ}
use native.Mathlib.Omega.{arith}
use borrow.Author.Tests.{lt-ltb, le-ltb, eq-eqb, ne_eqb, eqb-true, eqb-false}
use lib.Dec.{ltb}
use lib.Bits.{bit_and, and_step, and_self, and_le_r}
use lib.Count.{count_trailing_zeros}
use Rattle.laws.proofs.Tests.{order}
use Rattle.glance.specs.Glance.{bit, Lowest, Without}

-- ---- where it is

lowest_odd : (n : ℕ) → n % 2 ≡ 1 → Lowest n 0
unfolding bit
lowest_odd n e = record { set = eq-eqb (n % 2) 1 e; below = λ k h. absurd (omega arith) }

lowest_even : (n z : ℕ) → n % 2 ≡ 0 → Lowest (n / 2) z → Lowest n (suc z)
unfolding bit
lowest_even n z e L = record { set = L.set; below = below }
  where
    below : (k : ℕ) → k < suc z → bit n k ≡ false
    below zero h = ne_eqb (n % 2) 1 (λ f. omega arith)
    below (suc k) h = L.below k (omega arith)

pub lowest_is : (d n : ℕ) → 0 < n → n < 2 ^ d → Lowest n (count_trailing_zeros d n)
unfolding count_trailing_zeros
lowest_is zero n some few = absurd (omega arith)
lowest_is (suc d) n some few =
    ⊎_elim
    (λ (e : n % 2 < 1).
    let even : n % 2 ≡ 0 = omega arith in
    rw even (lowest_even n (count_trailing_zeros d (n / 2)) even (lowest_is d (n / 2) (omega arith) (omega (arith, two-pow-succ d)))))
    (λ (e : 1 ≤ n % 2). let odd : n % 2 ≡ 1 = omega arith in rw odd (lowest_odd n odd))
    (order (n % 2) 1)

-- ---- what is left without it

-- the bits of both numbers, the last one and those of the halves
both_last : (a b : ℕ) → min (a % 2) (b % 2) ≡ 0 → bit (bit_and a b) 0 ≡ false
unfolding bit
both_last a b e = ne_eqb (bit_and a b % 2) 1 (λ f. omega (arith, and_step a b))

both_halved : (a b : ℕ) → bit_and a b / 2 ≡ bit_and (a / 2) (b / 2)
both_halved a b = omega (arith, and_step a b)

one_later : (z k : ℕ) → ltb (suc z) (suc k) ≡ ltb z k
one_later z k =
    ⊎_elim (λ (l : z < k). rw (lt-ltb z k l, lt-ltb (suc z) (suc k) (omega arith)))
    (λ (g : k ≤ z). rw (le-ltb z k g, le-ltb (suc z) (suc k) (omega arith))) (order z k)

cleared : (z n : ℕ) → Lowest n z → (k : ℕ) → bit (bit_and n (n - 1)) k ≡ (ltb z k && bit n k)
unfolding bit
cleared zero n L zero =
    let odd : n % 2 ≡ 1 = eqb-true (n % 2) 1 L.set in
    both_last n (n - 1) (omega arith)
cleared zero n L (suc k) =
    let odd : n % 2 ≡ 1 = eqb-true (n % 2) 1 L.set in
    let same : (n - 1) / 2 ≡ n / 2 = omega arith in
    rw (both_halved n (n - 1), same, and_self (n / 2), lt-ltb 0 (suc k) (omega arith))
cleared (suc z) n L zero =
    rw (le-ltb (suc z) 0 (omega arith)) (both_last n (n - 1) (omega (arith, eqb-false (n % 2) 1 (L.below 0 (omega arith)))))
cleared (suc z) n L (suc k) =
    let half : Lowest (n / 2) z = record { set = L.set; below = λ j h. L.below (suc j) (omega arith) } in
    let one_less : (n - 1) / 2 ≡ n / 2 - 1 = omega (arith, eqb-false (n % 2) 1 (L.below 0 (omega arith))) in
    rw (both_halved n (n - 1), one_less, one_later z k) (cleared z (n / 2) half k)

pub without_is : (n : ℕ) → 0 < n → Without n (bit_and n (n - 1))
without_is n some = record { less = omega (arith, and_le_r n (n - 1)); others = λ z L k. cleared z n L k }
