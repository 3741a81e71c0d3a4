-- An integer as the difference of two whole numbers, so that `omega` can read it. Assumes nothing.
use Prim.Native.Nat.{ℕ, zero, suc, ◌+◌, ◌*◌, ◌-◌, ◌≤◌, ◌<◌}
use mathlib.Core.Path.{◌≡◌, refl}
use mathlib.Core.Logic.{⊎_elim}
use mathlib.Core.Bool.{true, false}
use native.Mathlib.Omega.{arith}
use borrow.Author.Tests.{lt-ltb, le-ltb}
use lib.IntN.{ℤ, pos, negsuc, neg_ℤ, sub_ℕ, nat_abs, ◌+ℤ◌, ◌-ℤ◌, ◌*ℤ◌}
use lib.Signed.{lt_z}
use Rattle.laws.proofs.Tests.{order}

-- z is a − b
abbrev pub Diff : ℤ → ℕ → ℕ → Type 0
Diff (pos k) a b = a ≡ b + k
Diff (negsuc k) a b = b ≡ a + suc k

pub diff_move : (z : ℤ) (a b c d : ℕ) → Diff z a b → a + d ≡ c + b → Diff z c d
diff_move (pos k) a b c d p e = omega arith
diff_move (negsuc k) a b c d p e = omega arith

diff_sub : (a b : ℕ) → Diff (sub_ℕ a b) a b
diff_sub a b =
    ⊎_elim (λ (l : a < b). rw (lt-ltb a b l) (omega arith)) (λ (g : b ≤ a). rw (le-ltb a b g) (omega arith)) (order a b)

pub diff_neg : (z : ℤ) (a b : ℕ) → Diff z a b → Diff (neg_ℤ z) b a
diff_neg (pos zero) a b p = omega arith
diff_neg (pos (suc k)) a b p = omega arith
diff_neg (negsuc k) a b p = omega arith

pub diff_add : (z y : ℤ) (a b c d : ℕ) → Diff z a b → Diff y c d → Diff (z +ℤ y) (a + c) (b + d)
diff_add (pos k) (pos l) a b c d p q = omega arith
diff_add (pos k) (negsuc l) a b c d p q = diff_move (sub_ℕ k (suc l)) k (suc l) (a + c) (b + d) (diff_sub k (suc l)) (omega arith)
diff_add (negsuc k) (pos l) a b c d p q = diff_move (sub_ℕ l (suc k)) l (suc k) (a + c) (b + d) (diff_sub l (suc k)) (omega arith)
diff_add (negsuc k) (negsuc l) a b c d p q = omega arith

pub diff_mul : (z y : ℤ) (a b c d : ℕ) → Diff z a b → Diff y c d → Diff (z *ℤ y) (a * c + b * d) (a * d + b * c)
diff_mul (pos k) (pos l) a b c d p q = rw (p, q) (omega arith)
diff_mul (pos k) (negsuc l) a b c d p q =
    diff_neg (pos (k * suc l)) (a * d + b * c) (a * c + b * d) (rw (p, q) (omega arith))
diff_mul (negsuc k) (pos l) a b c d p q =
    diff_neg (pos (suc k * l)) (a * d + b * c) (a * c + b * d) (rw (p, q) (omega arith))
diff_mul (negsuc k) (negsuc l) a b c d p q = rw (p, q) (omega arith)

pub diff_pos : (a b : ℕ) → Diff (pos a -ℤ pos b) a b
diff_pos a b =
    diff_move (pos a -ℤ pos b) (a + 0) (0 + b) a b (diff_add (pos a) (neg_ℤ (pos b)) a 0 0 b (omega arith) (diff_neg (pos b) b 0 (omega arith))) (omega arith)

-- ---- what a difference says of the integer

pub diff_size : (z : ℤ) (a b : ℕ) → Diff z a b → nat_abs z ≡ (a - b) + (b - a)
diff_size (pos k) a b p = omega arith
diff_size (negsuc k) a b p = omega arith

pub diff_below : (z : ℤ) (a b : ℕ) → Diff z a b → a < b → lt_z z (pos 0) ≡ true
diff_below (pos k) a b p l = absurd (no a b k p l)
  where
    no : (a b k : ℕ) → a ≡ b + k → a < b → ⊥
    no a b k p l = omega arith
diff_below (negsuc k) a b p l = refl

pub diff_above : (z : ℤ) (a b : ℕ) → Diff z a b → b ≤ a → lt_z z (pos 0) ≡ false
diff_above (pos k) a b p l = le-ltb k 0 (omega arith)
diff_above (negsuc k) a b p l = absurd (no a b k p l)
  where
    no : (a b k : ℕ) → b ≡ a + suc k → b ≤ a → ⊥
    no a b k p l = omega arith
