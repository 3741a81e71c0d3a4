-- A rounded quotient of a direction: its sign, where it is 0 or 1, and that it is at most 1 in size. Assumes nothing.
use mathlib.Core.Path.{◌≡◌, refl, sym, ap, ◌∙◌, subst}
use mathlib.Core.Bool.{Bool, true, false, cond}
use Prim.Native.Nat.{ℕ, zero, suc, ◌+◌, ◌*◌, ◌^◌, ◌≤◌, ◌<◌}
use native.Mathlib.Omega.{arith}
use native.Mathlib.Nat.{mul_comm, mul-pos, le_trans, le_of_eq, mul-one, one-mul, zero-mul}
use lib.IntN.{ℤ, pos, nat_abs}
use lib.Signed.{lt_z}
use lib.Dec.{T, lit<, ltb}
use lib.Ieee.{Float, nan, inf, fin, Format, binary64, prec, emax, low, round, neg, le, units, odd, div, of_int}
use lib.Ieee.Scale.{round_same}
use lib.Ieee.Order.{round_mono}
use Rattle.board.specs.Limits.{largest_side}
use Rattle.length.specs.Units.{units_per_cell}
use Rattle.length.proofs.Floats.{divided}
use Rattle.direction.specs.Answers.{quotient}
use Rattle.direction.specs.Directions.{magnitude}

-- ---- a sign set aside: rounding and then negating is rounding the negative

negated : (f : Format) (q k : ℕ) → neg (units f false q k) ≡ units f true q k
unfolding neg units odd
negated f zero k = go (ltb (zero * 2 ^ k) (2 ^ (low f + suc (emax f))))
  where
    go : (b : Bool) → neg (cond b (fin false zero (pos zero)) (inf false)) ≡ cond b (fin true zero (pos zero)) (inf true)
    go true = refl
    go false = refl
negated f (suc q) k = go (ltb (suc q * 2 ^ k) (2 ^ (low f + suc (emax f))))
  where
    go : (b : Bool) → neg (cond b (odd (suc (prec f)) false (suc q) k (low f)) (inf false)) ≡ cond b (odd (suc (prec f)) true (suc q) k (low f)) (inf true)
    go true = refl
    go false = refl

pub round_neg : (f : Format) (a b : ℕ) → neg (round f false a b) ≡ round f true a b
unfolding round
round_neg f a b = negated f _ _

-- the machine's division of two whole numbers, with the sign set after it, is the quotient
module _ (d : ℤ) {n u : ℕ} (e : n ≡ nat_abs d) (small : nat_abs d ≤ largest_side) (U : 0 < u) (V : u < 2 ^ 53) where
  rounded : div binary64 (of_int binary64 (pos (n * units_per_cell))) (of_int binary64 (pos u)) ≡ round binary64 false (nat_abs d * units_per_cell) u
  rounded = rw e (divided (nat_abs d * units_per_cell) u (omega arith) U V)

  pub divided_below : lt_z d (pos 0) ≡ true → neg (div binary64 (of_int binary64 (pos (n * units_per_cell))) (of_int binary64 (pos u))) ≡ quotient d u
  unfolding quotient
  divided_below h = rw h (ap neg rounded ∙ round_neg binary64 (nat_abs d * units_per_cell) u)

  pub divided_above : lt_z d (pos 0) ≡ false → div binary64 (of_int binary64 (pos (n * units_per_cell))) (of_int binary64 (pos u)) ≡ quotient d u
  unfolding quotient
  divided_above h = rw h rounded

-- ---- what a direction is

one : (s : Bool) → round binary64 s 1 1 ≡ fin s 1 (pos 0)
unfolding round
one true = refl
one false = refl

-- a difference of 0 gives +0
pub quotient_zero : (u : ℕ) → 0 < u → quotient (pos 0) u ≡ fin false 0 (pos 0)
unfolding quotient round
quotient_zero u U = round_same binary64 false 0 u 0 1 U (lit< tt) (sym (zero-mul u))

-- on an axis, where the length is the difference itself, it is exactly 1 or −1
pub quotient_axis : (d : ℤ) → 0 < nat_abs d → quotient d (nat_abs d * units_per_cell) ≡ fin (lt_z d (pos 0)) 1 (pos 0)
unfolding quotient round
quotient_axis d p =
    round_same binary64 (lt_z d (pos 0)) (nat_abs d * units_per_cell) (nat_abs d * units_per_cell) 1 1 (mul-pos p (lit< tt)) (lit< tt) (mul_comm (nat_abs d * units_per_cell) 1)
    ∙ one (lt_z d (pos 0))

size_neg : (x : Float) → magnitude (neg x) ≡ magnitude x
unfolding neg
size_neg nan = refl
size_neg (inf s) = refl
size_neg (fin s m e) = refl

size_units : (f : Format) (q k : ℕ) → magnitude (units f false q k) ≡ units f false q k
unfolding units odd
size_units f zero k = go (ltb (zero * 2 ^ k) (2 ^ (low f + suc (emax f))))
  where
    go : (b : Bool) → magnitude (cond b (fin false zero (pos zero)) (inf false)) ≡ cond b (fin false zero (pos zero)) (inf false)
    go true = refl
    go false = refl
size_units f (suc q) k = go (ltb (suc q * 2 ^ k) (2 ^ (low f + suc (emax f))))
  where
    go : (b : Bool) → magnitude (cond b (odd (suc (prec f)) false (suc q) k (low f)) (inf false)) ≡ cond b (odd (suc (prec f)) false (suc q) k (low f)) (inf false)
    go true = refl
    go false = refl

size_plain : (f : Format) (a b : ℕ) → magnitude (round f false a b) ≡ round f false a b
unfolding round
size_plain f a b = size_units f _ _

size_round : (s : Bool) (a b : ℕ) → magnitude (round binary64 s a b) ≡ round binary64 false a b
size_round false a b = size_plain binary64 a b
size_round true a b = ap magnitude (sym (round_neg binary64 a b)) ∙ size_neg (round binary64 false a b) ∙ size_plain binary64 a b

-- no difference beyond the length gives more than 1 in size
pub quotient_most : (d : ℤ) (u : ℕ) → 0 < u → nat_abs d * units_per_cell ≤ u → T (le (magnitude (quotient d u)) (fin false 1 (pos 0)))
unfolding quotient
quotient_most d u U h =
    let a = nat_abs d * units_per_cell in
    rw (size_round (lt_z d (pos 0)) a u)
    (subst (λ (z : Float). T (le (round binary64 false a u) z)) (one false)
    (round_mono binary64 a u 1 1 U (lit< tt) (le_trans (le_of_eq (mul-one a)) (le_trans h (le_of_eq (sym (one-mul u)))))))
