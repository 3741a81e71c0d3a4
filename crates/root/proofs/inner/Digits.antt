-- The root, two binary digits a turn: what a turn does to the remainder and the root so far. Assumes nothing.
use mathlib.Core.Path.{◌≡◌, refl, sym, ap, ap₂, ◌∙◌}
use Prim.Native.Nat.{ℕ, zero, suc, ◌+◌, ◌*◌, ◌-◌, ◌/◌, ◌%◌, ◌≤◌, ◌<◌, ◌^◌}
use native.Mathlib.Nat.{pow-suc, mul_assoc, add-mul, mul_right_comm, mul-lt-mul_of_pos_right, mod-lt, mod-eq_of_lt, lt_of_lt_of_le}
use native.Mathlib.Numerals.{add-one, add-one-le}
use native.Mathlib.Omega.{arith}
use lib.Pow.{pow_pos, pow_mono, pow-add}
use lib.Count.{count_leading_zeros, leading_top}
use lib.Dec.{lit<}
use Rattle.root.specs.Root.{Bounds}
use Rattle.root.proofs.Root.{even, odd, next}

-- a word's values, and a quarter of them
abbrev pub word : ℕ
word = 18446744073709551616

abbrev pub quarter : ℕ
quarter = 4611686018427387904

-- after k turns: of n × 4^k, seen as k pairs of digits before the point, root² + remainder stand before it and the rest after it
pub record Digits (n rest remainder root k : ℕ) : Type 0 where
  pub whole : (root * root + remainder) * word + rest ≡ n * 4 ^ k
  pub fits : rest < word
  pub small : remainder ≤ root * 2
  pub short : root + 1 ≤ 2 ^ k
  pub turns : k ≤ 32

-- ---- the start: leading pairs of zeros give no digit of the root, so the turns that would take them are skipped

pairs_as_bits : (k : ℕ) → 2 ^ (2 * k) ≡ 4 ^ k
pairs_as_bits zero = refl
pairs_as_bits (suc k) = let e : 2 * suc k ≡ 2 * k + 2 = omega arith in rw (e, pow-add 2 (2 * k) 2, pairs_as_bits k, pow-suc 4 k)

module _ (n : ℕ) (p : 0 < n) (h : n < word) where
  abbrev skip : ℕ
  skip = count_leading_zeros 64 n / 2

  pub skip_short : 2 * skip < 64
  skip_short = omega (arith, (leading_top 64 n p h).1)

  -- what is left is moved to the top of the word, and nothing is lost
  skip_fits : n * 2 ^ (2 * skip) < word
  skip_fits =
      let t = leading_top 64 n p h in
      lt_of_lt_of_le (mul-lt-mul_of_pos_right t.3 (pow_pos (2 * skip)))
      (rw (← (pow-add 2 (suc t.0) (2 * skip))) (pow_mono {j = 64} (omega (arith, t.1))))

  pub digits_start : Digits n (n * 2 ^ (2 * skip) % word) 0 0 skip
  digits_start =
      record {
        whole = rw (mod-eq_of_lt skip_fits, pairs_as_bits skip) (omega arith);
        fits = mod-lt (n * 2 ^ (2 * skip)) (lit< tt);
        small = omega arith;
        short = pow_pos skip;
        turns = omega (arith, skip_short);
      }

pub digits_end : {n rest remainder root k : ℕ} → Digits n rest remainder root k → 32 ≤ k → Bounds n root
digits_end {n} {rest} {remainder} {root} {k} d h =
    let e : k ≡ 32 = omega arith in
    let p : (root * root + remainder) * word + rest ≡ n * word = d.whole ∙ ap (λ (z : ℕ). n * 4 ^ z) e in
    record { low = omega arith; high = omega (arith, next root) }

-- ---- arithmetic of a turn, with the word as a variable: `omega` stops at numbers of more than 38 digits

pairs : (w Q m p x y E F : ℕ) → (Q + m) * w + x ≡ E → p * w + y ≡ x * 4 → F ≡ Q * 4 + m * 4 + p → F * w + y ≡ E * 4
pairs w Q m p x y E F h g f =
    let a : (Q + m) * w ≡ Q * w + m * w = add-mul Q m w in
    let b : F * w ≡ Q * w * 4 + m * w * 4 + p * w =
    ap (λ (z : ℕ). z * w) f
    ∙ add-mul (Q * 4 + m * 4) p w
    ∙ ap (λ (z : ℕ). z + p * w) (add-mul (Q * 4) (m * 4) w ∙ ap₂ (λ (x y : ℕ). x + y) (mul_right_comm Q 4 w) (mul_right_comm m 4 w)) in
    omega arith

cut : (rest : ℕ) → rest < word → rest / quarter * word + rest * 4 % word ≡ rest * 4
cut rest h = omega arith

scale : (n k : ℕ) → n * 4 ^ (k + 1) ≡ n * 4 ^ k * 4
scale n k = ap (λ (z : ℕ). n * z) (ap (λ (z : ℕ). 4 ^ z) (add-one k) ∙ pow-suc 4 k) ∙ sym (mul_assoc n (4 ^ k) 4)

double : (k : ℕ) → 2 ^ (k + 1) ≡ 2 ^ k * 2
double k = ap (λ (z : ℕ). 2 ^ z) (add-one k) ∙ pow-suc 2 k

module _ {n rest remainder root k : ℕ} (d : Digits n rest remainder root k) where
  top : 2 ^ k ≤ 4294967296
  top = pow_mono d.turns

  -- neither number comes near the top of a word
  pub root_short : root < 4294967296
  root_short = omega (arith, d.short, top)

  pub remainder_short : remainder ≤ 8589934592
  remainder_short = omega (arith, d.small, d.short, top)

  pub remainder_shift : remainder * 4 % word ≡ remainder * 4
  remainder_shift = omega (arith, remainder_short)

  pub root_shift : root * 4 % word ≡ root * 4
  root_shift = omega (arith, root_short)

  pub root_double : root * 2 % word ≡ root * 2
  root_double = omega (arith, root_short)

  pub pair : rest / quarter ≤ 3
  pair = omega (arith, d.fits)

  module _ (h : k < 32) where
    -- the trial is too large: the next digit is 0
    pub digit_0 : remainder * 4 + rest / quarter < root * 4 + 1 → Digits n (rest * 4 % word) (remainder * 4 + rest / quarter) (root * 2) (k + 1)
    digit_0 g = record {
      whole =
          pairs word (root * root) remainder (rest / quarter) rest (rest * 4 % word) (n * 4 ^ k) (root * 2 * (root * 2) + (remainder * 4 + rest / quarter)) d.whole
          (cut rest d.fits) (omega (arith, even root))
          ∙ sym (scale n k);
      fits = mod-lt (rest * 4) (lit< tt);
      small = omega arith;
      short = omega (arith, d.short, double k);
      turns = add-one-le h;
    }

    -- the trial fits: the next digit is 1
    pub digit_1 : root * 4 + 1 ≤ remainder * 4 + rest / quarter → Digits n (rest * 4 % word) (remainder * 4 + rest / quarter - (root * 4 + 1)) (root * 2 + 1) (k + 1)
    digit_1 g = record {
      whole =
          pairs word (root * root) remainder (rest / quarter) rest (rest * 4 % word) (n * 4 ^ k)
          ((root * 2 + 1) * (root * 2 + 1) + (remainder * 4 + rest / quarter - (root * 4 + 1))) d.whole (cut rest d.fits) (omega (arith, odd root))
          ∙ sym (scale n k);
      fits = mod-lt (rest * 4) (lit< tt);
      small = omega (arith, d.small, pair);
      short = omega (arith, d.short, double k);
      turns = add-one-le h;
    }
