-- The binary digits of a number, the first one highest: they make it, they are told from it, they are counted, and the low ones.
-- Assumes nothing.
use Prim.Native.Nat.{ℕ, zero, suc, ◌+◌, ◌*◌, ◌-◌, ◌/◌, ◌%◌, ◌^◌, ◌≤◌, ◌<◌}
use mathlib.Core.Path.{◌≡◌, refl, sym, ap, ◌∙◌}
use mathlib.Core.Logic.{⊎_elim}
use native.Mathlib.Nat.{pow-succ', two-pow-succ, div-div-eq-div-mul, div-one, mod-one, lt_of_lt_of_le}
use native.Mathlib.Numerals.{add-one}
use native.Mathlib.Omega.{arith}
use lib.Count.{ones, ones_step}
use lib.Dec.{eqb}
use lib.Pow.{mod-pow-add, pow_mono}
use Rattle.laws.specs.Below.{as_number, how_many}
use Rattle.laws.proofs.Tests.{order}
use Rattle.laws.proofs.Below.{many_same}
use Rattle.bits.specs.Packed.{bit_at, joined}

-- digit p of n digits; a byte's bit is one of 8
abbrev pub digit : (n a p : ℕ) → ℕ
digit n a p = a / 2 ^ (n - suc p) % 2

pub bit_digit : (a p : ℕ) → bit_at a p ≡ digit 8 a p
unfolding bit_at
bit_digit a p = let e : 7 - p ≡ 8 - suc p = omega arith in ap (λ (m : ℕ). a / 2 ^ m % 2) e

pub bit_le : (a p : ℕ) → bit_at a p ≤ 1
unfolding bit_at
bit_le a p = omega arith

-- the last digit is the number's parity, and those before it are the half's
lowest : (n a : ℕ) → digit (suc n) a n ≡ a % 2
lowest n a = let e : suc n - suc n ≡ 0 = omega arith in ap (λ (m : ℕ). a / 2 ^ m % 2) e ∙ ap (λ (q : ℕ). q % 2) (div-one a)

halved : (a m : ℕ) → a / 2 ^ suc m ≡ a / 2 / 2 ^ m
halved a m = ap (λ (q : ℕ). a / q) (pow-succ' 2 m) ∙ sym (div-div-eq-div-mul a 2 (2 ^ m))

higher : (n a p : ℕ) → p < n → digit (suc n) a p ≡ digit n (a / 2) p
higher n a p l =
    let e : suc n - suc p ≡ suc (n - suc p) = omega arith in
    ap (λ (m : ℕ). a / 2 ^ m % 2) e ∙ ap (λ (q : ℕ). q % 2) (halved a (n - suc p))

half_below : (n a : ℕ) → a < 2 ^ suc n → a / 2 < 2 ^ n
half_below n a l = omega (arith, two-pow-succ n)

-- ---- digits that are joined

pub joined_same : (n : ℕ) (f g : ℕ → ℕ) → ((p : ℕ) → p < n → f p ≡ g p) → joined n f ≡ joined n g
unfolding joined
joined_same zero f g e = refl
joined_same (suc n) f g e = omega (arith, joined_same n f g (λ p l. e p (omega arith)), e n (omega arith))

pub joined_more : (n : ℕ) (f : ℕ → ℕ) → joined (n + 1) f ≡ joined n f * 2 + f n
unfolding joined
joined_more n f = rw (add-one n)

pub joined_none : (f : ℕ → ℕ) → joined 0 f ≡ 0
unfolding joined
joined_none f = refl

module _ (f : ℕ → ℕ) (bit : (p : ℕ) → f p ≤ 1) where
  pub joined_below : (n : ℕ) → joined n f < 2 ^ n
  unfolding joined
  joined_below zero = omega arith
  joined_below (suc n) = omega (arith, joined_below n, bit n, two-pow-succ n)

  pub joined_fits : (n : ℕ) → n < 8 → joined n f < 128
  joined_fits n l = lt_of_lt_of_le (joined_below n) (pow_mono {j = 7} (omega arith))

  pub digit_joined : (n p : ℕ) → p < n → digit n (joined n f) p ≡ f p
  unfolding joined
  digit_joined zero p l = absurd (omega arith)
  digit_joined (suc n) p l =
      let half : (joined n f * 2 + f n) / 2 ≡ joined n f = omega (arith, bit n) in
      ⊎_elim
      (λ (b : p < n). higher n (joined n f * 2 + f n) p b ∙ ap (λ (a : ℕ). digit n a p) half ∙ digit_joined n p b)
      (λ (b : n ≤ p). let e : p ≡ n = omega arith in rw e (lowest n (joined n f * 2 + f n) ∙ omega (arith, bit n)))
      (order p n)

pub joined_digits : (n a : ℕ) → a < 2 ^ n → joined n (digit n a) ≡ a
unfolding joined
joined_digits zero a l = omega arith
joined_digits (suc n) a l =
    let e = joined_same n (digit (suc n) a) (digit n (a / 2)) (higher n a) ∙ joined_digits n (a / 2) (half_below n a l) in
    omega (arith, e, lowest n a)

-- ---- how many digits are 1

number_of_lem : (d : ℕ) → d ≤ 1 → as_number (eqb d 1) ≡ d
number_of_lem zero l = refl
number_of_lem (suc zero) l = refl
number_of_lem (suc (suc d)) l = absurd (omega arith)

no_ones : ones 0 ≡ 0
unfolding ones
no_ones = refl

pub ones_digits : (n a : ℕ) → a < 2 ^ n → how_many n (λ (p : ℕ). eqb (digit n a p) 1) ≡ ones a
unfolding how_many
ones_digits zero a l = let e : a ≡ 0 = omega arith in rw e (sym no_ones)
ones_digits (suc n) a l =
    let e =
    many_same (λ (p : ℕ). eqb (digit (suc n) a p) 1) (λ (p : ℕ). eqb (digit n (a / 2) p) 1) n
    (λ (p : ℕ) (b : p < n). ap (λ (d : ℕ). eqb d 1) (higher n a p b))
    ∙ ones_digits n (a / 2) (half_below n a l) in
    let last = number_of_lem (digit (suc n) a n) (omega arith) in
    omega (arith, e, last, lowest n a, ones_step a)

-- ---- the lowest f digits are 0 exactly if the number is a multiple of 2^f

low_part : (f a : ℕ) → a % 2 ^ suc f ≡ a / 2 % 2 ^ f * 2 + a % 2
low_part f a = rw (← (add-one f)) (mod-pow-add a f 1)

pub low_zero : (f a : ℕ) → a % 2 ^ f ≡ 0 → (m : ℕ) → m < f → a / 2 ^ m % 2 ≡ 0
low_zero zero a e m l = absurd (omega arith)
low_zero (suc f) a e zero l = ap (λ (q : ℕ). q % 2) (div-one a) ∙ omega (arith, low_part f a)
low_zero (suc f) a e (suc m) l =
    ap (λ (q : ℕ). q % 2) (halved a m) ∙ low_zero f (a / 2) (omega (arith, low_part f a)) m (omega arith)

pub low_clear : (f a : ℕ) → ((m : ℕ) → m < f → a / 2 ^ m % 2 ≡ 0) → a % 2 ^ f ≡ 0
low_clear zero a h = mod-one a
low_clear (suc f) a h =
    let e = low_clear f (a / 2) (λ m l. ap (λ (q : ℕ). q % 2) (sym (halved a m)) ∙ h (suc m) (omega arith)) in
    let z = ap (λ (q : ℕ). q % 2) (sym (div-one a)) ∙ h 0 (omega arith) in
    omega (arith, low_part f a, e, z)
