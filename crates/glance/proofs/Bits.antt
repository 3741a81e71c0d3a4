-- The answer's bits: the number of the four cells has sixteen values, and for each the bits are computed. Assumes nothing.
use Prim.Native.Nat.{ℕ, zero, suc, ◌+◌, ◌*◌, ◌/◌, ◌%◌, ◌^◌, ◌≤◌, ◌<◌}
use mathlib.Core.Path.{◌≡◌, refl, sym, ◌∙◌}
use mathlib.Core.Logic.{◌≢◌, ⊎_elim}
use mathlib.Core.Bool.{Bool, true, false, not, ◌&&◌, beq}
use native.Mathlib.Nat.{lt_of_lt_of_le, two-pow-succ}
use native.Mathlib.Omega.{arith}
use borrow.Author.Tests.{ltb-true, leb-true, le-leb, eqb-false, ne_eqb, not-true}
use lib.Bits.{bit_and, bit_or, bit_xor}
use lib.Dec.{leb, ltb, eqb}
use lib.Pow.{pow_mono}
use Rattle.laws.specs.Below.{every, as_number}
use Rattle.laws.proofs.Tests.{order, and_both, and_left, and_right, false_of}
use Rattle.laws.proofs.Below.{every_at}
use Rattle.glance.specs.Glance.{bit, in_one}

-- what `sighted` answers for the number c of the four cells; 1879 has a bit for each of the eight neighbours
abbrev pub answer : ℕ → ℕ
answer c = bit_xor (bit_or (bit_or c (bit_and (c * 2 % 2 ^ 64) (c / 2))) (bit_and (c * 16 % 2 ^ 64) (c / 16))) 1879

-- the number of four cells
abbrev pub cells_number : (nw ne sw se : Bool) → ℕ
cells_number nw ne sw se = in_one (as_number nw) (as_number ne) (as_number sw) (as_number se)

-- the first for 0, else the second; and so the four cells by column and row, 0 or 1 each
abbrev pub pick : (first second : Bool) (u : ℕ) → Bool
pick first second zero = first
pick first second (suc u) = second

abbrev pub cell_of : (nw ne sw se : Bool) (u v : ℕ) → Bool
cell_of nw ne sw se u v = pick (pick nw ne u) (pick sw se u) v

-- the place k is that of a neighbour
abbrev pub is_place : ℕ → Bool
is_place k = (leb (k % 4) 2 && leb (k / 4) 2) && not (eqb k 5)

-- the neighbour in column i and row j of the places is hidden where the cells beside the step are shut: two on an axis, else one, twice
abbrev pub hidden : (cell : ℕ → ℕ → Bool) (i j : ℕ) → Bool
hidden cell i j = cell (i / 2) (j / 2) && cell ((i + 1) / 2) ((j + 1) / 2)

-- what the bit k is to be
abbrev pub told : (cell : ℕ → ℕ → Bool) (k : ℕ) → Bool
told cell k = is_place k && not (hidden cell (k % 4) (k / 4))

-- the answer has eleven bits, and each is as told
abbrev tells : (nw ne sw se : Bool) → Bool
tells nw ne sw se =
    ltb (answer (cells_number nw ne sw se)) (2 ^ 11)
    && every 11 (λ (k : ℕ). beq (bit (answer (cells_number nw ne sw se)) k) (told (cell_of nw ne sw se) k))

sixteen : (nw ne sw se : Bool) → tells nw ne sw se ≡ true
unfolding every bit
sixteen true true true true = refl
sixteen true true true false = refl
sixteen true true false true = refl
sixteen true true false false = refl
sixteen true false true true = refl
sixteen true false true false = refl
sixteen true false false true = refl
sixteen true false false false = refl
sixteen false true true true = refl
sixteen false true true false = refl
sixteen false true false true = refl
sixteen false true false false = refl
sixteen false false true true = refl
sixteen false false true false = refl
sixteen false false false true = refl
sixteen false false false false = refl

same_of : (a b : Bool) → beq a b ≡ true → a ≡ b
same_of true true h = refl
same_of true false h = sym h
same_of false true h = h
same_of false false h = refl

-- a number has no bit that is worth more than it
pub no_bit : (r k : ℕ) → r < 2 ^ k → bit r k ≡ false
unfolding bit
no_bit r zero l = ne_eqb (r % 2) 1 (λ e. omega arith)
no_bit r (suc k) l = no_bit (r / 2) k (omega (arith, two-pow-succ k))

-- what a place is
place_in : (k : ℕ) → is_place k ≡ true → (k % 4 ≤ 2) × (k / 4 ≤ 2) × (k ≢ 5)
place_in k h =
    let p : Bool = leb (k % 4) 2 in
    let q : Bool = leb (k / 4) 2 in
    let o : Bool = not (eqb k 5) in
    let l = and_left (p && q) o h in
    let n = not-true (eqb k 5) (and_right (p && q) o h) in
    (leb-true (k % 4) 2 (and_left p q l), leb-true (k / 4) 2 (and_right p q l), eqb-false k 5 n)

pub place_of : (k : ℕ) → k % 4 ≤ 2 → k / 4 ≤ 2 → k ≢ 5 → is_place k ≡ true
place_of k h l n = and_both (and_both (le-leb (k % 4) 2 h) (le-leb (k / 4) 2 l)) (rw (ne_eqb k 5 n))

module _ (cell : ℕ → ℕ → Bool) (k : ℕ) where
  -- where a bit is told
  pub told_in : told cell k ≡ true → (k % 4 ≤ 2) × (k / 4 ≤ 2) × (k ≢ 5) × (hidden cell (k % 4) (k / 4) ≡ false)
  told_in h =
      let p : Bool = is_place k in
      let n : Bool = not (hidden cell (k % 4) (k / 4)) in
      let (c, r, o) = place_in k (and_left p n h) in
      (c, r, o, not-true (hidden cell (k % 4) (k / 4)) (and_right p n h))

module _ (nw ne sw se : Bool) where
  abbrev r : ℕ
  r = answer (cells_number nw ne sw se)

  abbrev cell : ℕ → ℕ → Bool
  cell = cell_of nw ne sw se

  abbrev as_told : ℕ → Bool
  as_told k = beq (bit r k) (told cell k)

  answer_few : r < 2 ^ 11
  answer_few = ltb-true r (2 ^ 11) (and_left (ltb r (2 ^ 11)) (every 11 as_told) (sixteen nw ne sw se))

  first_bits : every 11 as_told ≡ true
  first_bits = and_right (ltb r (2 ^ 11)) (every 11 as_told) (sixteen nw ne sw se)

  -- from 11 on there is no bit and no place
  pub answer_bit : (k : ℕ) → bit r k ≡ told cell k
  answer_bit k =
      ⊎_elim
      (λ (l : k < 11). same_of (bit r k) (told cell k) (every_at as_told 11 first_bits k l))
      (λ (g : 11 ≤ k).
      let none : told cell k ≡ false = false_of (told cell k) (λ h. omega (arith, told_in cell k h)) in
      no_bit r k (lt_of_lt_of_le answer_few (pow_mono g)) ∙ sym none)
      (order k 11)
