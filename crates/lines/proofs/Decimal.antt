-- A number's decimal digits: one, or those of its tenth and the last; a u64 has at most 20. Assumes nothing.
use Prim.Native.Nat.{ℕ, zero, suc, ◌+◌, ◌*◌, ◌/◌, ◌%◌, ◌^◌, ◌≤◌, ◌<◌}
use mathlib.Core.Path.{◌≡◌, sym, ap, ◌∙◌}
use mathlib.Core.Logic.{⊎_elim}
use mathlib.Core.Bool.{cond}
use mathlib.Core.List.{List, [], ◌∷◌, ◌++◌}
use native.Mathlib.Nat.{div-lt_self, div-lt_iff_lt-mul, mod-eq_of_lt, pow-suc, one-le-pow, lt_of_lt_of_le}
use native.Mathlib.Omega.{arith}
use lib.Dec.{ltb, lit<, lit≤}
use lib.ListN.{length, length-append}
use borrow.Author.Tests.{lt-ltb, le-ltb}
use Rattle.laws.proofs.Tests.{order}
use Rattle.lines.specs.Lines.{digit, digits_up_to, decimal, most_digits}

pub tenth_below : (n : ℕ) → 10 ≤ n → n / 10 < n
tenth_below n l = div-lt_self {n = n} {k = 10} (omega arith) (lit< tt)

-- a digit after some others
abbrev then : ℕ → List ℕ → List ℕ
then d l = l ++ (digit d ∷ [])

-- it does not matter how many more digits are asked for than there are
same_digits : (f g n : ℕ) → n < f → n < g → digits_up_to f n ≡ digits_up_to g n
unfolding digits_up_to
same_digits zero g n a b = absurd (omega arith)
same_digits (suc f) zero n a b = absurd (omega arith)
same_digits (suc f) (suc g) n a b =
    ⊎_elim
    (λ (s : n < 10). rw (lt-ltb n 10 s))
    (λ (l : 10 ≤ n).
    let q : n / 10 < n = tenth_below n l in
    rw (le-ltb n 10 l) (ap (then (n % 10)) (same_digits f g (n / 10) (omega arith) (omega arith))))
    (order n 10)

decimal_one : (n : ℕ) → n < 10 → decimal n ≡ digit n ∷ []
unfolding decimal digits_up_to
decimal_one n s = rw (lt-ltb n 10 s)

decimal_more : (n : ℕ) → 10 ≤ n → decimal n ≡ decimal (n / 10) ++ (digit (n % 10) ∷ [])
unfolding decimal digits_up_to
decimal_more n l =
    rw (le-ltb n 10 l) (ap (then (n % 10)) (same_digits n (suc (n / 10)) (n / 10) (tenth_below n l) (omega arith)))

-- ---- how many there are

pub count_one : (n : ℕ) → n < 10 → length (decimal n) ≡ 1
count_one n s = ap length (decimal_one n s)

pub count_more : (n : ℕ) → 10 ≤ n → length (decimal n) ≡ length (decimal (n / 10)) + 1
count_more n l = ap length (decimal_more n l) ∙ length-append (decimal (n / 10)) (digit (n % 10) ∷ [])

-- a number below 10 ^ k has at most k digits
few_below : (k n : ℕ) → n < 10 ^ suc k → length (decimal n) ≤ suc k
few_below zero n b = let s : n < 10 = b in omega (arith, count_one n s)
few_below (suc k) n b =
    let b' : n < 10 ^ suc k * 10 = rw (pow-suc 10 (suc k)) at b in
    let tenth = div-lt_iff_lt-mul {k = 10} {x = n} {y = 10 ^ suc k} (lit< tt) in
    ⊎_elim
    (λ (s : n < 10). omega (arith, count_one n s))
    (λ (l : 10 ≤ n). omega (arith, count_more n l, few_below k (n / 10) (tenth.1 b')))
    (order n 10)

-- a number from 10 ^ k up to the next power has one more digit than k
pub count_power : (k n : ℕ) → 10 ^ k ≤ n → n < 10 * 10 ^ k → length (decimal n) ≡ k + 1
count_power zero n a b = count_one n b
count_power (suc k) n a b =
    let p : 10 ^ suc k ≡ 10 ^ k * 10 = pow-suc 10 k in
    let some : 1 ≤ 10 ^ k = one-le-pow k 10 (lit< tt) in
    let tenth = count_power k (n / 10) (omega arith) (omega arith) in
    omega (arith, count_more n (omega arith), tenth)

pub few_digits : (n : ℕ) → n < 2 ^ 64 → length (decimal n) ≤ most_digits
few_digits n b = few_below 19 n (lt_of_lt_of_le b (lit≤ {m = 2 ^ 64} {n = 10 ^ 20} tt))

-- a smaller number has no more digits
fewer_up_to : (f m n : ℕ) → n < f → m ≤ n → length (decimal m) ≤ length (decimal n)
fewer_up_to zero m n a b = absurd (omega arith)
fewer_up_to (suc f) m n a b =
    ⊎_elim
    (λ (s : n < 10). omega (arith, count_one n s, count_one m (omega arith)))
    (λ (l : 10 ≤ n).
    ⊎_elim
    (λ (s : m < 10). omega (arith, count_one m s, count_more n l))
    (λ (k : 10 ≤ m).
    let q : n / 10 < n = tenth_below n l in
    omega (arith, count_more m k, count_more n l, fewer_up_to f (m / 10) (n / 10) (omega arith) (omega arith)))
    (order m 10))
    (order n 10)

pub fewer_digits : (m n : ℕ) → m ≤ n → length (decimal m) ≤ length (decimal n)
fewer_digits m n = fewer_up_to (suc n) m n (omega arith)

-- ---- all but the last, and the last

pub front : ℕ → List ℕ
front n = cond (ltb n 10) [] (decimal (n / 10))

pub decimal_last : (n : ℕ) → decimal n ≡ front n ++ (digit (n % 10) ∷ [])
unfolding front
decimal_last n =
    ⊎_elim
    (λ (s : n < 10). rw (lt-ltb n 10 s) (decimal_one n s ∙ ap (λ (d : ℕ). digit d ∷ []) (sym (mod-eq_of_lt s))))
    (λ (l : 10 ≤ n). rw (le-ltb n 10 l) (decimal_more n l))
    (order n 10)

-- where there are others before the last, they are the tenth's
pub front_tenth : (n : ℕ) → 0 < length (front n) → front n ≡ decimal (n / 10)
unfolding front
front_tenth n b =
    ⊎_elim
    (λ (s : n < 10). let none : 0 < 0 = rw (lt-ltb n 10 s) at b in absurd (omega arith))
    (λ (l : 10 ≤ n). rw (le-ltb n 10 l))
    (order n 10)
