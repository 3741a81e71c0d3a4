-- The order in which open vertices are taken is total and strict. Here alone the proofs look into `sooner`. Assumes nothing.
use mathlib.Core.Path.{◌≡◌, refl, sym, ◌∙◌}
use mathlib.Core.Logic.{◌⊎◌, inl, inr, ◌≢◌}
use mathlib.Core.Bool.{Bool, true, ◌&&◌}
use Prim.Native.Nat.{ℕ, ◌≤◌, ◌<◌}
use native.Mathlib.Omega.{arith}
use native.Mathlib.Decide.{dec_lt}
use lib.Dec.{eqb, ltb}
use borrow.Author.Tests.{eqb-true, eq-eqb, ne_eqb, ltb-true, lt-ltb, le-ltb}
use Rattle.laws.proofs.Tests.{or_cases, or_left, and_left, and_right, or_false}
use Rattle.theta.specs.Order.{Rank, less_or, sooner}

-- ---- one comparison

pub less_cases : (x y : ℕ) (t : Bool) → less_or x y t ≡ true → (x < y) ⊎ ((x ≡ y) × (t ≡ true))
less_cases x y t e = go (or_cases (ltb x y) (eqb x y && t) e)
  where
    go : (ltb x y ≡ true) ⊎ ((eqb x y && t) ≡ true) → (x < y) ⊎ ((x ≡ y) × (t ≡ true))
    go (inl l) = inl (ltb-true x y l)
    go (inr q) = inr (eqb-true x y (and_left (eqb x y) t q), and_right (eqb x y) t q)

less_less : (x y : ℕ) (t : Bool) → x < y → less_or x y t ≡ true
less_less x y t l = or_left (eqb x y && t) (lt-ltb x y l)

pub less_equal : (x y : ℕ) (t : Bool) → x ≡ y → less_or x y t ≡ t
less_equal x y t e = rw (le-ltb x y (omega arith), eq-eqb x y e) refl

pub less_apart : (x y : ℕ) (t : Bool) → x ≢ y → less_or x y t ≡ ltb x y
less_apart x y t d = rw (ne_eqb x y d) (or_false (ltb x y))

-- ---- the whole order, in words

data Ahead (a b : Rank) : Type 0 where
  by_f : a.f < b.f → Ahead a b
  by_g : a.f ≡ b.f → a.g < b.g → Ahead a b
  by_legs : a.f ≡ b.f → a.g ≡ b.g → a.legs < b.legs → Ahead a b
  by_number : a.f ≡ b.f → a.g ≡ b.g → a.legs ≡ b.legs → a.number < b.number → Ahead a b

-- what is decided where f and g are equal
after_g : Rank → Rank → Bool
after_g a b = less_or a.legs b.legs (ltb a.number b.number)

-- what is decided where f is equal
after_f : Rank → Rank → Bool
after_f a b = less_or a.g b.g (after_g a b)

ahead_of : (a b : Rank) → sooner a b ≡ true → Ahead a b
unfolding sooner after_f after_g
ahead_of a b e = one (less_cases a.f b.f (after_f a b) e)
  where
    three : a.f ≡ b.f → a.g ≡ b.g → (a.legs < b.legs) ⊎ ((a.legs ≡ b.legs) × (ltb a.number b.number ≡ true)) → Ahead a b
    three q r (inl x) = by_legs q r x
    three q r (inr x) = by_number q r x.0 (ltb-true a.number b.number x.1)

    two : a.f ≡ b.f → (a.g < b.g) ⊎ ((a.g ≡ b.g) × (after_g a b ≡ true)) → Ahead a b
    two q (inl x) = by_g q x
    two q (inr x) = three q x.0 (less_cases a.legs b.legs (ltb a.number b.number) x.1)

    one : (a.f < b.f) ⊎ ((a.f ≡ b.f) × (after_f a b ≡ true)) → Ahead a b
    one (inl x) = by_f x
    one (inr x) = two x.0 (less_cases a.g b.g (after_g a b) x.1)

of_ahead : (a b : Rank) → Ahead a b → sooner a b ≡ true
unfolding sooner after_f after_g
of_ahead a b (by_f x) = less_less a.f b.f (after_f a b) x
of_ahead a b (by_g x y) = less_equal a.f b.f (after_f a b) x ∙ less_less a.g b.g (after_g a b) y
of_ahead a b (by_legs x y z) =
    less_equal a.f b.f (after_f a b) x ∙ less_equal a.g b.g (after_g a b) y ∙ less_less a.legs b.legs (ltb a.number b.number) z
of_ahead a b (by_number x y w z) =
    less_equal a.f b.f (after_f a b) x ∙ less_equal a.g b.g (after_g a b) y ∙ less_equal a.legs b.legs (ltb a.number b.number) w
    ∙ lt-ltb a.number b.number z

ahead_trans : (a b c : Rank) → Ahead a b → Ahead b c → Ahead a c
ahead_trans a b c (by_f x) (by_f y) = by_f (omega arith)
ahead_trans a b c (by_f x) (by_g p y) = by_f (omega arith)
ahead_trans a b c (by_f x) (by_legs p q y) = by_f (omega arith)
ahead_trans a b c (by_f x) (by_number p q r y) = by_f (omega arith)
ahead_trans a b c (by_g p x) (by_f y) = by_f (omega arith)
ahead_trans a b c (by_g p x) (by_g q y) = by_g (omega arith) (omega arith)
ahead_trans a b c (by_g p x) (by_legs q r y) = by_g (omega arith) (omega arith)
ahead_trans a b c (by_g p x) (by_number q r s y) = by_g (omega arith) (omega arith)
ahead_trans a b c (by_legs p q x) (by_f y) = by_f (omega arith)
ahead_trans a b c (by_legs p q x) (by_g r y) = by_g (omega arith) (omega arith)
ahead_trans a b c (by_legs p q x) (by_legs r s y) = by_legs (omega arith) (omega arith) (omega arith)
ahead_trans a b c (by_legs p q x) (by_number r s t y) = by_legs (omega arith) (omega arith) (omega arith)
ahead_trans a b c (by_number p q w x) (by_f y) = by_f (omega arith)
ahead_trans a b c (by_number p q w x) (by_g r y) = by_g (omega arith) (omega arith)
ahead_trans a b c (by_number p q w x) (by_legs r s y) = by_legs (omega arith) (omega arith) (omega arith)
ahead_trans a b c (by_number p q w x) (by_number r s t y) = by_number (omega arith) (omega arith) (omega arith) (omega arith)

ahead_irrefl : (a : Rank) → Ahead a a → ⊥
ahead_irrefl a (by_f x) = omega arith
ahead_irrefl a (by_g p x) = omega arith
ahead_irrefl a (by_legs p q x) = omega arith
ahead_irrefl a (by_number p q r x) = omega arith

ahead_total : (a b : Rank) → a.number ≢ b.number → Ahead a b ⊎ Ahead b a
ahead_total a b d =
    go (dec_lt a.f b.f) (dec_lt b.f a.f) (dec_lt a.g b.g) (dec_lt b.g a.g) (dec_lt a.legs b.legs) (dec_lt b.legs a.legs)
    (dec_lt a.number b.number)
  where
    go : Dec (a.f < b.f) → Dec (b.f < a.f) → Dec (a.g < b.g) → Dec (b.g < a.g) → Dec (a.legs < b.legs) → Dec (b.legs < a.legs)
        → Dec (a.number < b.number) → Ahead a b ⊎ Ahead b a
    go (yes x) q r s u w t = inl (by_f x)
    go (no x) (yes q) r s u w t = inr (by_f q)
    go (no x) (no q) (yes r) s u w t = inl (by_g (omega arith) r)
    go (no x) (no q) (no r) (yes s) u w t = inr (by_g (omega arith) s)
    go (no x) (no q) (no r) (no s) (yes u) w t = inl (by_legs (omega arith) (omega arith) u)
    go (no x) (no q) (no r) (no s) (no u) (yes w) t = inr (by_legs (omega arith) (omega arith) w)
    go (no x) (no q) (no r) (no s) (no u) (no w) (yes t) = inl (by_number (omega arith) (omega arith) (omega arith) t)
    go (no x) (no q) (no r) (no s) (no u) (no w) (no t) = inr (by_number (omega arith) (omega arith) (omega arith) (omega arith))

-- ---- what others cite

pub sooner_trans : (a b c : Rank) → sooner a b ≡ true → sooner b c ≡ true → sooner a c ≡ true
sooner_trans a b c x y = of_ahead a c (ahead_trans a b c (ahead_of a b x) (ahead_of b c y))

pub sooner_irrefl : (a : Rank) → sooner a a ≡ true → ⊥
sooner_irrefl a x = ahead_irrefl a (ahead_of a a x)

pub sooner_total : (a b : Rank) → a.number ≢ b.number → (sooner a b ≡ true) ⊎ (sooner b a ≡ true)
sooner_total a b d = go (ahead_total a b d)
  where
    go : Ahead a b ⊎ Ahead b a → (sooner a b ≡ true) ⊎ (sooner b a ≡ true)
    go (inl x) = inl (of_ahead a b x)
    go (inr x) = inr (of_ahead b a x)

-- a vertex whose f falls comes before what it was
pub sooner_lower : (a b : Rank) → a.f < b.f → sooner a b ≡ true
sooner_lower a b l = of_ahead a b (by_f l)

-- and so does one that has the same f and g and fewer legs
pub sooner_fewer : (a b : Rank) → a.f ≡ b.f → a.g ≡ b.g → a.legs < b.legs → sooner a b ≡ true
sooner_fewer a b e k l = of_ahead a b (by_legs e k l)

-- and none comes before one whose f is less
pub sooner_least : (a b : Rank) → sooner a b ≡ true → a.f ≤ b.f
sooner_least a b x = go (ahead_of a b x)
  where
    go : Ahead a b → a.f ≤ b.f
    go (by_f y) = omega arith
    go (by_g p y) = omega arith
    go (by_legs p q y) = omega arith
    go (by_number p q r y) = omega arith

-- ---- the test in the code's steps: f; then g; then the legs; then the number

module _ (a b : Rank) where
  pub sooner_f : a.f ≢ b.f → ltb a.f b.f ≡ sooner a b
  unfolding sooner after_f after_g
  sooner_f e = sym (less_apart a.f b.f (after_f a b) e)

  pub sooner_g : a.f ≡ b.f → a.g ≢ b.g → ltb a.g b.g ≡ sooner a b
  unfolding sooner after_f after_g
  sooner_g e k = sym (less_equal a.f b.f (after_f a b) e ∙ less_apart a.g b.g (after_g a b) k)

  pub sooner_legs : a.f ≡ b.f → a.g ≡ b.g → a.legs ≢ b.legs → ltb a.legs b.legs ≡ sooner a b
  unfolding sooner after_f after_g
  sooner_legs e k l =
      sym
      (less_equal a.f b.f (after_f a b) e ∙ less_equal a.g b.g (after_g a b) k ∙ less_apart a.legs b.legs (ltb a.number b.number) l)

  pub sooner_number : a.f ≡ b.f → a.g ≡ b.g → a.legs ≡ b.legs → ltb a.number b.number ≡ sooner a b
  unfolding sooner after_f after_g
  sooner_number e k l =
      sym
      (less_equal a.f b.f (after_f a b) e ∙ less_equal a.g b.g (after_g a b) k ∙ less_equal a.legs b.legs (ltb a.number b.number) l)
