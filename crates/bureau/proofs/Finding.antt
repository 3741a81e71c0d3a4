-- What a search over a range tells: a place that it found, that there is none, and whether some number passes. Assumes nothing.
use Prim.Native.Nat.{ℕ, zero, suc, ◌+◌, ◌≤◌, ◌<◌}
use mathlib.Core.Path.{◌≡◌, refl, sym, ◌∙◌}
use mathlib.Core.Bool.{Bool, true, false, ◌||◌, cond}
use native.Mathlib.Numerals.{add-one}
use native.Mathlib.Omega.{arith}
use lib.Dec.{ltb}
use borrow.Author.Tests.{ltb-true, ltb-false}
use Rattle.laws.specs.Below.{some}
use Rattle.laws.proofs.Tests.{or_false}
use Rattle.std.specs.Prelude.{Some, None}
use Rattle.std.specs.List.{list_any, range_with_len}
use Rattle.bureau.specs.Inner.{place_before}

-- ---- what a place that was found says, and that none was

some_before : (t : Bool) (place : ℕ) {k : ℕ} → Some k ≡ cond t (Some place) None → (t ≡ true) × (k ≡ place)
some_before true place e = (refl, cc)
some_before false place e = (cc, cc)

none_before : (t : Bool) (place : ℕ) → None ≡ cond t (Some place) None → t ≡ false
none_before true place e = cc
none_before false place e = refl

pub place_some : (place end : ℕ) {k : ℕ} → Some k ≡ place_before place end → (k < end) × (k ≡ place)
place_some place end {k} e =
    let s = some_before (ltb place end) place e in (omega (arith, ltb-true place end s.0, s.1), s.1)

pub place_none : (place end : ℕ) → None ≡ place_before place end → end ≤ place
place_none place end e = ltb-false place end (none_before (ltb place end) place e)

-- ---- whether there is one, by the library's walk over a range

some_from : (test : ℕ → Bool) (n a : ℕ) → some (a + n) test ≡ (some a test || list_any test (range_with_len a n))
unfolding some
some_from test zero a = let e : a + 0 ≡ a = omega arith in rw e (sym (or_false (some a test)))
some_from test (suc n) a =
    let e : a + suc n ≡ suc a + n = omega arith in
    rw (e, add-one a) (some_from test n (suc a) ∙ or_assoc (some a test) (test a) (list_any test (range_with_len (suc a) n)))
  where
    or_assoc : (p q r : Bool) → ((p || q) || r) ≡ (p || (q || r))
    or_assoc true q r = refl
    or_assoc false q r = refl

pub some_found : (test : ℕ → Bool) (n : ℕ) → list_any test (range_with_len 0 n) ≡ some n test
unfolding some
some_found test n = let e : 0 + n ≡ n = omega arith in sym (rw e at (some_from test n 0))
