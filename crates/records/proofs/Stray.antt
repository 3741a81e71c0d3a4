-- A byte that is not used must be 0: the lowest that is not, as a search finds it, and what its row says. Assumes nothing.
use Prim.Native.Nat.{ℕ, ◌≤◌, ◌<◌}
use mathlib.Core.Path.{◌≡◌, refl}
use mathlib.Core.Bool.{Bool, true, false, cond}
use mathlib.Core.List.{List}
use native.Mathlib.Omega.{arith}
use lib.Dec.{ltb}
use borrow.Author.Tests.{lt-ltb, le-ltb}
use Rattle.laws.specs.Below.{first_where}
use Rattle.laws.proofs.Below.{none_below, first_here}
use Rattle.std.specs.Prelude.{Option, Some, None, MatchOption}
use Rattle.board.specs.Handed.{passes, refused}
use Rattle.board.proofs.Verdicts.{no_pass, Within}
use Rattle.records.specs.Records.{record_bytes, stray_byte, unused_row}

-- ---- found by the library's search over the bytes' numbers

pub found_first : (test : ℕ → Bool) (n : ℕ) (r : Option ℕ)
    → MatchOption r ((k : ℕ) → 0 ≤ k → k < n → test k ≡ false) (λ i. (0 ≤ i) × (i < n) × (test i ≡ true) × ((k : ℕ) → 0 ≤ k → k < i → test k ≡ false))
    → r ≡ cond (ltb (first_where n test) n) (Some (first_where n test)) None
found_first test n None h =
    let e = none_below test n (λ k l. h k (omega arith) l) in rw (le-ltb (first_where n test) n (omega arith)) refl
found_first test n (Some i) h =
    let e = first_here test i (none_below test i (λ k l. h.3 k (omega arith) l)) h.2 n h.1 in
    rw (e, lt-ltb i n h.1) refl

-- ---- its row

second_row : (condition : Bool) (n p s : ℕ) → cond condition (refused n p s) passes ≡ passes → condition ≡ false
second_row true n p s e = absurd (no_pass e)
second_row false n p s e = refl

second_within : (test : ℕ → Bool) (condition : Bool) (n p s : ℕ) → test n ≡ true → Within test (cond condition (refused n p s) passes)
second_within test true n p s e = e
second_within test false n p s e = tt

module _ (file used : List ℕ) (i : ℕ) where
  pub unused_passes : unused_row file used i ≡ passes → ltb (stray_byte file used i) record_bytes ≡ false
  unused_passes e = second_row (ltb (stray_byte file used i) record_bytes) 23 i (stray_byte file used i) e

  pub unused_within : (test : ℕ → Bool) → test 23 ≡ true → Within test (unused_row file used i)
  unused_within test e = second_within test (ltb (stray_byte file used i) record_bytes) 23 i (stray_byte file used i) e
