-- Rows for each record in order: all pass, or the first that is refused decides. Assumes nothing.
use Prim.Native.Nat.{ℕ, zero, suc, ◌+◌, ◌≤◌, ◌<◌}
use mathlib.Core.Path.{◌≡◌, refl}
use mathlib.Core.Logic.{⊎_elim}
use mathlib.Core.Bool.{Bool}
use native.Mathlib.Numerals.{add-one}
use native.Mathlib.Omega.{arith}
use Rattle.laws.proofs.Tests.{order}
use Rattle.board.specs.Handed.{Verdict, passes, refused}
use Rattle.board.proofs.Verdicts.{both_pass, Within, then_within}
use Rattle.records.specs.Records.{in_order}

module _ (rows : ℕ → Verdict) where
  -- ---- "the records below i pass" is `inOrder i rows ≡ passes`: it begins, goes on, and ends

  pub none_yet : in_order 0 rows ≡ passes
  unfolding in_order
  none_yet = refl

  pub one_more : (i : ℕ) → in_order i rows ≡ passes → rows i ≡ passes → in_order (i + 1) rows ≡ passes
  unfolding in_order
  one_more i e f = rw (add-one i, e, f)

  pub first_refused : (i : ℕ) → in_order i rows ≡ passes → {number place second : ℕ} → rows i ≡ refused number place second → (n : ℕ) → i < n
      → in_order n rows ≡ refused number place second
  unfolding in_order
  first_refused i e f zero l = absurd (omega arith)
  first_refused i e f (suc n) l =
      ⊎_elim
      (λ (b : i < n). rw (first_refused i e f n b))
      (λ (b : n ≤ i). let s : n ≡ i = omega arith in rw (s, e, f))
      (order i n)

  -- ---- what is known where all pass, or not all

  pub each_passes : (n : ℕ) → in_order n rows ≡ passes → (i : ℕ) → i < n → rows i ≡ passes
  unfolding in_order
  each_passes zero e i l = absurd (omega arith)
  each_passes (suc n) e i l =
      ⊎_elim
      (λ (b : i < n). each_passes n (both_pass (in_order n rows) (rows n) e).0 i b)
      (λ (b : n ≤ i). let s : i ≡ n = omega arith in rw s (both_pass (in_order n rows) (rows n) e).1)
      (order i n)

  pub order_within : (test : ℕ → Bool) → ((i : ℕ) → Within test (rows i)) → (n : ℕ) → Within test (in_order n rows)
  unfolding in_order
  order_within test f zero = tt
  order_within test f (suc n) = then_within test (in_order n rows) (rows n) (order_within test f n) (f n)
