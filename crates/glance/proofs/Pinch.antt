-- A pinched vertex, told by the numbers of the four cells round it. Assumes nothing.
use Prim.Native.Nat.{ℕ, ◌+◌, ◌-◌, ◌<◌}
use mathlib.Core.Path.{◌≡◌, refl, sym, ◌∙◌}
use mathlib.Core.Logic.{◌⊎◌, inl, inr, ⊎_elim}
use mathlib.Core.Bool.{Bool, true, false, not, ◌&&◌, ◌||◌, true≢false}
use native.Mathlib.Omega.{arith}
use borrow.Author.Tests.{lt-ltb, eq-eqb, ne_eqb, not-true}
use lib.Dec.{eqb}
use Rattle.laws.specs.Below.{as_number}
use Rattle.laws.proofs.Tests.{bool_cases, and_both, and_right, or_cases, or_neither, false_of}
use Rattle.board.specs.Board.{Board}
use Rattle.legs.specs.Pinched.{on_inside, crosswise, pinched}
use Rattle.legs.proofs.Pinches.{inside_at}
use Rattle.guard.specs.Guard.{shut_above}
use Rattle.guard.proofs.Shut.{free_above, shut_cell}
use Rattle.glance.proofs.Cells.{Four}

-- ---- the four cells by their numbers: the two right of the vertex differ, and each left of it is as the opposite one

abbrev opposite : (nw ne sw se : ℕ) → Bool
opposite nw ne sw se = not (eqb ne se) && (eqb nw se && eqb sw ne)

crosswise_opposite : (nw ne sw se : Bool) → crosswise nw ne sw se ≡ opposite (as_number nw) (as_number ne) (as_number sw) (as_number se)
crosswise_opposite true true true true = refl
crosswise_opposite true true false true = refl
crosswise_opposite false true true true = refl
crosswise_opposite false true false true = refl
crosswise_opposite true true true false = refl
crosswise_opposite true true false false = refl
crosswise_opposite false true true false = refl
crosswise_opposite false true false false = refl
crosswise_opposite true false true true = refl
crosswise_opposite true false false true = refl
crosswise_opposite false false sw true = refl
crosswise_opposite true false sw false = refl
crosswise_opposite false false sw false = refl

-- ---- on the border two cells side by side are outside, and none lies crosswise

free_diagonal : (nw ne sw se : Bool) → crosswise nw ne sw se ≡ true → ((ne ≡ false) × (sw ≡ false)) ⊎ ((nw ≡ false) × (se ≡ false))
free_diagonal nw ne sw se h =
    ⊎_elim
    (λ l. inl (or_neither ne sw (not-true (ne || sw) (and_right (nw && se) (not (ne || sw)) l))))
    (λ r. inr (or_neither nw se (not-true (nw || se) (and_right (ne && sw) (not (nw || se)) r))))
    (or_cases ((nw && se) && not (ne || sw)) ((ne && sw) && not (nw || se)) h)

module _ (b : Board) (x y : ℕ) where
  -- the four cells lie crosswise, where the outside counts as blocked
  abbrev crossed : Bool
  crossed = crosswise (shut_above b x y) (shut_above b (x + 1) y) (shut_above b x (y + 1)) (shut_above b (x + 1) (y + 1))

  inside_of : (0 < x) × (x < b.width) → (0 < y) × (y < b.height) → on_inside b x y ≡ true
  inside_of (l, r) (t, u) = and_both (and_both (lt-ltb 0 x l) (lt-ltb x b.width r)) (and_both (lt-ltb 0 y t) (lt-ltb y b.height u))

  crossed_inside : crossed ≡ true → on_inside b x y ≡ true
  crossed_inside h =
      ⊎_elim
      (λ d.
      let e = free_above b (x + 1) y d.0 in
      let f = free_above b x (y + 1) d.1 in
      inside_of (omega arith, omega arith) (omega arith, omega arith))
      (λ d.
      let e = free_above b x y d.0 in
      let f = free_above b (x + 1) (y + 1) d.1 in
      inside_of (omega arith, omega arith) (omega arith, omega arith))
      (free_diagonal (shut_above b x y) (shut_above b (x + 1) y) (shut_above b x (y + 1)) (shut_above b (x + 1) (y + 1)) h)

  pinched_crossed : pinched b x y ≡ crossed
  unfolding pinched
  pinched_crossed =
      ⊎_elim
      (λ (i : on_inside b x y ≡ true).
      let s = inside_at b x y i in
      let l : x ≡ x - 1 + 1 = omega arith in
      let t : y ≡ y - 1 + 1 = omega arith in
      rw (i, shut_cell b (x - 1) (y - 1) l t, shut_cell b x (y - 1) refl t, shut_cell b (x - 1) y l refl, shut_cell b x y refl refl))
      (λ (o : on_inside b x y ≡ false). rw o (sym (false_of crossed (λ h. true≢false (sym (crossed_inside h) ∙ o)))))
      (bool_cases (on_inside b x y))

module _ {b : Board} {x y nw ne sw se : ℕ} (f : Four b x y nw ne sw se) where
  pinched_opposite : pinched b x y ≡ opposite nw ne sw se
  pinched_opposite =
      rw (f.nw_is, f.ne_is, f.sw_is, f.se_is)
      (pinched_crossed b x y ∙ crosswise_opposite (shut_above b x y) (shut_above b (x + 1) y) (shut_above b x (y + 1)) (shut_above b (x + 1) (y + 1)))

  -- the two cells right of the vertex are alike
  pub alike_unpinched : ne ≡ se → false ≡ pinched b x y
  alike_unpinched e = sym (rw (eq-eqb ne se e) at pinched_opposite)

  -- they differ
  pub others_decide : (ne ≡ se → ⊥) → (eqb nw se && eqb sw ne) ≡ pinched b x y
  others_decide d = sym (rw (ne_eqb ne se d) at pinched_opposite)
