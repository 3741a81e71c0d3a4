-- What is read from the records, and what is said of it. Assumes nothing.
use Prim.Native.Nat.{ℕ, ◌+◌, ◌-◌, ◌<◌}
use mathlib.Core.Path.{◌≡◌, refl, ap₂, ◌∙◌}
use mathlib.Core.Bool.{Bool, true, false}
use native.Mathlib.Omega.{arith}
use borrow.Author.Tests.{lt-ltb, le-ltb}
use Rattle.std.specs.Prelude.{Some, None}
use Rattle.board.specs.Board.{Board}
use Rattle.board.specs.Handed.{passes, refused}
use Rattle.legs.specs.Inner.{EndsOn}
use Rattle.kinds.specs.Job.{Net}
use Rattle.tracks.specs.Tracks.{Point}
use Rattle.bureau.specs.Paths.{is_end_wrong, off_place, is_leg_wrong, leg_place, start_of, goal_of, place_row, path_rows}
use Rattle.bureau.specs.Inner.{place_before, PointsOn}
use Rattle.bureau.proofs.Finding.{place_some, place_none}

-- ---- a leg

pub leg_on : {b : Board} {n : ℕ} {p : ℕ → Point} (k : ℕ) {from to : Point} → PointsOn b n p → k + 1 < n → from ≡ p k → to ≡ p (k + 1)
    → EndsOn b from.x from.y to.x to.y
leg_on k P l e f = rw (e, f) (record { first = P.on k (omega arith); second = P.on (k + 1) l })

pub leg_told : (b : Board) (is_last : Bool) {from to p q : Point} {r : Bool} → from ≡ p → to ≡ q → r ≡ is_leg_wrong b from to is_last
    → r ≡ is_leg_wrong b p q is_last
leg_told b is_last e f h = h ∙ ap₂ (λ (p q : Point). is_leg_wrong b p q is_last) e f

-- ---- the row of a place that was found, or that none was

pub place_found : (place end number net : ℕ) {k : ℕ} → Some k ≡ place_before place end → place_row place end number net ≡ refused number net k
place_found place end number net e =
    let s = place_some place end e in rw (lt-ltb place end (omega (arith, s.0, s.1)), s.1) refl

pub no_place : (place end number net : ℕ) → None ≡ place_before place end → place_row place end number net ≡ passes
no_place place end number net e = rw (le-ltb place end (place_none place end e)) refl

-- ---- the rows of a path, in order

module _ (b : Board) (net : Net) (n : ℕ) (p : ℕ → Point) {wrong : Bool} (end_is : wrong ≡ is_end_wrong (start_of net) (goal_of net) n p) where
  pub path_end : wrong ≡ true → refused 25 net.number 0 ≡ path_rows b net n p
  unfolding path_rows
  path_end e = rw (← end_is, e)

  module _ (right : wrong ≡ false) where
    pub path_off : {off : ℕ} → Some off ≡ place_before (off_place b n p) n → refused 26 net.number off ≡ path_rows b net n p
    unfolding path_rows
    path_off e = rw (← end_is, right, place_found _ _ 26 net.number e)

    module _ (on : None ≡ place_before (off_place b n p) n) where
      pub path_leg : {leg : ℕ} → Some leg ≡ place_before (leg_place b n p) (n - 1) → refused 27 net.number leg ≡ path_rows b net n p
      unfolding path_rows
      path_leg e = rw (← end_is, right, no_place _ _ 26 net.number on, place_found _ _ 27 net.number e)

      pub path_fine : None ≡ place_before (leg_place b n p) (n - 1) → passes ≡ path_rows b net n p
      unfolding path_rows
      path_fine e = rw (← end_is, right, no_place _ _ 26 net.number on, no_place _ _ 27 net.number e)
