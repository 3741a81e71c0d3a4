-- What the sight call hands back says the truth of the leg, and the only true thing; and clear is sight. Assumes nothing.
use Prim.Native.Nat.{ℕ}
use mathlib.Core.Path.{◌≡◌, refl, sym, ap, ◌∙◌, subst}
use mathlib.Core.Bool.{true, false≢true}
use lib.Dec.{leb}
use Rattle.std.specs.Prelude.{Result, Ok, Err}
use Rattle.laws.specs.Below.{as_number}
use borrow.Author.Tests.{le-leb}
use Rattle.laws.proofs.Tests.{and_both}
use Rattle.board.specs.Board.{Board}
use Rattle.board.specs.declared.Refusal.{Refusal}
use Rattle.board.specs.declared.Refusal.TheVariants.{Side, Count, Byte, First, Second}
use Rattle.board.specs.Handed.{Handed, Verdict, passes, refused, board_rows, end_rows, leg_rows, refusal_row}
use Rattle.board.proofs.Verdicts.{Within, both_pass, passes_on}
use Rattle.board.proofs.Rows.{leg_first, leg_second, ends_pass, leg_within}
use Rattle.legs.specs.declared.Stop.{Stop}
use Rattle.legs.specs.declared.Stop.TheVariants as stop
use Rattle.legs.specs.Sight.{sees}
use Rattle.legs.specs.Stops.{is_clear, first_stop}
use Rattle.legs.specs.Inner.{EndsOn}
use Rattle.sight.specs.Answers.{Seen, unseen, values_of, handed_sight, sight_row}
use Rattle.sight.specs.Says.{Passes, Says}
use Rattle.legs.proofs.Seen.{sees_unblocked, unblocked_sees}
use Rattle.legs.proofs.Symmetric.{sees_symmetric}
use Rattle.legs.proofs.Nearest.{stop_first, first_stops, clear_unblocked, unblocked_clear, sees_clear}
use Rattle.sight.proofs.Answering.{refused_as, stopped_as}
use Rattle.sight.proofs.Determined.{sight_determined}

-- ---- the values of a stop, and the row of a refusal

sight_of_lem : (s : Stop) → (values_of s).sight ≡ as_number (is_clear s)
sight_of_lem stop.Clear = refl
sight_of_lem (stop.Cell x y) = refl
sight_of_lem (stop.Edge x y x2 y2) = refl
sight_of_lem (stop.Vertex x y) = refl

-- what a refusal hands back is its row
abbrev row_in : Handed Seen → Verdict
row_in h = refused h.number h.place h.second

row_of_lem : (why : Refusal) → row_in (handed_sight (Err why)) ≡ refusal_row why
row_of_lem Side = refl
row_of_lem Count = refl
row_of_lem (Byte at) = refl
row_of_lem First = refl
row_of_lem Second = refl

module _ (b : Board) (ax ay bx by : ℕ) where
  -- ---- what is handed back is true

  stop_says : Passes b ax ay bx by → (s : Stop) → s ≡ first_stop b ax ay bx by → Says b ax ay bx by (Ok s)
  stop_says h stop.Clear e = (h, clear_unblocked b ax ay bx by (sym e))
  stop_says h (stop.Cell x y) e = (h, stop_first b ax ay bx by (stop.Cell x y) (sym e) refl)
  stop_says h (stop.Edge x y x2 y2) e = (h, stop_first b ax ay bx by (stop.Edge x y x2 y2) (sym e) refl)
  stop_says h (stop.Vertex x y) e = (h, stop_first b ax ay bx by (stop.Vertex x y) (sym e) refl)

  passed_says : Passes b ax ay bx by → (r : Result Stop Refusal) → handed_sight r ≡ sight_row b ax ay bx by → Says b ax ay bx by r
  passed_says h r e =
      let s : Stop = first_stop b ax ay bx by in
      let same : Ok s ≡ r = sight_determined b ax ay bx by (Ok s) r (stopped_as b ax ay bx by h refl) e in
      subst (Says b ax ay bx by) same (stop_says h s refl)

  module _ {n p k : ℕ} (h : leg_rows b ax ay bx by ≡ refused n p k) where
    -- no row has the number 0
    numbered : 0 ≡ n → ⊥
    numbered z =
        let w : Within (leb 1) (leg_rows b ax ay bx by) = leg_within (leb 1) b ax ay bx by refl refl refl refl refl in
        let l : leb 1 n ≡ true = subst (Within (leb 1)) h w in
        false≢true (subst (λ (m : ℕ). leb 1 m ≡ true) (sym z) l)

    refused_says : (r : Result Stop Refusal) → handed_sight r ≡ record { number = n; place = p; second = k; values = unseen } → Says b ax ay bx by r
    refused_says (Ok s) e = absurd (numbered (ap (λ (h : Handed Seen). h.number) e))
    refused_says (Err why) e = h ∙ sym (ap row_in e) ∙ row_of_lem why

  by_rows : (v : Verdict) → leg_rows b ax ay bx by ≡ v → (r : Result Stop Refusal) → handed_sight r ≡ sight_row b ax ay bx by → Says b ax ay bx by r
  unfolding sight_row
  by_rows passes h r e = passed_says h r e
  by_rows (refused n p k) h r e = refused_says h r (rw h at e)

  pub says_true : (r : Result Stop Refusal) → handed_sight r ≡ sight_row b ax ay bx by → Says b ax ay bx by r
  says_true r e = by_rows (leg_rows b ax ay bx by) refl r e

  -- ---- and nothing else is

  pub says_whole : (r : Result Stop Refusal) → Says b ax ay bx by r → handed_sight r ≡ sight_row b ax ay bx by
  says_whole (Ok stop.Clear) (h, none) = stopped_as b ax ay bx by h (sym (unblocked_clear b ax ay bx by none))
  says_whole (Ok (stop.Cell x y)) (h, f) = stopped_as b ax ay bx by h (sym (first_stops b ax ay bx by (stop.Cell x y) f))
  says_whole (Ok (stop.Edge x y x2 y2)) (h, f) = stopped_as b ax ay bx by h (sym (first_stops b ax ay bx by (stop.Edge x y x2 y2) f))
  says_whole (Ok (stop.Vertex x y)) (h, f) = stopped_as b ax ay bx by h (sym (first_stops b ax ay bx by (stop.Vertex x y) f))
  says_whole (Err why) e = refused_as b ax ay bx by why (sym e)

  -- ---- clear is sight

  module _ (h : Passes b ax ay bx by) where
    on_board : EndsOn b ax ay bx by
    on_board = record { first = leg_first b ax ay bx by h; second = leg_second b ax ay bx by h }

    -- sight is 1 exactly if the leg has sight, 0 exactly if it has not
    pub sight_is : (sight_row b ax ay bx by).values.sight ≡ as_number (sees b ax ay bx by)
    sight_is =
        ap (λ (h : Handed Seen). h.values.sight) (sym (stopped_as b ax ay bx by h refl)) ∙ sight_of_lem (first_stop b ax ay bx by)
        ∙ ap as_number (sym (sees_clear b ax ay bx by on_board))

    -- a request that passes does so from the other end
    turned : Passes b bx by ax ay
    turned =
        let first = leg_first b ax ay bx by h in
        let second = leg_second b ax ay bx by h in
        passes_on (end_rows b bx by ax ay) (both_pass (board_rows b) (end_rows b ax ay bx by) h).0
        ∙ ends_pass b bx by ax ay (and_both (le-leb _ _ second.x_on) (le-leb _ _ second.y_on))
        (and_both (le-leb _ _ first.x_on) (le-leb _ _ first.y_on))

-- clear from one end is clear from the other
pub clear_both_ways : (b : Board) (ax ay bx by : ℕ) (r s : Result Stop Refusal) → handed_sight r ≡ sight_row b ax ay bx by → handed_sight s ≡ sight_row b bx by ax ay
    → r ≡ Ok stop.Clear → s ≡ Ok stop.Clear
clear_both_ways b ax ay bx by r s e f g =
    let (h, none) : Says b ax ay bx by (Ok stop.Clear) = subst (Says b ax ay bx by) g (says_true b ax ay bx by r e) in
    let back = turned b ax ay bx by h in
    let seen : sees b bx by ax ay ≡ true =
    sym (sees_symmetric b ax ay bx by) ∙ unblocked_sees b ax ay bx by none in
    sight_determined b bx by ax ay s (Ok stop.Clear) f
    (says_whole b bx by ax ay (Ok stop.Clear) (back, sees_unblocked b bx by ax ay (on_board b bx by ax ay back) seen))
