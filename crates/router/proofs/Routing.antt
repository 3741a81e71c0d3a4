-- The route call's answer and slices, from its steps. Assumes nothing.
use mathlib.Core.Path.{◌≡◌, refl, sym, subst, ◌∙◌}
use mathlib.Core.Bool.{false, ◌||◌}
use mathlib.Core.List.{List}
use Prim.Native.Nat.{ℕ, ◌≤◌}
use lib.Dec.{ltb}
use lib.ListN.{length}
use borrow.Author.Tests.{ltb-false}
use Rattle.laws.proofs.Tests.{or_neither}
use Rattle.board.specs.declared.Refusal.{Refusal}
use Rattle.board.specs.declared.Refusal.TheVariants.{Side, Count, Byte, First, Second}
use Rattle.board.specs.Board.{Board, vertices}
use Rattle.board.specs.Handed.{passes, refused, Handed, judged, leg_rows, refusal_row}
use Rattle.board.proofs.Verdicts.{refuses_on, refusal_handed}
use Rattle.board.specs.Checked.{board_of}
use Rattle.legs.specs.declared.leg.Leg.{Leg}
use Rattle.legs.specs.Checked.{Between}
use Rattle.problem.specs.Problem.{problem}
use Rattle.search.specs.Asked.{problem_of, Room}
use Rattle.answer.specs.Answers.{Route, no_route, Slices, work_row, route_row, slices_after, Routed}
use Rattle.running.specs.Inner.{Ran}

-- four lists with room for n entries
pub rooms : (n w x y z : ℕ) → (ltb w n || (ltb x n || (ltb y n || ltb z n))) ≡ false → (n ≤ w) × (n ≤ x) × (n ≤ y) × (n ≤ z)
rooms n w x y z e =
    let (m, k) = or_neither (ltb w n) (ltb x n || (ltb y n || ltb z n)) e in
    let (p, o) = or_neither (ltb x n) (ltb y n || ltb z n) k in
    let (q, r) = or_neither (ltb y n) (ltb z n) o in
    (ltb-false w n m, ltb-false x n p, ltb-false y n q, ltb-false z n r)

module _ (b : Board) (sx sy gx gy : ℕ) (before : Slices) where
  -- refused by a check: nothing is written
  pub routed_refused : (why : Refusal) → refusal_row why ≡ leg_rows b sx sy gx gy → Routed b sx sy gx gy before before (judged no_route (refusal_row why))
  unfolding route_row
  routed_refused why e = record {
    row_is = refusal_handed no_route why _ (refuses_on why (work_row (vertices b) before) e);
    after_is = kept why;
  }
    where
      kept : (w : Refusal) → before ≡ slices_after (problem b sx sy gx gy) (judged no_route (refusal_row w)).number before
      kept Side = refl
      kept Count = refl
      kept (Byte i) = refl
      kept First = refl
      kept Second = refl

  module _ (a : leg_rows b sx sy gx gy ≡ passes) where
    -- refused for a short work slice: nothing is written
    pub routed_short : work_row (vertices b) before ≡ refused 6 0 0 → Routed b sx sy gx gy before before (judged no_route (refused 6 0 0))
    unfolding route_row
    routed_short s = record { row_is = rw (a, s); after_is = refl }

    -- searched
    pub routed_ran : (after : Slices) (h : Handed Route) → let n = vertices b in
        (ltb (length before.g) n || (ltb (length before.parents) n || (ltb (length before.marks) n || ltb (length before.legs) n))) ≡ false
        → Ran (problem b sx sy gx gy) before after h → Routed b sx sy gx gy before after h
    unfolding route_row work_row
    routed_ran after h s R = record { row_is = R.row_is ∙ rw (a, s); after_is = R.after_is }

-- ---- of a leg that has passed the checks

module _ {b : Board} {sx sy gx gy : ℕ} {asked : Leg} (i : Between b sx sy gx gy asked) where
  pub room_on : {g parents marks legs : List ℕ}
      → (vertices b ≤ length g) × (vertices b ≤ length parents) × (vertices b ≤ length marks) × (vertices b ≤ length legs)
      → Room asked g parents marks legs
  room_on r =
      let on : (n : ℕ) → vertices b ≤ n → vertices (board_of asked.board) ≤ n = λ n h. subst (λ (x : Board). vertices x ≤ n) (sym i.board_is) h in
      record { g_room = on _ r.0; parents_room = on _ r.1; marks_room = on _ r.2; legs_room = on _ r.3 }

  pub ran_on : {before after : Slices} {h : Handed Route} → Ran (problem_of asked) before after h → Ran (problem b sx sy gx gy) before after h
  ran_on {before} {after} {h} R = rw (← i.board_is, ← i.ax_is, ← i.ay_is, ← i.bx_is, ← i.by_is) R
