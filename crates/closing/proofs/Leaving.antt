-- What a call of the route leaves: what it keeps, and what the search leaves in the work slices. Assumes nothing.
use mathlib.Core.Path.{◌≡◌, refl, sym, ap, ◌∙◌, subst}
use mathlib.Core.Logic.{◌⊎◌, inl, inr, ◌≢◌}
use mathlib.Core.Bool.{true, false}
use Prim.Native.Nat.{ℕ, ◌<◌}
use native.Mathlib.Omega.{arith}
use lib.Dec.{eqb}
use lib.ListN.{length}
use borrow.Author.Tests.{eqb-true, ne_eqb}
use Rattle.board.specs.Board.{Board, vertices, number}
use Rattle.board.specs.Inner.{OnBoard}
use Rattle.board.specs.Handed.{Handed}
use Rattle.reach.specs.Turns.{at}
use Rattle.theta.specs.Search.{Problem, search, path}
use Rattle.theta.specs.Demands.{Work}
use Rattle.theta.proofs.Completeness.{none_open, none_expanded}
use Rattle.theta.proofs.Routes.{goal_open}
use Rattle.problem.specs.Problem.{problem}
use Rattle.problem.proofs.Fair.{board_fair}
use Rattle.problem.proofs.Theorems.{board_work, board_counted, board_parents}
use Rattle.router.specs.Answers.{Route, Slices, search_row, route_row, searched, Routed}
use Rattle.router.proofs.Written.{Filled, filled_beyond, filled_front, filled_at}
use Rattle.router.proofs.Demands.{start_on, row_searched, row_path, row_none, eight_none, other_found, success, failure, route_rightly}
use Rattle.closing.specs.Demands.{Kept, Theta, Searched, Left}

-- the search has run
ran : (n : ℕ) → Searched n → searched n ≡ true
ran n (inl e) = rw e refl
ran n (inr (inl e)) = rw e refl
ran n (inr (inr e)) = rw e refl

not_ran : (n : ℕ) → 0 < n → n < 7 → searched n ≡ false
not_ran n l m = let a : n ≢ 0 = λ e. omega arith in let b : n ≢ 7 = λ e. omega arith in let c : n ≢ 8 = λ e. omega arith in
    rw (ne_eqb n 0 a, ne_eqb n 7 b, ne_eqb n 8 c) refl

module _ {b : Board} {sx sy gx gy : ℕ} {before after : Slices} {h : Handed Route} (R : Routed b sx sy gx gy before after h) where
  abbrev p : Problem
  p = problem b sx sy gx gy

  number_is : (route_row b sx sy gx gy before).number ≡ h.number
  number_is = ap (λ (x : Handed Route). x.number) (sym R.row_is)

  -- ---- what is handed back

  -- with 0 a path, with 8 none
  path_row : h.number ≡ 0 → h ≡ success p
  path_row e = R.row_is ∙ (row_path b sx sy gx gy before (number_is ∙ e)).3

  none_row : h.number ≡ 8 → h ≡ failure p
  none_row e = R.row_is ∙ (row_none b sx sy gx gy before (number_is ∙ e)).2

  counts : (h.number ≡ 0) ⊎ (h.number ≡ 8)
      → (h.values.expansions ≡ (search p).state.expansions) × (h.values.tests ≡ (search p).state.tests)
  counts (inl e) = (ap (λ (x : Handed Route). x.values.expansions) (path_row e), ap (λ (x : Handed Route). x.values.tests) (path_row e))
  counts (inr e) = (ap (λ (x : Handed Route). x.values.expansions) (none_row e), ap (λ (x : Handed Route). x.values.tests) (none_row e))

  -- ---- the slices

  module _ (r : searched h.number ≡ true) where
    row_ran : searched (route_row b sx sy gx gy before).number ≡ true
    row_ran = subst (λ (n : ℕ). searched n ≡ true) (sym number_is) r

    on_board : OnBoard b sx sy
    on_board = start_on b sx sy gx gy before row_ran

    work : Work p (search p).state
    work = board_work b sx sy gx gy on_board

    search_number : (search_row p (length before.path)).number ≡ h.number
    search_number = ap (λ (x : Handed Route). x.number) (sym (R.row_is ∙ row_searched b sx sy gx gy before row_ran))

  g_filled : Filled (searched h.number) (vertices b) (search p).state.g before.g after.g
  unfolding problem
  g_filled = record { is = ap (λ (s : Slices). s.g) R.after_is; size = λ r. (work r).g_size }

  parents_filled : Filled (searched h.number) (vertices b) (search p).state.parent before.parents after.parents
  unfolding problem
  parents_filled = record { is = ap (λ (s : Slices). s.parents) R.after_is; size = λ r. (work r).parent_size }

  marks_filled : Filled (searched h.number) (vertices b) (search p).state.mark before.marks after.marks
  unfolding problem
  marks_filled = record { is = ap (λ (s : Slices). s.marks) R.after_is; size = λ r. (work r).mark_size }

  legs_filled : Filled (searched h.number) (vertices b) (search p).state.legs before.legs after.legs
  unfolding problem
  legs_filled = record { is = ap (λ (s : Slices). s.legs) R.after_is; size = λ r. (work r).legs_size }

  path_filled : Filled (eqb h.number 0) h.values.vertices (path p (search p).state) before.path after.path
  path_filled = record {
    is = ap (λ (s : Slices). s.path) R.after_is;
    size = λ e. sym (ap (λ (x : Handed Route). x.values.vertices) (path_row (eqb-true h.number 0 e)));
  }

  pub kept : Kept b before after h
  kept = record {
    unwritten = λ l m. R.after_is ∙ rw (not_ran h.number l m, ne_eqb h.number 0 (λ e. omega arith)) refl;
    path_unwritten = λ l. path_filled.is ∙ rw (ne_eqb h.number 0 (λ e. omega arith)) refl;
    g_beyond = filled_beyond g_filled;
    parents_beyond = filled_beyond parents_filled;
    marks_beyond = filled_beyond marks_filled;
    legs_beyond = filled_beyond legs_filled;
    path_beyond = filled_beyond path_filled;
  }

  -- ---- demand 2

  pub as_theta : Theta b sx sy gx gy after h
  as_theta = record {
    path_is = λ e. filled_front path_filled (rw e refl);
    rightly = route_rightly R;
    expansions_is = λ e. (counts e).0;
    tests_is = λ e. (counts e).1;
  }

  -- ---- what the search leaves

  module _ (r : searched h.number ≡ true) where
    found_open : h.number ≢ 8 → (number b gx gy < vertices b) × (at (search p).state.mark (number b gx gy) ≡ 1)
    unfolding problem
    found_open d = goal_open (board_fair b sx sy gx gy (on_board r)) (other_found p (length before.path) (λ e. d (sym (search_number r) ∙ e)))

    found_none : h.number ≡ 8 → (search p).found ≡ false
    found_none e = (eight_none p (length before.path) (search_number r ∙ e)).0

  pub left : Searched h.number → Left b sx sy gx gy after h
  unfolding problem
  left s =
      let r = ran h.number s in
      let W = work r in
      let F = board_fair b sx sy gx gy (on_board r) in
      let L = board_counted b sx sy gx gy (on_board r) in
      let mark = filled_at marks_filled r in
      let leg = filled_at legs_filled r in
      record {
        g_is = filled_front g_filled r;
        parents_is = filled_front parents_filled r;
        marks_is = filled_front marks_filled r;
        legs_is = filled_front legs_filled r;
        marks = λ v l. rw (mark v l) (W.marks v l);
        unseen = λ v l e.
            let u = sym (mark v l) ∙ e in
            (filled_at g_filled r v l ∙ W.unseen_g v l u, filled_at parents_filled r v l ∙ W.unseen_parent v l u, leg v l ∙ W.unseen_legs v l u);
        start_legs = leg (number b sx sy) F.ground.start_on ∙ L.start_legs;
        seen_legs = λ v l m d.
            let e : at after.parents v ≡ at (search p).state.parent v = filled_at parents_filled r v l in
            let on : at after.parents v < vertices b = rw e (board_parents b sx sy gx gy (on_board r) v l) in
            leg v l ∙ L.seen_legs v l (λ z. m (mark v l ∙ z)) d ∙ rw (leg (at after.parents v) on, e) refl;
        goal_open = λ d. let q = found_open r d in mark (number b gx gy) q.0 ∙ q.1;
        none_open = λ e v l m. none_open F (found_none r e) v l (sym (mark v l) ∙ m);
        expanded = λ e v l.
            let q = none_expanded F (found_none r e) v l in
            ((λ m. q.0 (sym (mark v l) ∙ m)), (λ j. mark v l ∙ q.1 j));
      }
