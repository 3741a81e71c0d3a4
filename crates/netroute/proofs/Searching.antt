-- A net of an accepted job, searched in the program's buffers: its path fits, so a path or none is handed back. Assumes nothing.
use Prim.Native.Nat.{ℕ, ◌≤◌}
use mathlib.Core.Path.{◌≡◌, refl, sym, ap, ◌∙◌}
use mathlib.Core.Logic.{⊎_elim}
use mathlib.Core.Bool.{true, false}
use mathlib.Core.List.{List, [], ◌++◌}
use native.Mathlib.Omega.{arith}
use lib.ListN.{length, drop, length-append}
use lib.Seq.{drop-nil, take-append_seam}
use borrow.Author.Tests.{le-ltb}
use Rattle.laws.proofs.Tests.{bool_cases}
use Rattle.board.specs.Board.{Board, vertices}
use Rattle.board.specs.Inner.{OnBoard}
use Rattle.board.specs.Handed.{passes, Handed, leg_rows}
use Rattle.board.proofs.Rows.{leg_sound, leg_first}
use Rattle.reach.specs.Turns.{at}
use Rattle.theta.specs.Search.{Problem, search}
use Rattle.theta.specs.Lent.{state, Searched}
use Rattle.problem.specs.Problem.{problem}
use Rattle.problem.proofs.Theorems.{board_work, found_traced, found_path}
use Rattle.path.proofs.Reading.{path_length}
use Rattle.answer.specs.Answers.{Route, found, none, Slices, work_row, search_row, route_row, Routed}
use Rattle.router.proofs.Demands.{route_rightly}
use Rattle.netroute.specs.Limits.{vertex_room}
use Rattle.netroute.specs.Inner.{path_of, result, Found}
use Rattle.netroute.proofs.Limits.{vertices_fit}

-- what a search that found a path leaves in slices of no length
abbrev nowhere : Problem → List ℕ
nowhere p = drop p.size []

left_by : (p : Problem) → (search p).found ≡ true → let s = (search p).state in
    Searched p (state [] [] [] [] 0 0)
    (state (s.g ++ nowhere p) (s.parent ++ nowhere p) (s.mark ++ nowhere p) (s.legs ++ nowhere p) s.expansions s.tests) true
left_by p f = record { found_is = sym f; expansions_is = refl; tests_is = refl; g_is = refl; parent_is = refl; mark_is = refl; legs_is = refl }

-- what is handed back is a path or none
module _ (p : Problem) where
  pub result_found : (search p).found ≡ true → let s = (search p).state in
      result p ≡ found (at s.g p.goal) (length (path_of p)) (at s.legs p.goal) s.expansions s.tests
  result_found f = rw f

  pub result_none : (search p).found ≡ false → result p ≡ none (search p).state.expansions (search p).state.tests
  result_none f = rw f

module _ (b : Board) (sx sy gx gy : ℕ) (legs : leg_rows b sx sy gx gy ≡ passes) where
  abbrev p : Problem
  p = problem b sx sy gx gy

  on : OnBoard b sx sy
  on = leg_first b sx sy gx gy legs

  -- a path has no more vertices than the board
  pub path_few : (search p).found ≡ true → length (path_of p) ≤ vertices b
  unfolding problem
  path_few f =
      let F = left_by p f in
      let traced = found_traced on gx gy F in
      let size = (board_work b sx sy gx gy on).parent_size in
      let none : length (nowhere p) ≡ 0 = ap length (drop-nil p.size) in
      let all = length-append (search p).state.parent (nowhere p) in
      omega (arith, sym (ap length (found_path on gx gy F)) ∙ path_length traced, traced.few, size, none, all)

  module _ (lent : ℕ) (room : vertices b ≤ lent) where
    row_result : search_row p lent ≡ result p
    unfolding search_row
    row_result =
        ⊎_elim
        (λ (f : (search p).found ≡ true). rw (f, le-ltb lent (length (path_of p)) (omega (arith, path_few f))))
        (λ (f : (search p).found ≡ false). rw f)
        (bool_cases (search p).found)

  module _ (before : Slices) (g : vertex_room ≤ length before.g) (parents : vertex_room ≤ length before.parents)
      (marks : vertex_room ≤ length before.marks) (bends : vertex_room ≤ length before.legs) (path : vertex_room ≤ length before.path) where
    fits : vertices b ≤ vertex_room
    fits = let s = leg_sound b sx sy gx gy legs in vertices_fit b s.narrow s.low

    all_result : route_row b sx sy gx gy before ≡ result p
    unfolding route_row work_row
    all_result =
        let n = vertices b in
        let a = le-ltb (length before.g) n (omega (arith, fits)) in
        let c = le-ltb (length before.parents) n (omega (arith, fits)) in
        let d = le-ltb (length before.marks) n (omega (arith, fits)) in
        let e = le-ltb (length before.legs) n (omega (arith, fits)) in
        rw (legs, a, c, d, e) (row_result (length before.path) (omega (arith, fits)))

    pub found_given : {after : Slices} {h : Handed Route} → Routed b sx sy gx gy before after h
        → Found b sx sy gx gy h after.path
    found_given {after} {h} R =
        let handed : h ≡ result p = R.row_is ∙ all_result in
        ⊎_elim
        (λ (f : (search p).found ≡ true).
        let e = handed ∙ result_found p f in
        let zero : h.number ≡ 0 = ap (λ (x : Handed Route). x.number) e in
        let count : h.values.vertices ≡ length (path_of p) = ap (λ (x : Handed Route). x.values.vertices) e in
        let holds : after.path ≡ path_of p ++ drop (length (path_of p)) before.path =
        ap (λ (s : Slices). s.path) R.after_is ∙ rw zero in
        record {
          handed = handed;
          front = λ _. rw (count, holds) (take-append_seam (path_of p) (drop (length (path_of p)) before.path));
          room = (route_rightly R zero).count;
        })
        (λ (f : (search p).found ≡ false).
        let e = handed ∙ result_none p f in
        let eight : h.number ≡ 8 = ap (λ (x : Handed Route). x.number) e in
        let none : h.values.vertices ≡ 0 = ap (λ (x : Handed Route). x.values.vertices) e in
        record { handed = handed; front = λ z. absurd (omega (arith, z, eight)); room = omega (arith, none) })
        (bool_cases (search p).found)
