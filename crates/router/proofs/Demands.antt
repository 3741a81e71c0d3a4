-- Demands 2 and 3, and that no path squeezes through a pinched vertex, proved of every call. Assumes nothing.
use mathlib.Core.Path.{◌≡◌, refl, sym, ap, ◌∙◌, subst}
use mathlib.Core.Bool.{Bool, true, false, not, ◌||◌, cond, true≢false, false≢true}
use mathlib.Core.List.{List, [], ◌++◌}
use Prim.Native.Nat.{ℕ, ◌^◌, ◌≤◌, ◌<◌}
use native.Mathlib.Omega.{arith}
use lib.Dec.{ltb}
use lib.ListN.{length, drop, take, length-append}
use lib.Seq.{take-append_seam}
use borrow.Author.Tests.{ltb-false, not-true}
use Rattle.board.specs.Board.{Board, vertices, number}
use Rattle.board.specs.Inner.{Sound, OnBoard}
use Rattle.board.specs.Handed.{Verdict, passes, refused, row, and_then, Handed, unless, leg_rows}
use Rattle.board.proofs.Verdicts.{both_pass, Within, row_within, then_within}
use Rattle.board.proofs.Rows.{leg_sound, leg_first, leg_within}
use Rattle.length.proofs.Floats.{cells_exact}
use Rattle.reach.specs.Turns.{at}
use Rattle.theta.specs.Search.{Problem, search, path}
use Rattle.theta.specs.Lent.{state, Searched}
use Rattle.problem.specs.Problem.{problem, Unpinched}
use Rattle.problem.proofs.Theorems.{
  board_complete,
  board_tested,
  board_route,
  board_vertices,
  board_measured,
  board_unpinched,
  found_units,
  found_exact,
}
use Rattle.answer.specs.Answers.{Route, no_route, found, none, Slices, work_row, search_row, route_row, searched, Routed}
use Rattle.router.specs.Demands.{Exhaustive, Rightly}

-- a request that is searched passed the checks 1 to 6
passed : (v : Verdict) (rest : Handed Route) → Within (λ (n : ℕ). not (searched n)) v → searched (unless no_route v rest).number ≡ true
    → (v ≡ passes) × (unless no_route v rest ≡ rest)
passed passes rest q e = (refl, refl)
passed (refused n p s) rest q e = absurd (false≢true (sym (not-true (searched n) q) ∙ e))

module _ (b : Board) (sx sy gx gy : ℕ) (lent : Slices) (e : searched (route_row b sx sy gx gy lent).number ≡ true) where
  abbrev short : Bool
  short =
      ltb (length lent.g) (vertices b)
      || (ltb (length lent.parents) (vertices b) || (ltb (length lent.marks) (vertices b) || ltb (length lent.legs) (vertices b)))

  abbrev quiet : ℕ → Bool
  quiet n = not (searched n)

  -- the rows 1 to 6 pass, and what the search says is handed back
  both : (and_then (leg_rows b sx sy gx gy) (work_row (vertices b) lent) ≡ passes)
      × (route_row b sx sy gx gy lent ≡ search_row (problem b sx sy gx gy) (length lent.path))
  unfolding route_row work_row
  both =
      passed (and_then (leg_rows b sx sy gx gy) (work_row (vertices b) lent)) (search_row (problem b sx sy gx gy) (length lent.path))
      (then_within quiet (leg_rows b sx sy gx gy) (work_row (vertices b) lent) (leg_within quiet b sx sy gx gy refl refl refl refl refl) (row_within quiet short 6 0 refl)) e

  leg_passes : leg_rows b sx sy gx gy ≡ passes
  leg_passes = (both_pass (leg_rows b sx sy gx gy) (work_row (vertices b) lent) both.0).0

  pub start_on : OnBoard b sx sy
  start_on = leg_first b sx sy gx gy leg_passes

  sound : Sound b
  sound = leg_sound b sx sy gx gy leg_passes

  pub row_searched : route_row b sx sy gx gy lent ≡ search_row (problem b sx sy gx gy) (length lent.path)
  row_searched = both.1

-- ---- what the search's row says

-- the path's vertices, and what is handed back with a path and without
abbrev pub count : Problem → ℕ
count p = length (path p (search p).state)

abbrev pub success : Problem → Handed Route
success p =
    found (at (search p).state.g p.goal) (count p) (at (search p).state.legs p.goal) (search p).state.expansions (search p).state.tests

abbrev pub failure : Problem → Handed Route
failure p = none (search p).state.expansions (search p).state.tests

module _ (p : Problem) (lent : ℕ) where
  zero_found : (search_row p lent).number ≡ 0 → ((search p).found ≡ true) × ((count p) ≤ lent) × (search_row p lent ≡ (success p))
  unfolding search_row
  zero_found e = go (search p).found (ltb lent (count p)) refl refl e
    where
      go : (f l : Bool) → (search p).found ≡ f → ltb lent (count p) ≡ l → (cond f (unless no_route (row l 7 (count p)) (success p)) (failure p)).number ≡ 0
          → ((search p).found ≡ true) × ((count p) ≤ lent) × (cond f (unless no_route (row l 7 (count p)) (success p)) (failure p) ≡ (success p))
      go true true a c e = absurd (omega arith)
      go true false a c e = (a, ltb-false lent (count p) c, refl)
      go false l a c e = absurd (omega arith)

  pub eight_none : (search_row p lent).number ≡ 8 → ((search p).found ≡ false) × (search_row p lent ≡ (failure p))
  unfolding search_row
  eight_none e = go (search p).found (ltb lent (count p)) refl e
    where
      go : (f l : Bool) → (search p).found ≡ f → (cond f (unless no_route (row l 7 (count p)) (success p)) (failure p)).number ≡ 8
          → ((search p).found ≡ false) × (cond f (unless no_route (row l 7 (count p)) (success p)) (failure p) ≡ (failure p))
      go true true a e = absurd (omega arith)
      go true false a e = absurd (omega arith)
      go false l a e = (a, refl)

  -- with any other number it has found a path
  pub other_found : ((search_row p lent).number ≡ 8 → ⊥) → (search p).found ≡ true
  unfolding search_row
  other_found d = go (search p).found refl d
    where
      go : (f : Bool) → (search p).found ≡ f
          → ((cond f (unless no_route (row (ltb lent (count p)) 7 (count p)) (success p)) (failure p)).number ≡ 8 → ⊥) → (search p).found ≡ true
      go true a d = a
      go false a d = absurd (d refl)

-- what the search leaves in slices of no length, to speak of a search that found a path
left_by : (p : Problem) → (search p).found ≡ true
    → let s = (search p).state in
    Searched p (state [] [] [] [] 0 0)
    (state (s.g ++ drop p.size []) (s.parent ++ drop p.size []) (s.mark ++ drop p.size []) (s.legs ++ drop p.size []) s.expansions
    s.tests) true
left_by p f = record { found_is = sym f; expansions_is = refl; tests_is = refl; g_is = refl; parent_is = refl; mark_is = refl; legs_is = refl }

-- ---- the demands

module _ (b : Board) (sx sy gx gy : ℕ) (lent : Slices) where
  abbrev h : Handed Route
  h = route_row b sx sy gx gy lent

  abbrev p : Problem
  p = problem b sx sy gx gy

  -- a path: the search has found one, and it fits
  pub row_path : h.number ≡ 0 → OnBoard b sx sy × ((search p).found ≡ true) × (count p ≤ length lent.path) × (h ≡ success p)
  row_path e =
      let s : searched h.number ≡ true = rw e in
      let r = row_searched b sx sy gx gy lent s in
      let z = zero_found p (length lent.path) (ap (λ (x : Handed Route). x.number) (sym r) ∙ e) in
      (start_on b sx sy gx gy lent s, z.0, z.1, r ∙ z.2)

  -- none: the search has found none
  pub row_none : h.number ≡ 8 → OnBoard b sx sy × ((search p).found ≡ false) × (h ≡ failure p)
  row_none e =
      let s : searched h.number ≡ true = rw e in
      let r = row_searched b sx sy gx gy lent s in
      let z = eight_none p (length lent.path) (ap (λ (x : Handed Route). x.number) (sym r) ∙ e) in
      (start_on b sx sy gx gy lent s, z.0, r ∙ z.1)

  row_exhaustive : Exhaustive b sx sy gx gy h
  unfolding problem
  row_exhaustive = record {
    path_joined = λ e. let z = row_path e in (board_complete b sx sy gx gy z.0).found_reach z.1;
    none_apart = λ e j. let z = row_none e in true≢false (sym ((board_complete b sx sy gx gy z.0).reach_found j) ∙ z.1);
    none_expansions = λ e. let z = row_none e in rw z.2 ((board_complete b sx sy gx gy z.0).none_expansions z.1);
    none_tests = λ e. let z = row_none e in rw z.2 ((board_tested b sx sy gx gy z.0).none_tests z.1);
    path_expansions = λ e. let z = row_path e in rw z.3 ((board_complete b sx sy gx gy z.0).found_expansions z.1);
    path_tests = λ e. let z = row_path e in rw z.3 ((board_tested b sx sy gx gy z.0).found_tests z.1);
  }

  -- an f64 holds the units of a path
  zero_units : h.number ≡ 0 → at (search p).state.g (number b gx gy) < 2 ^ 53
  zero_units e =
      let z = row_path e in
      let F = left_by p z.1 in
      subst (λ (n : ℕ). n < 2 ^ 53) (found_units z.0 gx gy F) (found_exact z.0 gx gy F (sound b sx sy gx gy lent (rw e)))

  row_rightly : (path₀ path' : List ℕ) → h.number ≡ 0 → path' ≡ path p (search p).state ++ drop (count p) path₀ → Rightly b sx sy gx gy h path'
  unfolding problem
  row_rightly path₀ path' e w =
      let z = row_path e in
      let front : take (count p) path' ≡ path p (search p).state = rw w (take-append_seam (path p (search p).state) (drop (count p) path₀)) in
      rw z.3 (record {
        count = rw (w, length-append) (omega arith);
        route = rw front (board_route b sx sy gx gy z.0 z.1);
        rounded = rw front (board_measured b sx sy gx gy z.0 z.1);
        cells = cells_exact (at (search p).state.g (number b gx gy)) (zero_units e);
        legs = sym (board_vertices b sx sy gx gy z.0 z.1);
      })

  -- the path in the path slice squeezes through no pinched vertex
  row_unpinched : (path₀ path' : List ℕ) → h.number ≡ 0 → path' ≡ path p (search p).state ++ drop (count p) path₀
      → Unpinched b (take h.values.vertices path')
  unfolding problem
  row_unpinched path₀ path' e w =
      let z = row_path e in
      let front : take (count p) path' ≡ path p (search p).state =
      rw w (take-append_seam (path p (search p).state) (drop (count p) path₀)) in
      rw z.3 (rw front (board_unpinched b sx sy gx gy z.0 z.1))

-- ---- of every call

module _ {b : Board} {sx sy gx gy : ℕ} {before after : Slices} {h : Handed Route} (R : Routed b sx sy gx gy before after h) where
  -- demand 3
  pub route_exhaustive : Exhaustive b sx sy gx gy h
  route_exhaustive = rw R.row_is (row_exhaustive b sx sy gx gy before)

  -- demand 2
  pub route_rightly : h.number ≡ 0 → Rightly b sx sy gx gy h after.path
  route_rightly e =
      let z : (route_row b sx sy gx gy before).number ≡ 0 = ap (λ (x : Handed Route). x.number) (sym R.row_is) ∙ e in
      let w = ap (λ (s : Slices). s.path) R.after_is in
      rw R.row_is (row_rightly b sx sy gx gy before before.path after.path z (w ∙ rw e))

  -- document 02, item 6
  pub route_unpinched : h.number ≡ 0 → Unpinched b (take h.values.vertices after.path)
  route_unpinched e =
      let z : (route_row b sx sy gx gy before).number ≡ 0 = ap (λ (x : Handed Route). x.number) (sym R.row_is) ∙ e in
      let w = ap (λ (s : Slices). s.path) R.after_is in
      rw R.row_is (row_unpinched b sx sy gx gy before before.path after.path z (w ∙ rw e))
