-- The answer and the slices, once the search has run. Assumes nothing.
use mathlib.Core.Path.{◌≡◌, refl, sym, ap, ◌∙◌}
use mathlib.Core.Bool.{Bool, true, false, cond}
use mathlib.Core.List.{List, ◌++◌}
use Prim.Native.Nat.{ℕ, ◌≤◌}
use native.Mathlib.Omega.{arith}
use lib.Dec.{ltb, eqb}
use lib.ListN.{length, drop, length-append}
use Rattle.board.specs.Handed.{row, Handed, unless}
use Rattle.reach.specs.Turns.{at}
use Rattle.theta.specs.Search.{Problem, State, search, path}
use Rattle.theta.specs.Demands.{Work}
use Rattle.theta.specs.Lent.{Searched}
use Rattle.answer.specs.Answers.{Route, no_route, none, found, search_row, slices, searched, written, slices_after}
use Rattle.answer.specs.Inner.{path_of, PathGiven}
use Rattle.running.specs.Inner.{Ran}

-- it leaves its lists in the work slices, and its path where it found one that fits
pub searched_row : (p : Problem) (lent : ℕ) → searched (search_row p lent).number ≡ true
unfolding search_row
searched_row p lent = go (search p).found (ltb lent (length (path p (search p).state)))
  where
    go : (f l : Bool)
        → let s = (search p).state in
        let n = length (path p s) in
        searched (cond f (unless no_route (row l 7 n) (found (at s.g p.goal) n (at s.legs p.goal) s.expansions s.tests)) (none s.expansions s.tests)).number ≡ true
    go true true = refl
    go true false = refl
    go false l = refl

-- a search that is known to have found a path
pub as_found : {p : Problem} {before after : State} {f : Bool} → f ≡ true → Searched p before after f → Searched p before after true
as_found y S = rw y at S

module _ {p : Problem} (W : Work p (search p).state) {before after : State} {f : Bool} (S : Searched p before after f) where
  -- the work slices, as the definition's lists and what lies beyond them
  g_is : after.g ≡ written true (search p).state.g before.g
  g_is = S.g_is ∙ ap (λ (n : ℕ). (search p).state.g ++ drop n before.g) (sym W.g_size)

  parents_is : after.parent ≡ written true (search p).state.parent before.parent
  parents_is = S.parent_is ∙ ap (λ (n : ℕ). (search p).state.parent ++ drop n before.parent) (sym W.parent_size)

  marks_is : after.mark ≡ written true (search p).state.mark before.mark
  marks_is = S.mark_is ∙ ap (λ (n : ℕ). (search p).state.mark ++ drop n before.mark) (sym W.mark_size)

  legs_is : after.legs ≡ written true (search p).state.legs before.legs
  legs_is = S.legs_is ∙ ap (λ (n : ℕ). (search p).state.legs ++ drop n before.legs) (sym W.legs_size)

  -- with the path slice as the number says, the slices are as the definition leaves them
  all_written : (number : ℕ) (path₀ : List ℕ) {path' : List ℕ} → searched number ≡ true → path' ≡ written (eqb number 0) (path p (search p).state) path₀
      → slices after.g after.parent after.mark after.legs path'
      ≡ slices_after p number (slices before.g before.parent before.mark before.legs path₀)
  all_written number path₀ y w = rw (y, g_is, parents_is, marks_is, legs_is, w)

  pub g_room : p.size ≤ length after.g
  g_room = rw (S.g_is, length-append) (omega (arith, W.g_size))

  pub legs_room : p.size ≤ length after.legs
  legs_room = rw (S.legs_is, length-append) (omega (arith, W.legs_size))

  pub ran_none : (path₀ : List ℕ) → f ≡ false
      → Ran p (slices before.g before.parent before.mark before.legs path₀) (slices after.g after.parent after.mark after.legs path₀)
      (none after.expansions after.tests)
  unfolding search_row
  ran_none path₀ n = record { row_is = rw (S.expansions_is, S.tests_is, sym S.found_is ∙ n); after_is = all_written 8 path₀ refl refl }

  pub ran_path : {start goal units legs : ℕ} {path₀ path' : List ℕ} {h : Handed Route} → f ≡ true
      → PathGiven start goal units legs after.expansions after.tests after.parent path₀ path' h
      → path_of start goal after.parent ≡ path p (search p).state → units ≡ at (search p).state.g p.goal
      → legs ≡ at (search p).state.legs p.goal
      → Ran p (slices before.g before.parent before.mark before.legs path₀) (slices after.g after.parent after.mark after.legs path') h
  unfolding search_row
  ran_path {path₀ = path₀} {h = h} y T w u l =
      let r : h ≡ search_row p (length path₀) = T.row_is ∙ rw (w, u, l, S.expansions_is, S.tests_is, sym S.found_is ∙ y) in
      record { row_is = r; after_is = all_written h.number path₀ (rw r (searched_row p (length path₀))) (T.path_is ∙ rw w) }
