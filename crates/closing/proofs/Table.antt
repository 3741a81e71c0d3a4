-- The table: the row that the route call's definition gives is the first whose condition holds, and there is one such. Assumes nothing.
use mathlib.Core.Path.{◌≡◌, refl, sym, ap, ◌∙◌, subst}
use mathlib.Core.Logic.{◌⊎◌, inl, inr, ◌≢◌}
use mathlib.Core.Bool.{Bool, true, false, not, ◌&&◌, ◌||◌, cond, true≢false}
use mathlib.Core.List.{List}
use Prim.Native.Nat.{ℕ, ◌*◌, ◌≤◌, ◌<◌}
use native.Mathlib.Omega.{arith}
use lib.Dec.{leb, ltb, eqb}
use lib.ListN.{length}
use borrow.Author.Tests.{leb-true, ltb-true, ltb-false}
use Rattle.laws.proofs.Tests.{order}
use Rattle.board.specs.Limits.{largest_side}
use Rattle.board.specs.Board.{Board, is_vertex, vertices, number}
use Rattle.board.specs.Inner.{OnBoard}
use Rattle.board.specs.Handed.{Verdict, passes, refused, row, and_then, Handed, unless, side_fits, first_bad, board_rows, end_rows}
use Rattle.board.proofs.Bytes.{bad_wrong, bad_before}
use Rattle.reach.specs.Turns.{at}
use Rattle.theta.specs.Search.{search, path}
use Rattle.problem.specs.Problem.{problem}
use Rattle.problem.proofs.Theorems.{board_complete}
use Rattle.router.specs.Answers.{Route, no_route, found, none, Slices, work_row, search_row, route_row}
use Rattle.closing.specs.Demands.{WrongSide, FirstWrong, OffBoard, ShortWork, HasPath, the_path, Row, holds, passed, Unplaced, GivenBySearch, Given}
use Rattle.closing.proofs.Says.{Says, says_below, says_above, says_zero, says_differ, says_either, says_not_both}

-- ---- one row

-- a row that is decided by its test, and the rows after it
row_given : {After : ℕ → ℕ → Type 0} {C : ℕ → Type 0} {k : ℕ} (t : Bool) (q : ℕ) (v : Verdict) (rest : Handed Route) → (t ≡ true → C q)
    → (t ≡ false → (p : ℕ) → C p → ⊥) → (t ≡ false → After (unless no_route v rest).number (unless no_route v rest).place)
    → Row k C After (unless no_route (and_then (row t k q) v) rest).number (unless no_route (and_then (row t k q) v) rest).place
row_given true q v rest has lacks after = holds refl (has refl)
row_given false q v rest has lacks after = passed (lacks refl) (after refl)

-- one that names no place
unplaced_given : {After : ℕ → ℕ → Type 0} {C : Type 0} {k : ℕ} (t : Bool) (v : Verdict) (rest : Handed Route) → Says t C
    → (t ≡ false → After (unless no_route v rest).number (unless no_route v rest).place)
    → Row k (Unplaced C) After (unless no_route (and_then (row t k 0) v) rest).number (unless no_route (and_then (row t k 0) v) rest).place
unplaced_given t v rest S after = row_given t 0 v rest (λ e. (refl, S.yes e)) (λ e p c. S.no e c.1) after

-- at most one number and place
abbrev AtMostOne : (ℕ → ℕ → Type 0) → Type 0
AtMostOne G = (n p m q : ℕ) → G n p → G m q → (n ≡ m) × (p ≡ q)

row_one : {k : ℕ} {C : ℕ → Type 0} {After : ℕ → ℕ → Type 0} → ((p q : ℕ) → C p → C q → p ≡ q) → AtMostOne After → AtMostOne (Row k C After)
row_one u o n p m q (holds e c) (holds f d) = (e ∙ sym f, u p q c d)
row_one u o n p m q (holds e c) (passed x r) = absurd (x p c)
row_one u o n p m q (passed x r) (holds f d) = absurd (x q d)
row_one u o n p m q (passed x r) (passed y s) = o n p m q r s

unplaced_one : {k : ℕ} {C : Type 0} {After : ℕ → ℕ → Type 0} → AtMostOne After → AtMostOne (Row k (Unplaced C) After)
unplaced_one o = row_one (λ p q c d. c.0 ∙ sym d.0) o

-- no number above 8
row_most : {k : ℕ} {C : ℕ → Type 0} {After : ℕ → ℕ → Type 0} {n p : ℕ} → leb k 8 ≡ true → (After n p → n ≤ 8) → Row k C After n p → n ≤ 8
row_most {k} l more (holds e c) = omega (arith, leb-true k 8 l)
row_most l more (passed x r) = more r

-- ---- the conditions

wrong_side : (n : ℕ) → Says (not (side_fits n)) (WrongSide n)
wrong_side n = says_not_both (leb 1 n) (leb n largest_side) (says_zero n) (says_above n largest_side)

off_board : (b : Board) (x y : ℕ) → Says (not (is_vertex b x y)) (OffBoard b x y)
off_board b x y = says_not_both (leb x b.width) (leb y b.height) (says_above x b.width) (says_above y b.height)

-- what is not off the board is on it
on_board : (b : Board) (x y : ℕ) → (OffBoard b x y → ⊥) → OnBoard b x y
on_board b x y d = record { x_on = at_most (λ l. d (inl l)); y_on = at_most (λ l. d (inr l)) }
  where
    at_most : {w x : ℕ} → (w < x → ⊥) → x ≤ w
    at_most n = omega arith

-- the first bad byte
first_wrong : (cells : List ℕ) → first_bad cells < length cells → FirstWrong cells (first_bad cells)
first_wrong cells l = record { inside = l; wrong = bad_wrong cells l; lowest = bad_before cells }

-- there is none
none_wrong : (cells : List ℕ) → length cells ≤ first_bad cells → (i : ℕ) → FirstWrong cells i → ⊥
none_wrong cells l i W = omega (arith, W.wrong, bad_before cells i (omega (arith, W.inside)))

one_wrong : (cells : List ℕ) (i j : ℕ) → FirstWrong cells i → FirstWrong cells j → i ≡ j
one_wrong cells i j U W = go (order i j) (order j i)
  where
    go : (i < j) ⊎ (j ≤ i) → (j < i) ⊎ (i ≤ j) → i ≡ j
    go (inl l) k = absurd (omega (arith, U.wrong, W.lowest i l))
    go (inr l) (inl k) = absurd (omega (arith, W.wrong, U.lowest j k))
    go (inr l) (inr k) = omega arith

-- ---- the whole table

six : (u v w x y z : Verdict)
    → and_then (and_then (and_then u (and_then v w)) (and_then x y)) z ≡ and_then u (and_then v (and_then w (and_then x (and_then y (and_then z passes)))))
six (refused n p s) v w x y z = refl
six passes (refused n p s) w x y z = refl
six passes passes (refused n p s) x y z = refl
six passes passes passes (refused n p s) y z = refl
six passes passes passes passes (refused n p s) z = refl
six passes passes passes passes passes (refused n p s) = refl
six passes passes passes passes passes passes = refl

module _ (b : Board) (sx sy gx gy : ℕ) (lent : Slices) where
  abbrev sides : Bool
  sides = not (side_fits b.width && side_fits b.height)

  abbrev count : Bool
  count = not (eqb (length b.cells) (b.width * b.height))

  abbrev bad : Bool
  bad = ltb (first_bad b.cells) (length b.cells)

  abbrev short : Bool
  short =
      ltb (length lent.g) (vertices b)
      || (ltb (length lent.parents) (vertices b) || (ltb (length lent.marks) (vertices b) || ltb (length lent.legs) (vertices b)))

  abbrev searching : Handed Route
  searching = search_row (problem b sx sy gx gy) (length lent.path)

  -- the rows 1 to 6 in the order of the table
  abbrev rows : Verdict
  rows =
      and_then (row sides 1 0)
      (and_then (row count 2 0)
      (and_then (row bad 3 (first_bad b.cells))
      (and_then (row (not (is_vertex b sx sy)) 4 0) (and_then (row (not (is_vertex b gx gy)) 5 0) (and_then (row short 6 0) passes)))))

  in_order : route_row b sx sy gx gy lent ≡ unless no_route rows searching
  unfolding route_row board_rows end_rows work_row
  in_order =
      ap (λ (v : Verdict). unless no_route v searching)
      (six (row sides 1 0) (row count 2 0) (row bad 3 (first_bad b.cells)) (row (not (is_vertex b sx sy)) 4 0)
      (row (not (is_vertex b gx gy)) 5 0) (row short 6 0))

  short_work : Says short (ShortWork b lent)
  short_work =
      says_either (ltb (length lent.g) (vertices b))
      (ltb (length lent.parents) (vertices b) || (ltb (length lent.marks) (vertices b) || ltb (length lent.legs) (vertices b)))
      (says_below (length lent.g) (vertices b))
      (says_either (ltb (length lent.parents) (vertices b)) (ltb (length lent.marks) (vertices b) || ltb (length lent.legs) (vertices b))
      (says_below (length lent.parents) (vertices b))
      (says_either (ltb (length lent.marks) (vertices b)) (ltb (length lent.legs) (vertices b)) (says_below (length lent.marks) (vertices b))
      (says_below (length lent.legs) (vertices b))))

  -- the rows 7, 8 and 0
  last_given : OnBoard b sx sy → GivenBySearch b sx sy gx gy lent searching.number searching.place
  unfolding search_row
  last_given S = go (search (problem b sx sy gx gy)).found (ltb (length lent.path) (length (the_path b sx sy gx gy))) refl refl
    where
      joined : (search (problem b sx sy gx gy)).found ≡ true → HasPath b sx sy gx gy
      joined e = (board_complete b sx sy gx gy S).found_reach e

      apart : (search (problem b sx sy gx gy)).found ≡ false → HasPath b sx sy gx gy → ⊥
      apart e j = true≢false (sym ((board_complete b sx sy gx gy S).reach_found j) ∙ e)

      go : (f l : Bool) → (search (problem b sx sy gx gy)).found ≡ f → ltb (length lent.path) (length (the_path b sx sy gx gy)) ≡ l
          → let s = (search (problem b sx sy gx gy)).state in
          let n = length (the_path b sx sy gx gy) in
          let h = cond f (unless no_route (row l 7 n) (found (at s.g (problem b sx sy gx gy).goal) n (at s.legs (problem b sx sy gx gy).goal) s.expansions s.tests))
          (none s.expansions s.tests) in
          GivenBySearch b sx sy gx gy lent h.number h.place
      go true true e l = holds refl (refl, joined e, ltb-true (length lent.path) (length (the_path b sx sy gx gy)) l)
      go true false e l =
          let fits : length (the_path b sx sy gx gy) ≤ length lent.path = ltb-false (length lent.path) (length (the_path b sx sy gx gy)) l in
          passed (λ q c. omega (arith, c.0, c.2)) (passed (λ q c. c.1 (joined e)) (holds refl (refl, (joined e, fits))))
      go false l e m = passed (λ q c. apart e c.1) (holds refl (refl, apart e))

  pub row_first : Given b sx sy gx gy lent (route_row b sx sy gx gy lent).number (route_row b sx sy gx gy lent).place
  row_first =
      subst (λ (h : Handed Route). Given b sx sy gx gy lent h.number h.place) (sym in_order)
      (unplaced_given sides _ searching (says_not_both (side_fits b.width) (side_fits b.height) (wrong_side b.width) (wrong_side b.height))
      (λ e₁. unplaced_given count _ searching (says_differ (length b.cells) (b.width * b.height))
      (λ e₂. row_given bad (first_bad b.cells) _ searching (λ e. first_wrong b.cells (ltb-true _ _ e)) (λ e. none_wrong b.cells (ltb-false _ _ e))
      (λ e₃. unplaced_given (not (is_vertex b sx sy)) _ searching (off_board b sx sy)
      (λ e₄. unplaced_given (not (is_vertex b gx gy)) _ searching (off_board b gx gy)
      (λ e₅. unplaced_given short passes searching short_work (λ e₆. last_given (on_board b sx sy ((off_board b sx sy).no e₄)))))))))

  pub row_only : AtMostOne (Given b sx sy gx gy lent)
  row_only =
      unplaced_one (unplaced_one (row_one (one_wrong b.cells) (unplaced_one (unplaced_one (unplaced_one
      (row_one (λ p q c d. c.0 ∙ sym d.0) (unplaced_one (unplaced_one (λ n p m q r s. absurd r)))))))))

  pub row_known : {n p : ℕ} → Given b sx sy gx gy lent n p → n ≤ 8
  row_known =
      row_most refl (row_most refl (row_most refl (row_most refl (row_most refl (row_most refl
      (row_most refl (row_most refl (row_most refl (λ r. absurd r)))))))))

  -- ---- what comes with the number

  -- no second place, and no value with 1 to 7
  abbrev Bare : Handed Route → Type 0
  Bare h = (h.second ≡ 0) × (0 < h.number → h.number < 8 → h.values ≡ no_route)

  last_bare : Bare searching
  unfolding search_row
  last_bare = go (search (problem b sx sy gx gy)).found (ltb (length lent.path) (length (the_path b sx sy gx gy)))
    where
      go : (f l : Bool)
          → let s = (search (problem b sx sy gx gy)).state in
          let n = length (the_path b sx sy gx gy) in
          Bare (cond f (unless no_route (row l 7 n) (found (at s.g (problem b sx sy gx gy).goal) n (at s.legs (problem b sx sy gx gy).goal) s.expansions s.tests))
          (none s.expansions s.tests))
      go true true = (refl, λ l m. refl)
      go true false = (refl, λ l m. absurd (omega arith))
      go false l = (refl, λ l m. absurd (omega arith))

  pub row_bare : Bare (route_row b sx sy gx gy lent)
  row_bare =
      let end = rows_bare short 6 0 passes last_bare in
      let five = rows_bare (not (is_vertex b gx gy)) 5 0 _ end in
      let four = rows_bare (not (is_vertex b sx sy)) 4 0 _ five in
      let three = rows_bare bad 3 (first_bad b.cells) _ four in
      subst Bare (sym in_order) (rows_bare sides 1 0 _ (rows_bare count 2 0 _ three))
    where
      rows_bare : (t : Bool) (k q : ℕ) (v : Verdict) → Bare (unless no_route v searching) → Bare (unless no_route (and_then (row t k q) v) searching)
      rows_bare true k q v B = (refl, λ l m. refl)
      rows_bare false k q v B = B
