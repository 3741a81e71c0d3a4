-- Every route that our own search makes for a net of a job is right. Assumes nothing.
use Prim.Native.Nat.{ℕ, zero, suc, ◌+◌, ◌-◌, ◌≤◌, ◌<◌}
use mathlib.Core.Path.{◌≡◌, refl, sym, ap, ap₂, ◌∙◌}
use mathlib.Core.Logic.{◌≢◌, ◌⊎◌, inl, inr, ⊎_elim}
use mathlib.Core.Bool.{Bool, true, false, ◌&&◌, ◌||◌, true≢false}
use mathlib.Core.List.{List, [], ◌∷◌, ◌++◌, append_assoc, append-nil}
use native.Mathlib.Omega.{arith}
use lib.Dec.{leb, ltb, eqb}
use lib.ListN.{length}
use borrow.Author.Tests.{eqb-true, eq-eqb, ne_eqb, lt-ltb, ltb-true, le-leb, leb-true, leb-false}
use Rattle.laws.specs.Below.{how_many, first_where}
use Rattle.laws.proofs.Tests.{order, bool_cases, and_left, and_right, and_both, or_left, or_right, or_cases, same_test}
use Rattle.laws.proofs.Below.{indexed, indexed_here, indexed_below, indexed_does_pass, many_above, some_first, first_passes, first_before}
use Rattle.board.specs.Board.{Board, vertices, number, column, row, is_vertex}
use Rattle.board.specs.Inner.{OnBoard}
use Rattle.board.specs.Handed.{passes}
use Rattle.board.specs.Handed as handed
use Rattle.board.proofs.Numbers.{column_number, row_number, number_back, column_on, row_on}
use Rattle.board.proofs.Verdicts.{row_passes, both_pass}
use Rattle.records.specs.Records.{records, byte, length_row, in_order, is_in, unused_row}
use Rattle.records.proofs.InOrder.{each_passes}
use Rattle.reach.specs.Turns.{at}
use Rattle.theta.specs.Search.{search, path}
use Rattle.problem.specs.Problem.{problem}
use Rattle.problem.proofs.Theorems.{board_complete, board_route, board_unpinched}
use Rattle.kinds.specs.Job.{longest_job, is_net, is_unknown, used_by, Net, net_at, nets, net_record, width, height}
use Rattle.faults.specs.Faults.{is_misplaced, is_late, is_oversized, is_bad_keepout, net_before, is_unordered, record_rows, job_rows}
use Rattle.faults.specs.Inner.{Accepted}
use Rattle.faults.proofs.Accepted.{start_on, goal_on}
use Rattle.tracks.specs.Tracks.{Point, Route, route}
use Rattle.tracks.specs.Layout.{numbers_of}
use Rattle.bureau.specs.Paths.{point, point_at, problem_of}
use Rattle.bureau.specs.Nets.{job_board, job_net, points_for, in_job, in_routes}
use Rattle.rightness.specs.Own.{vertex_point, vertex_points, own_points, own_up_to, own_routes}
use Rattle.rightness.specs.Right.{PathRight, NoneRight, FileRight}

-- ---- a path as points

pub points_length : (b : Board) (vs : List ℕ) → length (vertex_points b vs) ≡ length vs
unfolding vertex_points
points_length b [] = refl
points_length b (v ∷ vs) = ap suc (points_length b vs)

points_at_lem : (b : Board) (vs : List ℕ) (k : ℕ) → k < length vs → point_at (vertex_points b vs) k ≡ vertex_point b (at vs k)
unfolding vertex_points
points_at_lem b [] k l = absurd (omega arith)
points_at_lem b (v ∷ vs) zero l = refl
points_at_lem b (v ∷ vs) (suc k) l = points_at_lem b vs k (omega arith)

-- ---- one net

module _ (b : Board) (net : Net) (S : OnBoard b net.sx net.sy) (G : OnBoard b net.gx net.gy) where
  found_right : (search (problem_of b net)).found ≡ true → PathRight b net (vertex_points b (path (problem_of b net) (search (problem_of b net)).state))
  unfolding problem
  found_right f =
      let vs : List ℕ = path (problem_of b net) (search (problem_of b net)).state in
      let ps : List Point = vertex_points b vs in
      let R = board_route b net.sx net.sy net.gx net.gy S f in
      let U = board_unpinched b net.sx net.sy net.gx net.gy S f in
      let e : length ps ≡ length vs = points_length b vs in
      let at-is : (k : ℕ) → k < length ps → point_at ps k ≡ vertex_point b (at vs k) = λ k l. points_at_lem b vs k (omega arith) in
      let end : length ps - 1 ≡ length vs - 1 = omega arith in
      record {
        some = omega (arith, R.some);
        first = at-is 0 (omega (arith, R.some)) ∙ ap (vertex_point b) R.first ∙ ends net.sx net.sy S;
        last = at-is (length ps - 1) (omega (arith, R.some)) ∙ ap (λ (k : ℕ). vertex_point b (at vs k)) end ∙ ap (vertex_point b) R.last ∙ ends net.gx net.gy G;
        on = λ k l. rw (at-is k l) (vertex_on (at vs k) (R.on k (omega arith)));
        differ = λ k l s. R.differ k (omega arith) (told_apart (at vs k) (at vs (k + 1)) (sym (at-is k (omega arith)) ∙ s ∙ at-is (k + 1) (omega arith)));
        sight = λ k l. rw (at-is k (omega arith), at-is (k + 1) (omega arith)) (R.sight k (omega arith));
        unpinched = λ k l.
            -- the vertex is not the last, which may be pinched
            let inner : k + 2 < length ps = l in
            rw (at-is (k + 1) (omega arith)) (U.between (k + 1) (omega arith) (omega arith));
      }
    where
      ends : (x y : ℕ) → OnBoard b x y → vertex_point b (number b x y) ≡ point x y
      ends x y o = ap₂ point (column_number b.width x y o.x_on) (row_number b.width x y o.x_on)

      vertex_on : (v : ℕ) → v < vertices b → is_vertex b (column b v) (row b v) ≡ true
      vertex_on v l = and_both (le-leb (column b v) b.width (column_on b.width v)) (le-leb (row b v) b.height (row_on b.width b.height v l))

      told_apart : (u v : ℕ) → vertex_point b u ≡ vertex_point b v → u ≡ v
      told_apart u v s =
          sym (number_back b.width u)
          ∙ ap₂ (λ (x y : ℕ). number b x y) (ap (λ (p : Point). p.x) s) (ap (λ (p : Point). p.y) s)
          ∙ number_back b.width v

  pub own_right : PathRight b net (own_points b net) ⊎ NoneRight b net (own_points b net)
  unfolding own_points
  own_right =
      ⊎_elim
      (λ (f : (search (problem_of b net)).found ≡ true). rw f (inl (found_right f)))
      (λ (f : (search (problem_of b net)).found ≡ false).
      rw f (inr (record {
        none = refl;
        apart = λ joined. true≢false (sym ((board_complete b net.sx net.sy net.gx net.gy S).reach_found joined) ∙ f);
      })))
      (bool_cases (search (problem_of b net)).found)

-- ---- the numbers of a job's nets rise

module _ {job : List ℕ} (a : Accepted job) where
  all_clean : in_order (records job) (record_rows job) ≡ passes
  unfolding job_rows
  all_clean =
      (both_pass (handed.row (eqb (records job) 0) 12 0) _
      (both_pass (length_row job) _ (both_pass (handed.row (ltb longest_job (length job)) 10 0) _ a.passed).1).1).1

  above_before : (i : ℕ) → i < records job → is_net job i ≡ true → net_before job i < (net_at job i).number
  unfolding record_rows
  above_before i l n =
      let all = each_passes (record_rows job) (records job) all_clean i l in
      let (by-13, after-13) = both_pass (handed.row (is_unknown job i) 13 i) _ all in
      let (by-23, after-23) = both_pass (unused_row job (used_by (byte job i 0)) i) _ after-13 in
      let (by-12, after-12) = both_pass (handed.row (is_misplaced job i) 12 i) _ after-23 in
      let (by-18, after-18) = both_pass (handed.row (is_late job i) 18 i) _ after-12 in
      let (by-14, after-14) = both_pass (handed.row (is_oversized job i) 14 i) _ after-18 in
      let (by-15, after-15) = both_pass (handed.row (is_bad_keepout job i) 15 i) _ after-14 in
      let (by-17, by-16) = both_pass (handed.row (is_unordered job i) 17 i) _ after-15 in
      leb-false (net_at job i).number (net_before job i) (rw n at (row_passes (is_unordered job i) 17 i by-17))

  before_rises : (i d : ℕ) → i + d ≤ records job → net_before job i ≤ net_before job (i + d)
  unfolding net_before
  before_rises i zero l = let e : i + 0 ≡ i = omega arith in rw e (omega arith)
  before_rises i (suc d) l =
      let e : i + suc d ≡ suc (i + d) = omega arith in
      let up = before_rises i d (omega arith) in
      ⊎_elim
      (λ (n : is_net job (i + d) ≡ true). rw (e, n) (omega (arith, above_before (i + d) (omega arith) n)))
      (λ (n : is_net job (i + d) ≡ false). rw (e, n) up)
      (bool_cases (is_net job (i + d)))

  numbers_rise : (i j : ℕ) → i < j → j < records job → is_net job i ≡ true → is_net job j ≡ true → (net_at job i).number < (net_at job j).number
  unfolding net_before
  numbers_rise i j b l m n =
      let d : suc i + (j - suc i) ≡ j = omega arith in
      let up = rw d at (before_rises (suc i) (j - suc i) (omega arith)) in
      omega (arith, rw m at up, above_before j l n)

  -- ---- each net by its index

  abbrev pub number_at : ℕ → ℕ
  number_at k = (job_net job k).number

  record Indexed (k : ℕ) : Type 0 where
    below : net_record job k < records job
    is : is_net job (net_record job k) ≡ true
    before : how_many (net_record job k) (is_net job) ≡ k

  indexed_net : (k : ℕ) → k < nets job → Indexed k
  indexed_net k l =
      let b = indexed_below (is_net job) (records job) k l in
      let p = first_passes (indexed (is_net job) k) (records job) b in
      record {
        below = b;
        is = indexed_does_pass (is_net job) (records job) k l;
        before = eqb-true (how_many (net_record job k) (is_net job)) k (and_right (is_net job (net_record job k)) (eqb (how_many (net_record job k) (is_net job)) k) p);
      }

  -- the net with a later index stands in a later record, so that its number is above
  pub numbers_up : (i j : ℕ) → i < j → j < nets job → number_at i < number_at j
  numbers_up i j b l =
      let I = indexed_net i (omega arith) in
      let J = indexed_net j l in
      ⊎_elim
      (λ (c : net_record job i < net_record job j). numbers_rise (net_record job i) (net_record job j) c J.below I.is J.is)
      (λ (c : net_record job j ≤ net_record job i).
      ⊎_elim
      (λ (d : net_record job j < net_record job i).
      absurd (omega (arith, many_above (is_net job) (net_record job i) (net_record job j) d J.is, I.before, J.before)))
      (λ (d : net_record job i ≤ net_record job j).
      let s : net_record job i ≡ net_record job j = omega arith in
      absurd (omega (arith, sym I.before ∙ ap (λ (r : ℕ). how_many r (is_net job)) s ∙ J.before)))
      (order (net_record job j) (net_record job i)))
      (order (net_record job i) (net_record job j))

  -- the first net's number is above 0
  pub number_above : (k : ℕ) → k < nets job → 0 < number_at k
  number_above k l = let I = indexed_net k l in omega (arith, above_before (net_record job k) I.below I.is)

  -- a number tells a net
  pub number_tells : (i j : ℕ) → i < nets job → j < nets job → number_at i ≡ number_at j → i ≡ j
  number_tells i j l m e =
      ⊎_elim
      (λ (b : i < j). absurd (omega (arith, numbers_up i j b m)))
      (λ (b : j ≤ i).
      ⊎_elim (λ (c : j < i). absurd (omega (arith, numbers_up j i c l))) (λ (c : i ≤ j). omega arith) (order j i))
      (order i j)

  -- its ends are vertices of the board
  on_board : {x y : ℕ} → (leb x (width job) && leb y (height job)) ≡ true → OnBoard (job_board job) x y
  on_board {x} {y} e = record {
    x_on = leb-true x (width job) (and_left (leb x (width job)) (leb y (height job)) e);
    y_on = leb-true y (height job) (and_right (leb x (width job)) (leb y (height job)) e);
  }

  pub net_starts : (k : ℕ) → k < nets job → OnBoard (job_board job) (job_net job k).sx (job_net job k).sy
  net_starts k l = let I = indexed_net k l in on_board (start_on a (net_record job k) I.below I.is)

  pub net_ends : (k : ℕ) → k < nets job → OnBoard (job_board job) (job_net job k).gx (job_net job k).gy
  net_ends k l = let I = indexed_net k l in on_board (goal_on a (net_record job k) I.below I.is)

  -- ---- the job has exactly those numbers

  job_has : (number : ℕ) → in_job job number ≡ true → (k : ℕ) × (k < nets job) × (number_at k ≡ number)
  unfolding in_job
  job_has number h =
      let t : ℕ → Bool = λ i. is_net job i && eqb (net_at job i).number number in
      let i : ℕ = first_where (records job) t in
      let l : i < records job = ltb-true i (records job) (sym (some_first t (records job)) ∙ h) in
      let p = first_passes t (records job) l in
      let n = and_left (is_net job i) (eqb (net_at job i).number number) p in
      let e = eqb-true (net_at job i).number number (and_right (is_net job i) (eqb (net_at job i).number number) p) in
      let s : net_record job (how_many i (is_net job)) ≡ i = indexed_here (is_net job) (records job) i l n in
      (how_many i (is_net job), many_above (is_net job) (records job) i l n, ap (λ (r : ℕ). (net_at job r).number) s ∙ e)

  has_job : (k : ℕ) → k < nets job → in_job job (number_at k) ≡ true
  unfolding in_job
  has_job k l =
      let I = indexed_net k l in
      let t : ℕ → Bool = λ i. is_net job i && eqb (net_at job i).number (number_at k) in
      some_first t (records job)
      ∙ ⊎_elim
      (λ (b : first_where (records job) t < records job). lt-ltb (first_where (records job) t) (records job) b)
      (λ (b : records job ≤ first_where (records job) t).
      absurd (true≢false (sym (and_both I.is (eq-eqb (number_at k) (number_at k) refl)) ∙ first_before t (records job) (net_record job k) (omega (arith, I.below)))))
      (order (first_where (records job) t) (records job))

  -- ---- and so have our routes

  abbrev pub own_route : ℕ → Route
  own_route k = route (number_at k) (own_points (job_board job) (job_net job k))

  pub one_more_own : (n : ℕ) (rest : List Route) → own_up_to job (suc n) ++ rest ≡ own_up_to job n ++ (own_route n ∷ rest)
  unfolding own_up_to
  one_more_own n rest = append_assoc (own_up_to job n) (own_route n ∷ []) rest

  skip_own : (n number : ℕ) (rest : List Route) → ((j : ℕ) → j < n → number_at j ≢ number) → points_for (own_up_to job n ++ rest) number ≡ points_for rest number
  unfolding own_up_to points_for
  skip_own zero number rest h = refl
  skip_own (suc n) number rest h =
      ap (λ (rs : List Route). points_for rs number) (one_more_own n rest)
      ∙ skip_own n number (own_route n ∷ rest) (λ j l. h j (omega arith)) ∙ rw (ne_eqb (number_at n) number (h n (omega arith)))

  own_points_lem : (n k : ℕ) (rest : List Route) → n ≤ nets job → k < n → points_for (own_up_to job n ++ rest) (number_at k) ≡ own_points (job_board job) (job_net job k)
  unfolding points_for
  own_points_lem zero k rest m l = absurd (omega arith)
  own_points_lem (suc n) k rest m l =
      ap (λ (rs : List Route). points_for rs (number_at k)) (one_more_own n rest)
      ∙ ⊎_elim
      (λ (b : k < n). own_points_lem n k (own_route n ∷ rest) (omega arith) b)
      (λ (b : n ≤ k).
      let s : k ≡ n = omega arith in
      rw s (skip_own n (number_at n) (own_route n ∷ rest) (λ (j : ℕ) (c : j < n) (e : number_at j ≡ number_at n).
      omega (arith, number_tells j n (omega arith) (omega arith) e)) ∙ rw (eq-eqb (number_at n) (number_at n) refl)))
      (order k n)

  own_in : (n k : ℕ) (rest : List Route) → k < n → is_in (number_at k) (numbers_of (own_up_to job n ++ rest)) ≡ true
  unfolding own_up_to numbers_of
  own_in zero k rest l = absurd (omega arith)
  own_in (suc n) k rest l =
      ap (λ (rs : List Route). is_in (number_at k) (numbers_of rs)) (one_more_own n rest)
      ∙ ⊎_elim
      (λ (b : k < n). own_in n k (own_route n ∷ rest) b)
      (λ (b : n ≤ k). let s : k ≡ n = omega arith in rw s (behind n (number_at n) (own_route n ∷ rest) (here rest)))
      (order k n)
    where
      here : (rest : List Route) → is_in (number_at n) (numbers_of (own_route n ∷ rest)) ≡ true
      here rest = or_left _ (eq-eqb (number_at n) (number_at n) refl)

      behind : (m number : ℕ) (rest : List Route) → is_in number (numbers_of rest) ≡ true → is_in number (numbers_of (own_up_to job m ++ rest)) ≡ true
      behind zero number rest h = h
      behind (suc m) number rest h =
          ap (λ (rs : List Route). is_in number (numbers_of rs)) (one_more_own m rest) ∙ behind m number (own_route m ∷ rest) (or_right (eqb number (number_at m)) h)

  in_own : (n number : ℕ) (rest : List Route) → is_in number (numbers_of (own_up_to job n ++ rest)) ≡ true
      → ((k : ℕ) × (k < n) × (number_at k ≡ number)) ⊎ (is_in number (numbers_of rest) ≡ true)
  unfolding own_up_to numbers_of
  in_own zero number rest h = inr h
  in_own (suc n) number rest h =
      ⊎_elim
      (λ (f : (k : ℕ) × (k < n) × (number_at k ≡ number)). let (k, l, e) = f in inl (k, omega arith, e))
      (λ (f : (eqb number (number_at n) || is_in number (numbers_of rest)) ≡ true).
      ⊎_elim
      (λ (g : eqb number (number_at n) ≡ true). inl (n, omega arith, sym (eqb-true number (number_at n) g)))
      (λ (g : is_in number (numbers_of rest) ≡ true). inr g)
      (or_cases (eqb number (number_at n)) (is_in number (numbers_of rest)) f))
      (in_own n number (own_route n ∷ rest) (sym (ap (λ (rs : List Route). is_in number (numbers_of rs)) (one_more_own n rest)) ∙ h))

  -- every route that our own search makes for a net of the job is right
  pub own_file_right : FileRight job (own_routes job)
  unfolding in_routes numbers_of
  own_file_right =
      let plain = append-nil (own_routes job) in
      record {
        same = λ number l.
            same_test (in_job job number) (in_routes (own_routes job) number)
            (λ (h : in_job job number ≡ true).
            let (k, b, e) = job_has number h in
            rw (← e) (ap (λ (rs : List Route). is_in (number_at k) (numbers_of rs)) (sym plain) ∙ own_in (nets job) k [] b))
            (λ (h : is_in number (numbers_of (own_routes job)) ≡ true).
            ⊎_elim
            (λ (f : (k : ℕ) × (k < nets job) × (number_at k ≡ number)). let (k, b, e) = f in rw (← e) (has_job k b))
            (λ (f : false ≡ true). absurd (true≢false (sym f)))
            (in_own (nets job) number [] (ap (λ (rs : List Route). is_in number (numbers_of rs)) plain ∙ h)));
        each = λ k l.
            let e : points_for (own_routes job) (number_at k) ≡ own_points (job_board job) (job_net job k) =
            ap (λ (rs : List Route). points_for rs (number_at k)) (sym plain) ∙ own_points_lem (nets job) k [] (omega arith) l in
            rw e (own_right (job_board job) (job_net job k) (net_starts k l) (net_ends k l));
      }
