-- Our own routes go through the writer of route files, and the check accepts what it has written. Assumes nothing.
use Prim.Native.Nat.{ℕ, zero, suc, ◌+◌, ◌*◌, ◌%◌, ◌≤◌, ◌<◌}
use mathlib.Core.Path.{◌≡◌, refl, sym, ap, ap₂, ◌∙◌}
use mathlib.Core.Logic.{⊎_elim}
use mathlib.Core.Bool.{true, false}
use mathlib.Core.List.{List, [], ◌∷◌, ◌++◌, append-nil}
use native.Mathlib.Omega.{arith}
use lib.Dec.{leb, ltb, eqb}
use lib.ListN.{length, get_or, take, drop, length-append}
use lib.Seq.{take_at}
use borrow.Author.Tests.{le-ltb, lt-ltb, eq-eqb, eqb-true, eqb-false, leb-true}
use Rattle.laws.proofs.Tests.{order, bool_cases, and_right, or_false}
use Rattle.board.specs.Limits.{largest_side, most_vertices}
use Rattle.board.specs.Board.{vertices}
use Rattle.board.specs.Handed.{Verdict, passes, row, Handed, answer}
use Rattle.board.proofs.Numbers.{vertices_few}
use Rattle.records.specs.Records.{record_bytes, records}
use Rattle.problem.specs.Problem.{problem}
use Rattle.reach.specs.Turns.{at}
use Rattle.theta.specs.Search.{search, trail, path}
use Rattle.theta.proofs.Trails.{trail_start, trail_back}
use Rattle.kinds.specs.Job.{nets, width, height}
use Rattle.faults.specs.Inner.{Accepted}
use Rattle.faults.proofs.Accepted.{width_fits, height_fits}
use Rattle.tracks.specs.Tracks.{Point, Route, file_of}
use Rattle.tracks.specs.Faults.{file_rows}
use Rattle.tracks.specs.Layout.{numbers_of, counts_of, xs_of, ys_of, laid_out, points_before, routes_up_to}
use Rattle.tracks.specs.Layout as layout
use Rattle.tracks.specs.Inner.{records_for}
use Rattle.tracks.specs.Answers.{laid, Records, file_for, is_lacking, write_rows, write_row, file_after, RoutesWritten}
use Rattle.tracks.proofs.Rising.{whole_file}
use Rattle.tracks.proofs.Laying.{counts_length, points_all, laid_again}
use Rattle.tracks.proofs.Theorems.{routes_again}
use Rattle.tally.proofs.Measuring.{Judged, judged_none, judged_more}
use Rattle.bureau.specs.Paths.{problem_of}
use Rattle.bureau.specs.Nets.{job_board, job_net}
use Rattle.bureau.specs.Answers.{Slices, check_row}
use Rattle.rightness.specs.Own.{own_points, own_up_to, own_routes}
use Rattle.rightness.specs.Demands.{Roomy, OwnPass}
use Rattle.rightness.proofs.Own.{points_length, number_at, own_route, one_more_own, numbers_up, number_above, own_file_right}
use Rattle.rightness.proofs.Promised.{accepted_exactly}

-- ---- a path has few points

trail_few : (start : ℕ) (parent : List ℕ) (k v : ℕ) → length (trail start parent k v) ≤ suc k
unfolding trail
trail_few start parent zero v = omega arith
trail_few start parent (suc k) v =
    ⊎_elim
    (λ (e : eqb v start ≡ true). rw (eqb-true v start e, trail_start start parent (suc k)) (omega arith))
    (λ (e : eqb v start ≡ false).
    rw (trail_back start parent k v (eqb-false v start e), length-append) (omega (arith, trail_few start parent k (at parent v))))
    (bool_cases (eqb v start))

module _ {job : List ℕ} (a : Accepted job) where
  size_few : vertices (job_board job) ≤ most_vertices
  size_few =
      let w = leb-true (width job) largest_side (and_right (leb 1 (width job)) (leb (width job) largest_side) (width_fits a)) in
      let h = leb-true (height job) largest_side (and_right (leb 1 (height job)) (leb (height job) largest_side) (height_fits a)) in
      vertices_few (width job) (height job) w h

  points_few : (k : ℕ) → length (own_points (job_board job) (job_net job k)) ≤ 65536
  unfolding own_points problem
  points_few k =
      let net = job_net job k in
      let p = problem_of (job_board job) net in
      ⊎_elim
      (λ (f : (search p).found ≡ true). rw f (omega (
        arith,
        points_length (job_board job) (path p (search p).state),
        trail_few p.start (search p).state.parent p.size p.goal,
        size_few,
      )))
      (λ (f : (search p).found ≡ false). rw f (omega arith))
      (bool_cases (search p).found)

  -- ---- numbers and counts, net by net

  module _ (of : List Route → List ℕ) (get : Route → ℕ) (none : of [] ≡ []) (more : (r : Route) (rs : List Route) → of (r ∷ rs) ≡ get r ∷ of rs) where
    behind : (n j : ℕ) (rest : List Route) → get_or (of (own_up_to job n ++ rest)) (n + j) 0 ≡ get_or (of rest) j 0
    unfolding own_up_to
    behind zero j rest = let e : 0 + j ≡ j = omega arith in rw e
    behind (suc n) j rest =
        let e : suc n + j ≡ n + suc j = omega arith in
        rw e (ap (λ (rs : List Route). get_or (of rs) (n + suc j) 0) (one_more_own a n rest) ∙ behind n (suc j) (own_route a n ∷ rest) ∙ rw (more (own_route a n) rest))

    at_index : (n k : ℕ) (rest : List Route) → k < n → get_or (of (own_up_to job n ++ rest)) k 0 ≡ get (own_route a k)
    unfolding own_up_to
    at_index zero k rest l = absurd (omega arith)
    at_index (suc n) k rest l =
        ap (λ (rs : List Route). get_or (of rs) k 0) (one_more_own a n rest)
        ∙ ⊎_elim
        (λ (b : k < n). at_index n k (own_route a n ∷ rest) b)
        (λ (b : n ≤ k).
        let s : k ≡ n = omega arith in
        let z : n ≡ n + 0 = omega arith in
        rw s (ap (λ (i : ℕ). get_or (of (own_up_to job n ++ (own_route a n ∷ rest))) i 0) z ∙ behind n 0 (own_route a n ∷ rest) ∙ rw (more (own_route a n) rest)))
        (order k n)

    own_at : (k : ℕ) → k < nets job → get_or (of (own_routes job)) k 0 ≡ get (own_route a k)
    own_at k l = ap (λ (rs : List Route). get_or (of rs) k 0) (sym (append-nil (own_routes job))) ∙ at_index (nets job) k [] l

    long : (n : ℕ) (rest : List Route) → length (of (own_up_to job n ++ rest)) ≡ n + length (of rest)
    unfolding own_up_to
    long zero rest = omega arith
    long (suc n) rest =
        ap (λ (rs : List Route). length (of rs)) (one_more_own a n rest) ∙ long n (own_route a n ∷ rest)
        ∙ omega (arith, ap length (more (own_route a n) rest))

    own_long : length (of (own_routes job)) ≡ nets job
    own_long =
        ap (λ (rs : List Route). length (of rs)) (sym (append-nil (own_routes job))) ∙ long (nets job) [] ∙ omega (arith, ap length none)

  abbrev lent_out : layout.Slices
  lent_out = laid_out (own_routes job)

  number_is : (k : ℕ) → k < nets job → get_or lent_out.nets k 0 ≡ number_at a k
  unfolding numbers_of
  number_is = own_at numbers_of (λ (r : Route). r.net) refl (λ r rs. refl)

  count_is : (k : ℕ) → k < nets job → get_or lent_out.counts k 0 ≡ length (own_points (job_board job) (job_net job k))
  unfolding counts_of
  count_is = own_at counts_of (λ (r : Route). length r.points) refl (λ r rs. refl)

  nets_are : length lent_out.nets ≡ nets job
  unfolding numbers_of
  nets_are = own_long numbers_of (λ (r : Route). r.net) refl (λ r rs. refl)

  -- ---- the writer judges them, net after net

  record Going (k : ℕ) : Type 0 where
    at : ℕ
    points : ℕ
    last : ℕ
    judged : Judged lent_out k at points last
    below : k < nets job → last < number_at a k

  going : (k : ℕ) → k ≤ nets job → Going k
  going zero l = record { at = 0; points = 0; last = 0; judged = judged_none lent_out; below = λ m. number_above a 0 m }
  going (suc k) l =
      let g = going k (omega arith) in
      let n : get_or lent_out.nets k 0 ≡ number_at a k = number_is k (omega arith) in
      let few : get_or lent_out.counts k 0 ≤ 65536 = omega (arith, count_is k (omega arith), points_few k) in
      let next = judged_more g.judged (omega (arith, nets_are)) (omega (arith, g.below (omega arith))) few refl refl in
      let one : k + 1 ≡ suc k = omega arith in
      record {
        at = g.at + records_for (get_or lent_out.counts k 0);
        points = g.points + get_or lent_out.counts k 0;
        last = get_or lent_out.nets k 0;
        judged = rw one at next;
        below = λ m. omega (arith, numbers_up a k (suc k) (omega arith) m);
      }

  own_clean : file_rows (file_for lent_out) ≡ passes
  unfolding file_rows
  own_clean =
      let g = going (nets job) (omega arith) in
      let size : length (file_for lent_out) ≡ g.at * 8 = ap (λ (n : ℕ). length (file_of (routes_up_to lent_out n))) nets_are ∙ g.judged.long in
      let n : records (file_for lent_out) ≡ g.at = omega arith in
      rw (eq-eqb (length (file_for lent_out) % record_bytes) 0 (whole_file (routes_up_to lent_out (length lent_out.nets))), n) g.judged.passed

  file_is : file_for lent_out ≡ file_of (own_routes job)
  file_is = ap file_of (laid_again (own_routes job))

  -- ---- it accepts them

  -- the slices that hold the routes are long enough
  lacks : (room : ℕ) → is_lacking lent_out room ≡ ltb room (length (file_for lent_out))
  unfolding is_lacking
  lacks room =
      let rs : List Route = own_routes job in
      let points : ℕ = points_before (counts_of rs) (length (numbers_of rs)) in
      let counted : ltb (length (counts_of rs)) (length (numbers_of rs)) ≡ false = le-ltb (length (counts_of rs)) (length (numbers_of rs)) (omega (arith, counts_length rs)) in
      let xs : ltb (length (xs_of rs)) points ≡ false = le-ltb (length (xs_of rs)) points (omega (arith, points_all (λ (q : Point). q.x) rs)) in
      let ys : ltb (length (ys_of rs)) points ≡ false = le-ltb (length (ys_of rs)) points (omega (arith, points_all (λ (q : Point). q.y) rs)) in
      rw (counted, xs, ys) (or_false (ltb room (length (file_for lent_out))))

  rows_are : (room : ℕ) → write_rows lent_out room ≡ row (ltb room (length (file_of (own_routes job)))) 21 0
  unfolding write_rows
  rows_are room = rw (own_clean, lacks room, file_is)

  module _ {before after : List ℕ} {w : Handed Records} (wrote : RoutesWritten lent_out before w after) where
    accepts : length (file_of (own_routes job)) ≤ length before → w ≡ answer (record { records = records (file_of (own_routes job)) })
    unfolding write_row
    accepts l = wrote.row_is ∙ rw (rows_are (length before), le-ltb (length before) (length (file_of (own_routes job))) l, file_is)

    refuses : length before < length (file_of (own_routes job)) → w.number ≡ 21
    unfolding write_row
    refuses l =
        ap (λ (h : Handed Records). h.number) wrote.row_is
        ∙ rw (rows_are (length before), lt-ltb (length before) (length (file_of (own_routes job))) l)

    -- the part that was written
    part_is : length (file_of (own_routes job)) ≤ length before → take (w.values.records * record_bytes) after ≡ file_of (own_routes job)
    part_is l =
        let file : List ℕ = file_of (own_routes job) in
        let rows : write_rows lent_out (length before) ≡ passes = rows_are (length before) ∙ rw (le-ltb (length before) (length file) l) in
        let all : after ≡ laid file before = wrote.after_is ∙ ap₂ (λ (v : Verdict) (f : List ℕ). file_after v f before) rows file_is in
        let many : w.values.records ≡ records file = ap (λ (h : Handed Records). h.values.records) (accepts l) in
        let whole = whole_file (own_routes job) in
        let size : length file ≡ w.values.records * record_bytes = omega (arith, many) in
        ap (λ (f : List ℕ). take (w.values.records * record_bytes) f) all
        ∙ take_at file (drop (length file) before) (w.values.records * record_bytes) size

    -- and the check accepts it
    own_approved : (lent : Slices) → Roomy job lent → check_row job (file_of (own_routes job)) lent ≡ answer (record { nets = nets job })
    own_approved lent room =
        let clean : file_rows (file_of (own_routes job)) ≡ passes = rw file_is at own_clean in
        (accepted_exactly job (file_of (own_routes job)) lent refl).right_accepted (record {
          job_passes = a.passed;
          file_passes = clean;
          roomy = room;
          right = rw (routes_again (own_routes job) clean) (own_file_right a);
        })

    pub own_pass : OwnPass job before after w
    own_pass = record {
      written = accepts;
      approved = λ z lent room.
          ⊎_elim
          (λ (l : length before < length (file_of (own_routes job))). absurd (omega (arith, refuses l)))
          (λ (l : length (file_of (own_routes job)) ≤ length before). rw (part_is l) (own_approved lent room))
          (order (length before) (length (file_of (own_routes job))));
    }
