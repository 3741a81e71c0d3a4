-- What the check hands back and leaves, step by step. Assumes nothing.
use Prim.Native.Nat.{ℕ, zero, suc, ◌+◌, ◌≤◌, ◌<◌}
use mathlib.Core.Path.{◌≡◌, refl, sym, ap, ◌∙◌}
use mathlib.Core.Logic.{⊎_elim}
use mathlib.Core.Bool.{Bool, true, false, cond}
use mathlib.Core.List.{List}
use native.Mathlib.Omega.{arith}
use native.Mathlib.Numerals.{add-one}
use lib.Dec.{ltb}
use borrow.Author.Tests.{ltb-false}
use Rattle.laws.proofs.Tests.{order}
use Rattle.std.specs.Prelude.{Result, Ok, Err}
use Rattle.board.specs.Handed.{Verdict, passes, refused, and_then}
use Rattle.board.proofs.Verdicts.{no_pass}
use Rattle.records.specs.Records.{in_order}
use Rattle.records.proofs.InOrder.{first_refused}
use Rattle.refusals.specs.declared.JobRefusal.{JobRefusal}
use Rattle.refusals.specs.Refusals as job-refusals
use Rattle.refusals.proofs.Refusing.{listed}
use Rattle.kinds.specs.Job.{nets, board_cells}
use Rattle.faults.specs.Faults.{job_rows}
use Rattle.tracks.specs.declared.RouteRefusal.{RouteRefusal}
use Rattle.tracks.specs.declared.RouteRefusal.TheVariants as route-refusal
use Rattle.tracks.specs.Tracks.{Route, routes_in}
use Rattle.tracks.specs.Faults as route-faults
use Rattle.tracks.specs.Answers.{laid}
use Rattle.bureau.specs.declared.CheckRefusal.{CheckRefusal}
use Rattle.bureau.specs.declared.CheckRefusal.TheVariants as said
use Rattle.bureau.specs.Paths.{place_row}
use Rattle.bureau.specs.Nets.{job_board, job_net, points_for, odd_row, net_row, nets_rows, units_of, legs_of}
use Rattle.bureau.specs.Answers.{check_refusal_row, of_job, is_refused, Searching, Slices, room_rows, early_rows, check_rows}
use Rattle.bureau.specs.Answers.{check_row, after_net, after_nets, slices_after, Checked}
use Rattle.bureau.specs.Inner.{NetsChecked}

-- ---- a row that names a place, where there is none

pub row_none : (place end number net : ℕ) → place_row place end number net ≡ passes → end ≤ place
row_none place end number net e = ltb-false place end (none (ltb place end) e)
  where
    none : (t : Bool) → (cond t (refused number net place) passes) ≡ passes → t ≡ false
    none true e = absurd (no_pass e)
    none false e = refl

-- ---- a refusal refuses, whatever comes after it

pub refuses : (why : CheckRefusal) → (n : ℕ) × (p : ℕ) × (s : ℕ) × (check_refusal_row why ≡ refused n p s)
refuses (said.Job why) = let k = listed why in (k.number, k.place, k.second, k.row_is)
refuses (said.Routes route-refusal.Uneven) = (11, 0, 0, refl)
refuses (said.Routes (route-refusal.Unknown i)) = (13, i, 0, refl)
refuses (said.Routes (route-refusal.Unused i k)) = (23, i, k, refl)
refuses (said.Routes (route-refusal.Order i)) = (22, i, 0, refl)
refuses said.Board = (19, 0, 0, refl)
refuses said.Work = (6, 0, 0, refl)
refuses said.Results = (21, 0, 0, refl)
refuses (said.Odd net) = (24, net, 0, refl)
refuses (said.End net) = (25, net, 0, refl)
refuses (said.Off net place) = (26, net, place, refl)
refuses (said.Leg net place) = (27, net, place, refl)
refuses (said.Path net) = (28, net, 0, refl)

stays : (why : CheckRefusal) (more : Verdict) → and_then (check_refusal_row why) more ≡ check_refusal_row why
stays why more = let (n, p, s, r) = refuses why in rw r

is_refusal : (why : CheckRefusal) → is_refused (check_refusal_row why) ≡ true
is_refusal why = let (n, p, s, r) = refuses why in rw r

-- ---- refused before anything is written

module _ (job file : List ℕ) (before : Slices) where
  -- rows that refuse early leave all slices as they were
  kept : (why : CheckRefusal) → early_rows job file before ≡ check_refusal_row why → of_job why ≡ is_refused (job_rows job)
      → Checked job file before before (Err why)
  unfolding check_row check_rows slices_after
  kept why e j =
      let (n, p, s, r) = refuses why in
      let f : early_rows job file before ≡ refused n p s = e ∙ r in
      record { row_is = rw (r, f); job_is = j; after_is = rw f }

  pub job_refused : (why : JobRefusal) → job_rows job ≡ job-refusals.refusal_row why → Checked job file before before (Err (said.Job why))
  unfolding early_rows
  job_refused why e = kept (said.Job why) (rw e (stays (said.Job why) _)) (rw e (sym (is_refusal (said.Job why))))

  module _ (accepted : job_rows job ≡ passes) where
    pub file_refused : (why : RouteRefusal) → route-faults.file_rows file ≡ route-faults.refusal_row why
        → Checked job file before before (Err (said.Routes why))
    unfolding early_rows
    file_refused why e = kept (said.Routes why) (rw (accepted, e) (stays (said.Routes why) _)) (rw accepted)

    module _ (clean : route-faults.file_rows file ≡ passes) where
      -- a lent slice is too short
      pub room_refused : (why : CheckRefusal) → room_rows job before ≡ check_refusal_row why → of_job why ≡ false
          → Checked job file before before (Err why)
      unfolding early_rows
      room_refused why e j = kept why (rw (accepted, clean, e)) (j ∙ rw accepted)

      -- all of that passes: the cells are written, and the nets decide
      pub nets_checked : room_rows job before ≡ passes → {r : Result ℕ CheckRefusal} {w : Searching} {units leg_counts : List ℕ}
          → NetsChecked job file before.work w before.units units before.leg_counts leg_counts r
          → Checked job file before (record { board = laid (board_cells job) before.board; work = w; units = units; leg_counts = leg_counts }) r
      unfolding early_rows check_row check_rows slices_after
      nets_checked room c =
          let e : early_rows job file before ≡ passes = rw (accepted, clean, room) in
          record {
            row_is = c.row_is ∙ rw e;
            job_is = c.job_is ∙ rw accepted;
            after_is = rw (e, c.work_is, c.units_is, c.counts_is);
          }

-- ---- the nets

module _ (job file : List ℕ) (w : Searching) (units leg_counts : List ℕ) where
  -- 24 writes nothing
  pub odd_refused : {n : ℕ} → odd_row job (routes_in file) ≡ refused 24 n 0 → NetsChecked job file w w units units leg_counts leg_counts (Err (said.Odd n))
  odd_refused e = record { row_is = rw e; job_is = refl; work_is = rw e; units_is = rw e; counts_is = rw e }

  module _ (even : odd_row job (routes_in file) ≡ passes) {w' : Searching} (work : w' ≡ after_nets job (routes_in file) (nets job) w) where
    -- a net is refused: the results are kept
    pub net_refused : (why : CheckRefusal) → nets_rows job (routes_in file) ≡ check_refusal_row why → of_job why ≡ false
        → NetsChecked job file w w' units units leg_counts leg_counts (Err why)
    net_refused why e j =
        let (n, p, s, r) = refuses why in
        let f : nets_rows job (routes_in file) ≡ refused n p s = e ∙ r in
        record { row_is = rw (r, even, f); job_is = j; work_is = work ∙ rw even; units_is = rw (even, f); counts_is = rw (even, f) }

    -- all are right: the results are written
    pub nets_right : nets_rows job (routes_in file) ≡ passes → {units' leg_counts' : List ℕ} → units' ≡ laid (units_of job (routes_in file)) units
        → leg_counts' ≡ laid (legs_of job (routes_in file)) leg_counts → NetsChecked job file w w' units units' leg_counts leg_counts' (Ok (nets job))
    nets_right e u l = record {
      row_is = rw (even, e);
      job_is = refl;
      work_is = work ∙ rw even;
      units_is = u ∙ rw (even, e);
      counts_is = l ∙ rw (even, e);
    }

-- ---- net by net

module _ (job : List ℕ) (rs : List Route) (w : Searching) where
  pub none_judged : after_nets job rs 0 w ≡ w
  unfolding after_nets
  none_judged = refl

  -- one more net is judged after those that passed
  pub one_judged : (k : ℕ) {v : Searching} → in_order k (net_row job rs) ≡ passes
      → v ≡ after_net passes (job_board job) (job_net job k) (points_for rs (job_net job k).number) (after_nets job rs k w) → v ≡ after_nets job rs (k + 1) w
  unfolding after_nets
  one_judged k e h = h ∙ rw (add-one k, e)

  -- after one that is refused no more is done
  pub no_more : (k : ℕ) {a b c : ℕ} → in_order k (net_row job rs) ≡ passes → net_row job rs k ≡ refused a b c → (n : ℕ) → k < n
      → after_nets job rs n w ≡ after_nets job rs (k + 1) w
  unfolding after_nets
  no_more k e f zero l = absurd (omega arith)
  no_more k e f (suc n) l =
      ⊎_elim
      (λ (b : k < n). rw (first_refused (net_row job rs) k e f n b) (no_more k e f n b))
      (λ (b : n ≤ k). let s : suc n ≡ k + 1 = omega arith in ap (λ (m : ℕ). after_nets job rs m w) s)
      (order k n)
