-- What the check hands back keeps what specs/Demands.antt promises of it. Assumes nothing.
use Prim.Native.Nat.{ℕ, zero, suc, ◌*◌, ◌<◌}
use mathlib.Core.Path.{◌≡◌, refl, sym, ap, ◌∙◌}
use mathlib.Core.Logic.{◌⊎◌, inl, inr, ⊎_elim}
use mathlib.Core.Bool.{Bool, true, false, not, true≢false}
use mathlib.Core.List.{List, [], ◌∷◌}
use native.Mathlib.Omega.{arith}
use lib.Dec.{ltb, eqb}
use lib.ListN.{length}
use borrow.Author.Tests.{le-ltb, ltb-false, ltb-true, ne_eqb}
use Rattle.laws.proofs.Tests.{or_neither}
use Rattle.board.specs.Board.{Board, vertices}
use Rattle.board.specs.Handed.{Verdict, passes, refused, row, and_then, Handed, answer, unless}
use Rattle.board.proofs.Verdicts.{no_pass, row_passes, both_pass, Within, row_within, then_within}
use Rattle.records.specs.Records.{in_order}
use Rattle.refusals.proofs.Refusing.{Numbered}
use Rattle.theta.specs.Search.{search}
use Rattle.problem.proofs.Theorems.{board_complete}
use Rattle.kinds.specs.Job.{Net, nets, width, height}
use Rattle.faults.specs.Faults.{job_rows}
use Rattle.faults.specs.Inner.{Accepted}
use Rattle.tracks.specs.Tracks.{Point, Route, routes_in}
use Rattle.tracks.specs.Faults.{file_rows}
use Rattle.std.specs.Prelude.{Result}
use Rattle.bureau.specs.declared.CheckRefusal.{CheckRefusal}
use Rattle.bureau.specs.Paths.{point_at, problem_of, none_row, net_rows}
use Rattle.bureau.specs.Nets.{job_board, job_net, points_for, odd_net, net_numbers, odd_row, net_row, nets_rows}
use Rattle.bureau.specs.Answers.{Nets, no_nets, handed_check, Slices, work_row, room_rows, early_rows, check_rows, check_row, Checked}
use Rattle.rightness.specs.Right.{PathRight, NoneRight}
use Rattle.rightness.specs.Demands.{Roomy, NothingWrong, AcceptedExactly, ClaimsNone, NetHasPath, RefusedBy28, NoneExactly}
use Rattle.rightness.proofs.Rightness.{file_right, right_file}
use Rattle.rightness.proofs.Own.{net_starts, number_tells}
use Rattle.rightness.proofs.Numbers.{early_within, path_within, nets_within}

-- ---- room

module _ (job : List ℕ) (lent : Slices) where
  abbrev size : ℕ
  size = vertices (job_board job)

  pub room_passes : Roomy job lent → room_rows job lent ≡ passes
  unfolding room_rows work_row
  room_passes r =
      rw (
        le-ltb (length lent.board) (width job * height job) r.board,
        le-ltb (length lent.work.g) size r.g,
        le-ltb (length lent.work.parents) size r.parents,
        le-ltb (length lent.work.marks) size r.marks,
        le-ltb (length lent.work.legs) size r.legs,
        le-ltb (length lent.units) (nets job) r.units,
        le-ltb (length lent.leg_counts) (nets job) r.leg_counts,
      )

  passes_room : room_rows job lent ≡ passes → Roomy job lent
  unfolding room_rows work_row
  passes_room e =
      let w = lent.work in
      let by-19 = both_pass (row (ltb (length lent.board) (width job * height job)) 19 0) _ e in
      let by-6 = both_pass (work_row size w) _ by-19.1 in
      let g = or_neither (ltb (length w.g) size) _ (row_passes _ 6 0 by-6.0) in
      let parents = or_neither (ltb (length w.parents) size) _ g.1 in
      let marks = or_neither (ltb (length w.marks) size) _ parents.1 in
      let units = or_neither (ltb (length lent.units) (nets job)) _ (row_passes _ 21 0 by-6.1) in
      record {
        board = ltb-false (length lent.board) (width job * height job) (row_passes (ltb (length lent.board) (width job * height job)) 19 0 by-19.0);
        g = ltb-false (length w.g) size g.0;
        parents = ltb-false (length w.parents) size parents.0;
        marks = ltb-false (length w.marks) size marks.0;
        legs = ltb-false (length w.legs) size marks.1;
        units = ltb-false (length lent.units) (nets job) units.0;
        leg_counts = ltb-false (length lent.leg_counts) (nets job) units.1;
      }

-- ---- rows and what is handed back

-- rows with numbers that hand back 0 pass
done : (v : Verdict) (rest : Handed Nets) → Numbered v → (unless no_nets v rest).number ≡ 0 → v ≡ passes
done passes rest m e = refl
done (refused n p s) rest m e = absurd (omega (arith, ltb-true 0 n m))

-- rows that hand back 28 refuse with it
refused_28 : (v : Verdict) (values : Nets) → (unless no_nets v (answer values)).number ≡ 28
    → v ≡ refused 28 (unless no_nets v (answer values)).place (unless no_nets v (answer values)).second
refused_28 passes values e = absurd (omega arith)
refused_28 (refused n p s) values e = ap (λ (m : ℕ). refused m p s) e

-- every number but 28
abbrev other : ℕ → Bool
other n = not (eqb n 28)

-- the first of two groups of rows decides, or the second after the first has passed
first_or_second : (v w : Verdict) {p s : ℕ} → and_then v w ≡ refused 28 p s → (v ≡ refused 28 p s) ⊎ ((v ≡ passes) × (w ≡ refused 28 p s))
first_or_second passes w e = inr (refl, e)
first_or_second (refused n p s) w e = inl e

never_28 : {v : Verdict} {p s : ℕ} → Within other v → v ≡ refused 28 p s → ⊥
never_28 {v} {p} {s} m e = true≢false (sym (rw e at m))

-- rows that never give 28, and rows after them
then_28 : (v w : Verdict) {p s : ℕ} → Within other v → and_then v w ≡ refused 28 p s → (v ≡ passes) × (w ≡ refused 28 p s)
then_28 v w m e = ⊎_elim (λ f. absurd (never_28 m f)) (λ f. f) (first_or_second v w e)

-- rows in order that give 28 do so at one of them
order_28 : (rows : ℕ → Verdict) (n : ℕ) {p s : ℕ} → in_order n rows ≡ refused 28 p s → (k : ℕ) × (k < n) × (rows k ≡ refused 28 p s)
unfolding in_order
order_28 rows zero e = absurd (no_pass (sym e))
order_28 rows (suc n) {p} {s} e =
    ⊎_elim
    (λ (f : in_order n rows ≡ refused 28 p s). let (k, l, g) = order_28 rows n f in (k, omega arith, g))
    (λ (f : (in_order n rows ≡ passes) × (rows n ≡ refused 28 p s)). (n, omega arith, f.1))
    (first_or_second (in_order n rows) (rows n) e)

-- a net that 28 refuses claims no path, and its search finds one
net_28 : (b : Board) (net : Net) (ps : List Point) {p s : ℕ} → net_rows b net ps ≡ refused 28 p s
    → (ps ≡ []) × ((search (problem_of b net)).found ≡ true) × (p ≡ net.number)
unfolding none_row
net_28 b net [] {p} {s} e = go (search (problem_of b net)).found e
  where
    go : (t : Bool) → row t 28 net.number ≡ refused 28 p s → (◌≡◌ {A = List Point} [] []) × (t ≡ true) × (p ≡ net.number)
    go true f = let z : p ≡ net.number = cc in (refl, refl, z)
    go false f = absurd (no_pass (sym f))
net_28 b net (q ∷ ps) e = absurd (never_28 (path_within other refl refl refl b net (length (q ∷ ps)) (point_at (q ∷ ps))) e)

-- ---- the promises

module _ (job file : List ℕ) (lent : Slices) where
  abbrev rs : List Route
  rs = routes_in file

  numbered : Numbered (check_rows job file lent)
  unfolding check_rows
  numbered =
      then_within (ltb 0) (early_rows job file lent) _ (early_within (ltb 0) (λ n a b. a) job file lent)
      (then_within (ltb 0) (odd_row job rs) (nets_rows job rs) (row_within (ltb 0) (ltb (odd_net job rs) net_numbers) 24 (odd_net job rs) refl)
      (nets_within (ltb 0) refl refl refl refl job rs))

  -- what passes, row by row
  passes_right : check_rows job file lent ≡ passes → NothingWrong job file lent
  unfolding check_rows early_rows
  passes_right e =
      let (early, by-nets) = both_pass (early_rows job file lent) _ e in
      let (by-job, after-job) = both_pass (job_rows job) _ early in
      let (by-file, by-room) = both_pass (file_rows file) (room_rows job lent) after-job in
      let (by-24, by-net) = both_pass (odd_row job rs) (nets_rows job rs) by-nets in
      record {
        job_passes = by-job;
        file_passes = by-file;
        roomy = passes_room job lent by-room;
        right = file_right job rs (net_starts (record { passed = by-job })) by-24 by-net;
      }

  right_passes : NothingWrong job file lent → check_rows job file lent ≡ passes
  unfolding check_rows early_rows
  right_passes w =
      let r = right_file job rs (net_starts (record { passed = w.job_passes })) w.right in
      rw (w.job_passes, w.file_passes, room_passes job lent w.roomy, r.0, r.1)

  module _ {h : Handed Nets} (is : h ≡ check_row job file lent) where
    -- accepted exactly if every net is right
    pub accepted_exactly : AcceptedExactly job file lent h
    unfolding check_row
    accepted_exactly = record {
      accepted_right = λ z. passes_right (done (check_rows job file lent) _ numbered (sym (ap (λ (g : Handed Nets). g.number) is) ∙ z));
      right_accepted = λ w. is ∙ rw (right_passes w);
    }

    -- 28, by the rows
    by_28 : h.number ≡ 28 → check_rows job file lent ≡ refused 28 h.place h.second
    unfolding check_row
    by_28 z =
        let e = refused_28 (check_rows job file lent) _ (sym (ap (λ (g : Handed Nets). g.number) is) ∙ z) in
        rw is e

    -- it is a net's, and no row refuses the job
    net_by_28 : h.number ≡ 28
        → Accepted job × ((k : ℕ) × (k < nets job) × (net_row job rs k ≡ refused 28 h.place h.second))
    unfolding check_rows early_rows nets_rows
    net_by_28 z =
        let (early, e) = then_28 (early_rows job file lent) _ (early_within other below_24 job file lent) (by_28 z) in
        let (odd, f) = then_28 (odd_row job rs) (nets_rows job rs) (row_within other (ltb (odd_net job rs) net_numbers) 24 (odd_net job rs) refl) e in
        (record { passed = (both_pass (job_rows job) _ early).0 }, order_28 (net_row job rs) (nets job) f)
      where
        below_24 : (n : ℕ) → ltb 0 n ≡ true → ltb n 24 ≡ true → other n ≡ true
        below_24 n a b = rw (ne_eqb n 28 (λ (s : n ≡ 28). omega (arith, ltb-true n 24 b)))

    named : h.number ≡ 28 → Accepted job
        × ((k : ℕ) × (k < nets job) × RefusedBy28 job h k × ClaimsNone job file k × NetHasPath job k)
    named z =
        let (clean, which) = net_by_28 z in
        let (k, l, e) = which in
        let net : Net = job_net job k in
        let (none, found, place) = net_28 (job_board job) net (points_for rs net.number) e in
        let joined = (board_complete (job_board job) net.sx net.sy net.gx net.gy (net_starts clean k l)).found_reach found in
        (clean, (k, l, (z, place), none, joined))

    -- "no path" is accepted exactly if none exists
    pub none_exactly : NoneExactly job file h
    none_exactly = record {
      accepted = λ z k l c path.
          ⊎_elim
          (λ (r : PathRight (job_board job) (job_net job k) (points_for rs (job_net job k).number)). omega (arith, r.some, ap length c))
          (λ (r : NoneRight (job_board job) (job_net job k) (points_for rs (job_net job k).number)). r.apart path)
          ((accepted_exactly.accepted_right z).right.each k l);
      refused = λ z. (named z).1;
      never = λ k l no by.
          let (clean, which) = named by.0 in
          let (i, m, at, none, path) = which in
          let same : i ≡ k = number_tells clean i k m l (sym at.1 ∙ by.1) in
          no (rw same at path);
    }

-- of the call
pub call_accepted_exactly : {job file : List ℕ} {before after : Slices} {r : Result ℕ CheckRefusal} → Checked job file before after r
    → AcceptedExactly job file before (handed_check r)
call_accepted_exactly {job} {file} {before} c = accepted_exactly job file before c.row_is

pub call_none_exactly : {job file : List ℕ} {before after : Slices} {r : Result ℕ CheckRefusal} → Checked job file before after r
    → NoneExactly job file (handed_check r)
call_none_exactly {job} {file} {before} c = none_exactly job file before c.row_is
