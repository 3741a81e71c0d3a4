-- The rows 24 to 28 pass exactly if the file is right, in plain words. Assumes nothing.
use Prim.Native.Nat.{ℕ, zero, suc, ◌+◌, ◌-◌, ◌≤◌, ◌<◌}
use mathlib.Core.Path.{◌≡◌, refl, sym, ap, ap₂, ◌∙◌}
use mathlib.Core.Logic.{◌≢◌, ◌⊎◌, inl, inr, ⊎_elim}
use mathlib.Core.Bool.{Bool, true, false, not, ◌&&◌, ◌||◌, true≢false}
use mathlib.Core.List.{List, [], ◌∷◌}
use native.Mathlib.Omega.{arith}
use lib.Dec.{ltb, eqb}
use lib.ListN.{length}
use borrow.Author.Tests.{not-false, eqb-true, eq-eqb, ne_eqb, le-ltb, ltb-false}
use Rattle.laws.specs.Below.{first_where}
use Rattle.laws.proofs.Tests.{bool_cases, and_left, and_right, and_both, or_neither, false_of}
use Rattle.laws.proofs.Below.{first_before, none_below}
use Rattle.board.specs.Board.{Board}
use Rattle.board.specs.Inner.{OnBoard}
use Rattle.board.specs.Handed.{passes, row}
use Rattle.board.proofs.Verdicts.{row_passes, both_pass}
use Rattle.records.specs.Records.{in_order}
use Rattle.records.proofs.InOrder.{each_passes}
use Rattle.legs.specs.Sight.{sees}
use Rattle.legs.specs.Pinched.{pinched}
use Rattle.theta.specs.Search.{search}
use Rattle.problem.proofs.Theorems.{board_complete}
use Rattle.kinds.specs.Job.{Net, nets}
use Rattle.tracks.specs.Tracks.{Point, Route}
use Rattle.bureau.specs.Paths.{point, point_at, is_same, is_end_wrong, is_off, off_place, is_leg_wrong, leg_place, start_of, goal_of, place_row, path_rows}
use Rattle.bureau.specs.Paths.{problem_of, none_row, net_rows}
use Rattle.bureau.specs.Nets.{job_board, job_net, points_for, in_job, in_routes, is_odd, net_numbers, odd_net, odd_row, net_row, nets_rows}
use Rattle.rightness.specs.Right.{PathRight, NoneRight, FileRight}
use Rattle.bureau.proofs.Answering.{row_none}

-- ---- points

same_points : (p q : Point) → is_same p q ≡ true → p ≡ q
same_points p q e =
    ap₂ point (eqb-true p.x q.x (and_left (eqb p.x q.x) (eqb p.y q.y) e))
    (eqb-true p.y q.y (and_right (eqb p.x q.x) (eqb p.y q.y) e))

points_same : (p q : Point) → p ≡ q → is_same p q ≡ true
points_same p q e =
    and_both (eq-eqb p.x q.x (ap (λ (r : Point). r.x) e)) (eq-eqb p.y q.y (ap (λ (r : Point). r.y) e))

row_of_lem : (place end number net : ℕ) → end ≤ place → place_row place end number net ≡ passes
row_of_lem place end number net l = rw (le-ltb place end l)

-- ---- a path

module _ (b : Board) (net : Net) (ps : List Point) where
  abbrev wrong_at : ℕ → Bool
  wrong_at k = is_leg_wrong b (point_at ps k) (point_at ps (k + 1)) (eqb (k + 2) (length ps))

  pub path_right : 0 < length ps → path_rows b net (length ps) (point_at ps) ≡ passes → PathRight b net ps
  unfolding path_rows is_end_wrong off_place leg_place is_leg_wrong
  path_right l e =
      let n : ℕ = length ps in
      let (by-25, after-25) = both_pass (row (is_end_wrong (start_of net) (goal_of net) n (point_at ps)) 25 net.number) _ e in
      let (by-26, by-27) = both_pass (place_row (off_place b n (point_at ps)) n 26 net.number) _ after-25 in
      let (begins, ends) = or_neither (not (is_same (point_at ps 0) (start_of net))) _
      (row_passes (is_end_wrong (start_of net) (goal_of net) n (point_at ps)) 25 net.number by-25) in
      let off = row_none (off_place b n (point_at ps)) n 26 net.number by-26 in
      let leg = row_none (leg_place b n (point_at ps)) (n - 1) 27 net.number by-27 in
      let fine : (k : ℕ) → k + 1 < n → wrong_at k ≡ false = λ k h. first_before wrong_at (n - 1) k (omega arith) in
      record {
        some = l;
        first = same_points (point_at ps 0) (start_of net) (not-false _ begins);
        last = same_points (point_at ps (n - 1)) (goal_of net) (not-false _ ends);
        on = λ k h. not-false _ (first_before (λ (i : ℕ). is_off b (point_at ps i)) n k (omega arith));
        differ = λ k h s. true≢false (sym (points_same (point_at ps k) (point_at ps (k + 1)) s) ∙ (or_neither (is_same (point_at ps k) (point_at ps (k + 1))) _ (fine k h)).0);
        sight = λ k h.
            let rest = (or_neither (is_same (point_at ps k) (point_at ps (k + 1))) _ (fine k (omega arith))).1 in
            not-false _ (or_neither (not (sees b (point_at ps k).x (point_at ps k).y (point_at ps (k + 1)).x (point_at ps (k + 1)).y)) _ rest).0;
        unpinched = λ k h.
            let rest = (or_neither (is_same (point_at ps k) (point_at ps (k + 1))) _ (fine k (omega arith))).1 in
            let squeezed = (or_neither (not (sees b (point_at ps k).x (point_at ps k).y (point_at ps (k + 1)).x (point_at ps (k + 1)).y)) _ rest).1 in
            let between : eqb (k + 2) n ≡ false = ne_eqb (k + 2) n (λ (s : k + 2 ≡ n). omega arith) in
            unsqueezed (pinched b (point_at ps (k + 1)).x (point_at ps (k + 1)).y) (rw between at squeezed);
      }
    where
      unsqueezed : (t : Bool) → (t && true) ≡ false → t ≡ false
      unsqueezed true h = h
      unsqueezed false h = h

  pub right_path : PathRight b net ps → path_rows b net (length ps) (point_at ps) ≡ passes
  unfolding path_rows is_end_wrong off_place leg_place is_leg_wrong
  right_path r =
      let n : ℕ = length ps in
      let begins = points_same (point_at ps 0) (start_of net) r.first in
      let ends = points_same (point_at ps (n - 1)) (goal_of net) r.last in
      let off : first_where n (λ (k : ℕ). is_off b (point_at ps k)) ≡ n =
      none_below (λ (k : ℕ). is_off b (point_at ps k)) n (λ k h. rw (r.on k h)) in
      let leg : first_where (n - 1) wrong_at ≡ n - 1 = none_below wrong_at (n - 1) (λ k h. fine k (omega arith)) in
      rw (begins, ends, off, leg, le-ltb n n (omega arith), le-ltb (n - 1) (n - 1) (omega arith))
    where
      fine : (k : ℕ) → k + 1 < length ps → wrong_at k ≡ false
      fine k h =
          let apart : is_same (point_at ps k) (point_at ps (k + 1)) ≡ false =
          false_of _ (λ s. r.differ k h (same_points (point_at ps k) (point_at ps (k + 1)) s)) in
          -- every leg of a right path has sight, the last too
          let seen : sees b (point_at ps k).x (point_at ps k).y (point_at ps (k + 1)).x (point_at ps (k + 1)).y ≡ true = r.sight k (omega arith) in
          ⊎_elim
          (λ (last : eqb (k + 2) (length ps) ≡ true). rw (apart, seen, last) (never (pinched b (point_at ps (k + 1)).x (point_at ps (k + 1)).y)))
          (λ (last : eqb (k + 2) (length ps) ≡ false).
          let more = eqb_apart (k + 2) (length ps) last in
          rw (apart, seen, r.unpinched k (omega arith)))
          (bool_cases (eqb (k + 2) (length ps)))
        where
          never : (t : Bool) → (t && false) ≡ false
          never true = refl
          never false = refl

          eqb_apart : (m n : ℕ) → eqb m n ≡ false → m ≢ n
          eqb_apart m n e s = true≢false (sym (eq-eqb m n s) ∙ e)

  -- ---- no path

  module _ (S : OnBoard b net.sx net.sy) where
    pub none_right : none_row b net ≡ passes → ps ≡ [] → NoneRight b net ps
    unfolding none_row
    none_right e z =
        let lost = row_passes (search (problem_of b net)).found 28 net.number e in
        record {
          none = z;
          apart = λ joined. true≢false (sym ((board_complete b net.sx net.sy net.gx net.gy S).reach_found joined) ∙ lost);
        }

    pub right_none : NoneRight b net ps → none_row b net ≡ passes
    unfolding none_row
    right_none r =
        let lost : (search (problem_of b net)).found ≡ false =
        false_of _ (λ found. r.apart ((board_complete b net.sx net.sy net.gx net.gy S).found_reach found)) in
        rw lost

-- ---- a net

module _ (b : Board) (net : Net) (S : OnBoard b net.sx net.sy) where
  pub net_right : (ps : List Point) → net_rows b net ps ≡ passes → PathRight b net ps ⊎ NoneRight b net ps
  net_right [] e = inr (none_right b net [] S e refl)
  net_right (p ∷ ps) e = inl (path_right b net (p ∷ ps) (omega arith) e)

  pub right_net : (ps : List Point) → PathRight b net ps ⊎ NoneRight b net ps → net_rows b net ps ≡ passes
  right_net [] (inl r) = absurd (omega (arith, r.some))
  right_net [] (inr r) = right_none b net [] S r
  right_net (p ∷ ps) (inl r) = right_path b net (p ∷ ps) r
  right_net (p ∷ ps) (inr r) = let z : ◌≡◌ {A = ℕ} 1 0 = cc r.none in absurd (omega arith)

-- ---- a file

module _ (job : List ℕ) (rs : List Route) (S : (k : ℕ) → k < nets job → OnBoard (job_board job) (job_net job k).sx (job_net job k).sy) where
  pub file_right : odd_row job rs ≡ passes → nets_rows job rs ≡ passes → FileRight job rs
  unfolding odd_net nets_rows
  file_right e f = record {
    same = λ number l.
        let none = ltb-false (odd_net job rs) net_numbers (row_passes (ltb (odd_net job rs) net_numbers) 24 (odd_net job rs) e) in
        alike (in_job job number) (in_routes rs number) (first_before (is_odd job rs) net_numbers number (omega arith));
    each = λ k l. net_right (job_board job) (job_net job k) (S k l) (points_for rs (job_net job k).number) (each_passes (net_row job rs) (nets job) f k l);
  }
    where
      alike : (a b : Bool) → ((a && not b) || (not a && b)) ≡ false → a ≡ b
      alike true true e = refl
      alike true false e = e
      alike false true e = sym e
      alike false false e = refl

  all_pass : (n : ℕ) → n ≤ nets job → ((k : ℕ) → k < nets job → net_row job rs k ≡ passes) → in_order n (net_row job rs) ≡ passes
  unfolding in_order
  all_pass zero l h = refl
  all_pass (suc n) l h = rw (all_pass n (omega arith) h, h n (omega arith))

  pub right_file : FileRight job rs → (odd_row job rs ≡ passes) × (nets_rows job rs ≡ passes)
  unfolding odd_net nets_rows
  right_file r =
      let none : first_where net_numbers (is_odd job rs) ≡ net_numbers =
      none_below (is_odd job rs) net_numbers (λ k l.
      -- a right file has the net if the job has it, and only then
      let same : in_job job k ≡ in_routes rs k = r.same k (omega arith) in
      rw same (never (in_routes rs k))) in
      (rw none, all_pass (nets job) (omega arith) (λ k l. right_net (job_board job) (job_net job k) (S k l) (points_for rs (job_net job k).number) (r.each k l)))
    where
      never : (b : Bool) → ((b && not b) || (not b && b)) ≡ false
      never true = refl
      never false = refl
