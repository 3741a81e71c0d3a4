-- What the functions of this crate hand on: a net taken out of the job, a net judged, a net measured. Assumes nothing.
use Prim.Native.Nat.{ℕ, ◌+◌, ◌-◌, ◌≤◌, ◌<◌}
use mathlib.Core.Path.{◌≡◌, refl, sym, ap, ◌∙◌}
use mathlib.Core.Bool.{Bool, true, false, ◌&&◌}
use mathlib.Core.List.{List, [], ◌∷◌, ◌++◌}
use native.Mathlib.Omega.{arith}
use lib.Dec.{leb}
use lib.ListN.{length, drop, set}
use borrow.Author.Tests.{leb-true, lt-ltb, le-ltb}
use Rattle.laws.proofs.Tests.{and_left, and_right}
use Rattle.laws.proofs.Below.{indexed_below, indexed_does_pass}
use Rattle.board.specs.Limits.{largest_side}
use Rattle.board.specs.Board.{Board, board}
use Rattle.board.specs.Inner.{OnBoard}
use Rattle.std.specs.Prelude.{Option, Some, None, is_some, Result, Ok, Err}
use Rattle.board.specs.Handed.{passes, refused, verdict}
use Rattle.board.proofs.Rows.{side_le}
use Rattle.records.specs.Records.{records, in_order}
use Rattle.records.proofs.InOrder.{each_passes, one_more, first_refused}
use Rattle.kinds.specs.declared.Net as given
use Rattle.kinds.specs.Job.{is_net, Net, nets, net_record, width, height}
use Rattle.kinds.specs.Inner.{as_said, as_net}
use Rattle.faults.specs.Inner.{Accepted}
use Rattle.faults.proofs.Accepted.{width_fits, height_fits, start_on, goal_on}
use Rattle.netlist.specs.Inner.{net_in, net_said}
use Rattle.netlist.proofs.Nets.{said_net}
use Rattle.bits.specs.Packed.{entries}
use Rattle.bits.proofs.Entries.{entries_length, written_next}
use Rattle.tracks.specs.Tracks.{Point, Route, routes_in}
use Rattle.tracks.specs.Answers.{laid}
use Rattle.bureau.specs.declared.CheckRefusal.{CheckRefusal}
use Rattle.bureau.specs.declared.Fault.{Fault}
use Rattle.bureau.specs.declared.Points.{Points}
use Rattle.bureau.specs.Paths.{point_at, net_rows, path_rows, units_along}
use Rattle.bureau.specs.Nets.{job_board, job_net, points_for, net_numbers, odd_net, odd_row, net_row, nets_rows, net_units, net_legs, units_of, legs_of}
use Rattle.bureau.specs.Answers.{check_refusal_row, of_job, Searching, searching, after_net, after_nets}
use Rattle.bureau.specs.Inner.{place_before, record_points, PointsOf, Room, EndsOf, fault_row, OnJob, NetJudged, NetsJudged, NetsChecked, PointsSmall, AllRight, Measured}
use Rattle.bureau.proofs.Finding.{place_some, place_none}
use Rattle.bureau.proofs.Answering.{refuses, one_judged, no_more, net_refused, nets_right}
use Rattle.points.proofs.Same.{net_same, path_on}

-- ---- a net of the job

module _ {job : List ℕ} (a : Accepted job) (index : ℕ) (l : index < nets job) where
  net_there : net_in (net_said job index) ≡ Some (as_said (job_net job index))
  net_there = ap net_in (said_net a index l)

  pub there : {r : Option given.Net} → r ≡ net_in (net_said job index) → is_some r ≡ true
  there e = ap is_some (e ∙ net_there)

  pub wanted_is : {r : Option given.Net} {net : given.Net} → r ≡ net_in (net_said job index) → r ≡ Some net → as_net net ≡ job_net job index
  wanted_is {net = net} e f =
      let g : Some net ≡ Some (as_said (job_net job index)) = sym f ∙ e ∙ net_there in
      let h : net ≡ as_said (job_net job index) = cc in
      ap as_net h

  pub ends_on : EndsOf (job_board job) (job_net job index)
  ends_on =
      let b = indexed_below (is_net job) (records job) index l in
      let n = indexed_does_pass (is_net job) (records job) index l in
      record { start = on_board (start_on a (net_record job index) b n); goal = on_board (goal_on a (net_record job index) b n) }
    where
      on_board : {x y : ℕ} → (leb x (width job) && leb y (height job)) ≡ true → OnBoard (job_board job) x y
      on_board {x} {y} e = record {
        x_on = leb-true x (width job) (and_left (leb x (width job)) (leb y (height job)) e);
        y_on = leb-true y (height job) (and_right (leb x (width job)) (leb y (height job)) e);
      }

-- ---- a net is judged

-- where no points are given
pub as_none : {b : Board} {net : Net} {ps : List Point} {w w' : Searching} {r : Result (Unit {0}) Fault} → ps ≡ [] → NetJudged b net [] w w' r
    → NetJudged b net ps w w' r
as_none e J = rw e J

-- points are given: nothing is searched for
by_points : (b : Board) (net : Net) (ps : List Point) (w : Searching) (n : ℕ) (q : ℕ → Point) {r : Result (Unit {0}) Fault} → 0 < n → length ps ≡ n
    → ((k : ℕ) → k < n → point_at ps k ≡ q k) → verdict (fault_row net.number) r ≡ path_rows b net n q → NetJudged b net ps w w r
by_points b net [] w n q l e h f = absurd (omega arith)
by_points b net (p ∷ ps) w n q l e h f = record { row_is = f ∙ sym (net_same b net (p ∷ ps) n q l e h); work_is = refl }

pub points_judged : {b : Board} {net : Net} {file : List ℕ} {points : Points} {w : Searching} {r : Result (Unit {0}) Fault} → PointsOf file net.number points
    → verdict (fault_row net.number) r ≡ path_rows b net points.count (record_points file points.first)
    → NetJudged b net (points_for (routes_in file) net.number) w w r
points_judged P f = by_points _ _ _ _ _ _ P.some P.length_is P.point_is f

-- ---- net after net

module _ {job file cells : List ℕ} {wide high many : ℕ} (O : OnJob job file cells wide high many) where
  pub board_is : board cells wide high ≡ job_board job
  board_is = rw (O.cells_are, O.wide_is, O.high_is)

  pub ends_for : {net : given.Net} (index : ℕ) → as_net net ≡ job_net job index → index < nets job → EndsOf (board cells wide high) (as_net net)
  ends_for index is l = rw (board_is, is) (ends_on O.accepted index l)

  -- the net with an index is judged after those before it passed
  module _ (w₀ : Searching) (index : ℕ) {w w' : Searching} {net : given.Net} {r : Result (Unit {0}) Fault} (is : as_net net ≡ job_net job index)
      (e : w ≡ after_nets job (routes_in file) index w₀) (p : in_order index (net_row job (routes_in file)) ≡ passes)
      (J : NetJudged (board cells wide high) (as_net net) (points_for (routes_in file) net.number) w w' r) where
    judged_row : verdict (fault_row net.number) r ≡ net_row job (routes_in file) index
    judged_row =
        J.row_is ∙ ap (λ (b : Board). net_rows b (as_net net) (points_for (routes_in file) net.number)) board_is
        ∙ ap (λ (n : Net). net_rows (job_board job) n (points_for (routes_in file) n.number)) is

    pub judged_work : w' ≡ after_nets job (routes_in file) (index + 1) w₀
    judged_work =
        one_judged job (routes_in file) w₀ index p
        (J.work_is ∙ ap (λ (b : Board). after_net passes b (as_net net) (points_for (routes_in file) net.number) w) board_is
        ∙ ap (λ (n : Net). after_net passes (job_board job) n (points_for (routes_in file) n.number) w) is
        ∙ ap (λ (v : Searching). after_net passes (job_board job) (job_net job index) (points_for (routes_in file) (job_net job index).number) v) e)

    pub judged_next : passes ≡ verdict (fault_row net.number) r → in_order (index + 1) (net_row job (routes_in file)) ≡ passes
    judged_next h = one_more (net_row job (routes_in file)) index p (sym judged_row ∙ sym h)

    pub judged_stop : index < nets job → (why : CheckRefusal) → check_refusal_row why ≡ verdict (fault_row net.number) r → of_job why ≡ false
        → NetsJudged job (routes_in file) w₀ w' (Err why)
    unfolding nets_rows
    judged_stop l why h j =
        let (a, b, c, g) = refuses why in
        let q : net_row job (routes_in file) index ≡ refused a b c = sym judged_row ∙ sym h ∙ g in
        record {
          row_is = g ∙ sym (first_refused (net_row job (routes_in file)) index p q (nets job) l);
          job_is = j;
          work_is = judged_work ∙ sym (no_more job (routes_in file) w₀ index p q (nets job) l);
        }

-- slices as long as others have the same room
pub room_same : {b : Board} {g p m l g' p' m' l' : List ℕ} → Room b (searching g p m l) → length g' ≡ length g → length p' ≡ length p
    → length m' ≡ length m → length l' ≡ length l → Room b (searching g' p' m' l')
room_same R e f h k = record {
  sound = R.sound;
  g_room = omega (arith, R.g_room);
  parents_room = omega (arith, R.parents_room);
  marks_room = omega (arith, R.marks_room);
  legs_room = omega (arith, R.legs_room);
}

-- all have passed
pub judged_done : {job : List ℕ} {rs : List Route} {w₀ w : Searching} {k : ℕ} → w ≡ after_nets job rs k w₀ → in_order k (net_row job rs) ≡ passes
    → k ≡ nets job → NetsJudged job rs w₀ w (Ok tt)
unfolding nets_rows
judged_done e p s = record { row_is = sym (rw s at p); job_is = refl; work_is = rw s at e }

-- ---- the results, net after net

-- points that are right have coordinates of their board
rows_small : (b : Board) → b.width ≤ largest_side → b.height ≤ largest_side → (net : Net) (ps : List Point) → net_rows b net ps ≡ passes
    → PointsSmall (length ps) (point_at ps)
rows_small b w h net [] e = record { small = λ k l. absurd (omega arith) }
rows_small b w h net (p ∷ ps) e =
    let P = path_on b net (length (p ∷ ps)) (point_at (p ∷ ps)) e in
    record { small = λ k l. (omega (arith, (P.on k l).x_on), omega (arith, (P.on k l).y_on)) }

pub net_small : {job file : List ℕ} {many number : ℕ} (index : ℕ) → AllRight job file many → number ≡ (job_net job index).number → index < nets job
    → PointsSmall (length (points_for (routes_in file) number)) (point_at (points_for (routes_in file) number))
unfolding nets_rows
net_small {job} {file} index A f l =
    rw f
    (rows_small (job_board job) (side_le (width job) (width_fits A.accepted)) (side_le (height job) (height_fits A.accepted)) (job_net job index)
    (points_for (routes_in file) (job_net job index).number) (each_passes (net_row job (routes_in file)) (nets job) A.right index l))

pub result_next : (f : ℕ → ℕ) (n : ℕ) (before : List ℕ) {now after : List ℕ} {a : ℕ} → now ≡ entries n f ++ drop n before → after ≡ set now n a → a ≡ f n
    → n < length before → after ≡ entries (n + 1) f ++ drop (n + 1) before
result_next f n before e s g l = s ∙ written_next f n before e g l

pub result_done : (f : ℕ → ℕ) (before : List ℕ) {k n : ℕ} {now : List ℕ} → now ≡ entries k f ++ drop k before → k ≡ n → now ≡ laid (entries n f) before
result_done f before {k} {n} e s = rw (entries_length f n) (rw s at e)

-- of a net that was measured
module _ (job : List ℕ) (rs : List Route) (index : ℕ) (before : List ℕ) {now : List ℕ} {number : ℕ} where
  pub units_next : now ≡ entries index (net_units job rs) ++ drop index before → number ≡ (job_net job index).number → {leg_counts units' leg_counts' : List ℕ}
      → Measured (points_for rs number) index now leg_counts units' leg_counts' → index < length before → units' ≡ entries (index + 1) (net_units job rs) ++ drop (index + 1) before
  units_next e n M l =
      result_next (net_units job rs) index before e M.units_are
      (ap (λ (m : ℕ). units_along (length (points_for rs m)) (point_at (points_for rs m))) n) l

  pub counts_next : now ≡ entries index (net_legs job rs) ++ drop index before → number ≡ (job_net job index).number → {units units' leg_counts' : List ℕ}
      → Measured (points_for rs number) index units now units' leg_counts' → index < length before → leg_counts' ≡ entries (index + 1) (net_legs job rs) ++ drop (index + 1) before
  counts_next e n M l =
      result_next (net_legs job rs) index before e M.counts_are (ap (λ (m : ℕ). length (points_for rs m) - 1) n) l

-- ---- the whole

-- the net that was found, or that there is none
module _ (job : List ℕ) (rs : List Route) where
  pub odd_is : {net : ℕ} → Some net ≡ place_before (odd_net job rs) net_numbers → odd_row job rs ≡ refused 24 net 0
  odd_is e =
      let s = place_some (odd_net job rs) net_numbers e in rw (lt-ltb (odd_net job rs) net_numbers (omega (arith, s.0, s.1)), s.1) refl

  pub even_is : None ≡ place_before (odd_net job rs) net_numbers → odd_row job rs ≡ passes
  even_is e = rw (le-ltb (odd_net job rs) net_numbers (place_none (odd_net job rs) net_numbers e)) refl

module _ (job file : List ℕ) (units leg_counts : List ℕ) (even : odd_row job (routes_in file) ≡ passes) {w w' : Searching} where
  -- a net has a fault: it is answered
  pub nets_stopped : {why : CheckRefusal} → NetsJudged job (routes_in file) w w' (Err why) → NetsChecked job file w w' units units leg_counts leg_counts (Err why)
  nets_stopped {why} J = net_refused job file w units leg_counts even J.work_is why (sym J.row_is) J.job_is

  -- none has
  pub nets_done : NetsJudged job (routes_in file) w w' (Ok tt) → {many : ℕ} {units' leg_counts' : List ℕ} → many ≡ nets job
      → units' ≡ laid (units_of job (routes_in file)) units → leg_counts' ≡ laid (legs_of job (routes_in file)) leg_counts
      → NetsChecked job file w w' units units' leg_counts leg_counts' (Ok many)
  nets_done J e u l = rw e (nets_right job file w units leg_counts even J.work_is (sym J.row_is) u l)
