-- Each return of the call, from what the job's last record says: a slice that is too short, and the nets on the job's cells. Assumes nothing.
use Prim.Native.Nat.{ℕ, ◌+◌, ◌*◌, ◌≤◌}
use mathlib.Core.Path.{◌≡◌, sym, ◌∙◌}
use mathlib.Core.Bool.{false}
use mathlib.Core.List.{List, ◌++◌}
use native.Mathlib.Omega.{arith}
use lib.Dec.{ltb}
use lib.ListN.{length, take, drop, take-append-drop}
use lib.Seq.{take_at, drop_at}
use borrow.Author.Tests.{ltb-false, ne_eqb}
use Rattle.laws.proofs.Tests.{or_neither}
use Rattle.board.specs.Limits.{largest_side}
use Rattle.board.specs.Board.{board}
use Rattle.std.specs.Prelude.{Result, Err}
use Rattle.board.specs.Handed.{passes, row}
use Rattle.board.proofs.Verdicts.{both_pass, row_passes}
use Rattle.board.proofs.Rows.{side_le}
use Rattle.records.specs.Records.{records}
use Rattle.steps.specs.declared.Progress.{Progress}
use Rattle.kinds.specs.Job.{nets, width, height, board_cells}
use Rattle.faults.specs.Inner.{progress}
use Rattle.faults.proofs.Accepted.{some_record, width_fits, height_fits}
use Rattle.job.proofs.Above.{BoardGiven, given_sound}
use Rattle.painting.proofs.Grid.{cells_length}
use Rattle.tracks.specs.Answers.{laid}
use Rattle.bureau.specs.declared.CheckRefusal.{CheckRefusal}
use Rattle.approve.specs.Inner.{BothPassed}
use Rattle.bureau.specs.Answers.{Searching, Slices, is_work_short, work_row, is_result_short, room_rows, Checked}
use Rattle.bureau.specs.Inner.{Room, OnJob, NetsChecked}
use Rattle.bureau.proofs.Answering.{room_refused, nets_checked}
use Rattle.lending.specs.declared.Lengths.{Lengths}
use Rattle.lending.specs.declared.Short.{Short}
use Rattle.lending.specs.Short.{short_row, refusal_of, lent_rows}
use Rattle.lending.proofs.Refused.{short_refused}

-- how long the lent slices are
abbrev pub lengths : Slices → Lengths
lengths lent =
    let w = lent.work in
    record {
      board = length lent.board;
      g = length w.g;
      parents = length w.parents;
      marks = length w.marks;
      legs = length w.legs;
      units = length lent.units;
      counts = length lent.leg_counts;
    }

-- they have room for a job with such sides and nets
pub record Enough (whole : Progress) (lent : Slices) : Type 0 where
  pub rows_pass : lent_rows whole.width whole.height whole.nets (lengths lent) ≡ passes
  pub board_long : whole.width * whole.height ≤ length lent.board
  pub work_fits : is_work_short ((whole.width + 1) * (whole.height + 1)) lent.work ≡ false
  pub results_fit : is_result_short whole.nets lent.units lent.leg_counts ≡ false

enough_room : (p : Progress) (lent : Slices) → lent_rows p.width p.height p.nets (lengths lent) ≡ passes → Enough p lent
unfolding lent_rows
enough_room p lent e =
    let n : ℕ = length lent.board in
    let cells : ℕ = p.width * p.height in
    let work = is_work_short ((p.width + 1) * (p.height + 1)) lent.work in
    let (board_fits, others) = both_pass (row (ltb n cells) 19 0) _ e in
    let (work-passes, results-pass) = both_pass (row work 6 0) _ others in
    record {
      rows_pass = e;
      board_long = ltb-false n cells (row_passes (ltb n cells) 19 0 board_fits);
      work_fits = row_passes work 6 0 work-passes;
      results_fit = row_passes (is_result_short p.nets lent.units lent.leg_counts) 21 0 results-pass;
    }

module _ {job file : List ℕ} {p : Progress} (P : BothPassed job file p) where
  -- what the last record leaves known
  told : (p.width ≡ width job) × (p.height ≡ height job) × (p.nets ≡ nets job)
  unfolding progress
  told =
      let known = P.whole_is in
      let some = ne_eqb (records job) 0 (λ z. omega (arith, some_record P.accepted)) in
      (rw (known, some), rw (known, some), rw known)

  pub narrow : p.width ≤ largest_side
  narrow = rw told.0 (side_le (width job) (width_fits P.accepted))

  pub low : p.height ≤ largest_side
  low = rw told.1 (side_le (height job) (height_fits P.accepted))

  -- the rows of the lengths are those of the room
  room_rows_lem : (lent : Slices) → room_rows job lent ≡ lent_rows p.width p.height p.nets (lengths lent)
  unfolding room_rows work_row lent_rows
  room_rows_lem lent = rw (told.0, told.1, told.2)

  module _ (lent : Slices) where
    -- one is too short: it is answered
    pub stops_short : (short : Short) → short_row short ≡ lent_rows p.width p.height p.nets (lengths lent) → Checked job file lent lent (Err (refusal_of short))
    stops_short short e =
        let refused = short_refused short in
        room_refused job file lent P.accepted.passed P.clean (refusal_of short) (room_rows_lem lent ∙ sym e ∙ sym refused.0) refused.1

    pub enough : passes ≡ lent_rows p.width p.height p.nets (lengths lent) → Enough p lent
    enough e = enough_room p lent (sym e)

  -- ---- the cells are written to slices that are long enough

  pub cells_fit : {lent : Slices} → Enough p lent
      → (p.width ≡ width job) × (p.width * p.height ≡ width job * height job) × (p.width * p.height ≤ length lent.board)
  cells_fit E = (told.0, rw (told.0, told.1), E.board_long)

  module _ {lent : Slices} (E : Enough p lent) {after : List ℕ} (written : after ≡ board_cells job ++ drop (p.width * p.height) lent.board) where
    given : BoardGiven job lent.board p.width p.height p.nets after
    given =
        let n : ℕ = width job * height job in
        let size : length (board_cells job) ≡ n = cells_length job n in
        record {
          accepted = P.accepted;
          wide = told.0;
          high = told.1;
          many = told.2;
          room = E.board_long;
          front = rw (written, told.0, told.1) (take_at (board_cells job) (drop n lent.board) n size);
          beyond = rw (written, told.0, told.1) (drop_at (board_cells job) (drop n lent.board) n size);
        }

    pub full : length (take (p.width * p.height) after) ≡ p.width * p.height
    full = (given_sound given).full

    cells_laid : after ≡ laid (board_cells job) lent.board
    cells_laid =
        let n : ℕ = p.width * p.height in
        let size : length (board_cells job) ≡ n = rw given.front at full in
        sym (take-append-drop n after) ∙ rw (given.front, given.beyond, size)

    pub on_job : OnJob job file (take (p.width * p.height) after) p.width p.height p.nets
    on_job = record {
      accepted = P.accepted;
      clean = P.clean;
      cells_are = given.front;
      wide_is = told.0;
      high_is = told.1;
      many_is = told.2;
    }

    pub room_is : Room (board (take (p.width * p.height) after) p.width p.height) lent.work
    room_is =
        let n : ℕ = (p.width + 1) * (p.height + 1) in
        let w = lent.work in
        let (g-long, others) = or_neither (ltb (length w.g) n) _ E.work_fits in
        let (parents-long, rest) = or_neither (ltb (length w.parents) n) _ others in
        let (marks-long, legs-long) = or_neither (ltb (length w.marks) n) _ rest in
        record {
          sound = given_sound given;
          g_room = ltb-false (length w.g) n g-long;
          parents_room = ltb-false (length w.parents) n parents-long;
          marks_room = ltb-false (length w.marks) n marks-long;
          legs_room = ltb-false (length w.legs) n legs-long;
        }

    pub results_room : (p.nets ≤ length lent.units) × (p.nets ≤ length lent.leg_counts)
    results_room =
        let (u, c) = or_neither (ltb (length lent.units) p.nets) (ltb (length lent.leg_counts) p.nets) E.results_fit in
        (ltb-false (length lent.units) p.nets u, ltb-false (length lent.leg_counts) p.nets c)

    -- the nets have been judged on them
    pub decided : {r : Result ℕ CheckRefusal} {w : Searching} {units leg_counts : List ℕ}
        → NetsChecked job file lent.work w lent.units units lent.leg_counts leg_counts r
        → Checked job file lent (record { board = after; work = w; units = units; leg_counts = leg_counts }) r
    decided c =
        rw cells_laid
        (nets_checked job file lent P.accepted.passed P.clean (room_rows_lem lent ∙ E.rows_pass) c)
