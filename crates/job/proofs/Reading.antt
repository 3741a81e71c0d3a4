-- What a board read and a net read hand back, refused or done, and what the lent slice holds. Assumes nothing.
use Prim.Native.Nat.{ℕ, ◌*◌, ◌≤◌, ◌<◌}
use mathlib.Core.Path.{◌≡◌, refl, sym, ap, ◌∙◌}
use mathlib.Core.List.{List, ◌++◌}
use native.Mathlib.Omega.{arith}
use lib.ListN.{length, drop}
use borrow.Author.Tests.{eqb-false, lt-ltb, le-ltb, ne_eqb}
use Rattle.board.specs.Limits.{largest_side}
use Rattle.board.specs.Handed.{Handed}
use Rattle.board.proofs.Rows.{cells_few}
use Rattle.records.specs.Records.{records}
use Rattle.steps.specs.declared.Progress.{Progress}
use Rattle.refusals.specs.declared.JobRefusal.{JobRefusal}
use Rattle.std.specs.Prelude.{Ok, Err}
use Rattle.job.specs.declared.BoardRefusal.TheVariants as unread
use Rattle.job.specs.declared.NetRefusal.TheVariants as unfound
use Rattle.kinds.specs.Job.{width, height, nets, board_cells}
use Rattle.refusals.specs.Refusals.{refusal_row}
use Rattle.faults.specs.Faults.{job_rows}
use Rattle.job.specs.Answers.{Sides, no_sides, handed_board, board_row, board_after, BoardRead, no_net, handed_net, net_row}
use Rattle.faults.specs.Inner.{Accepted, progress}
use Rattle.faults.proofs.Accepted.{some_record, width_fits, height_fits}
use Rattle.refusals.proofs.Refusing.{listed, not_own, refused_same}

module _ (job before : List ℕ) where
  -- a refusal leaves the slice as it is
  kept : {h : Handed Sides} → h ≡ board_row job (length before) → (h.number ≡ 0 → ⊥) → BoardRead job before h before
  unfolding board_after
  kept e n = record {
    row_is = e;
    after_is = rw (ne_eqb (board_row job (length before)).number 0 (λ z. n (ap (λ (x : Handed Sides). x.number) e ∙ z)));
  }

  pub board_refused : (why : JobRefusal) → job_rows job ≡ refusal_row why → BoardRead job before (handed_board (Err (unread.Job why))) before
  unfolding board_row
  board_refused why e =
      let k = listed why in
      kept (refused_same no_sides why _ _ e) (λ z. eqb-false k.number 0 (not_own k 0 refl) (rw k.row_is at z))

  module _ (a : Accepted job) where
    pub board_short : length before < width job * height job → BoardRead job before (handed_board (Err unread.Short)) before
    unfolding board_row
    board_short l = kept (rw (a.passed, lt-ltb (length before) (width job * height job) l)) (λ z. omega arith)

    pub board_done : width job * height job ≤ length before
        → BoardRead job before (handed_board (Ok (record { width = width job; height = height job; nets = nets job }))) (board_cells job ++ drop (width job * height job) before)
    unfolding board_row board_after
    board_done l =
        let e : board_row job (length before) ≡ handed_board (Ok (record { width = width job; height = height job; nets = nets job })) =
        rw (a.passed, le-ltb (length before) (width job * height job) l) in
        record { row_is = sym e; after_is = rw e }

pub net_refused : (job : List ℕ) (index : ℕ) (why : JobRefusal) → job_rows job ≡ refusal_row why → handed_net (Err (unfound.Job why)) ≡ net_row job index
unfolding net_row
net_refused job index why e = refused_same no_net why _ _ e

-- ---- the board read, from what the whole job says

module _ {job : List ℕ} (a : Accepted job) {p : Progress} (known : p ≡ progress job (records job)) where
  whole_reads : (p.width ≡ width job) × (p.height ≡ height job) × (p.nets ≡ nets job)
  unfolding progress
  whole_reads =
      let some = ne_eqb (records job) 0 (λ z. omega (arith, some_record a)) in
      (rw (known, some), rw (known, some), rw known)

  pub whole_width : p.width ≡ width job
  whole_width = whole_reads.0

  pub whole_cells : p.width * p.height ≡ width job * height job
  whole_cells = rw (whole_reads.0, whole_reads.1)

  pub whole_few : p.width * p.height ≤ largest_side * largest_side
  whole_few = rw whole_cells (cells_few (width job) (height job) (width_fits a) (height_fits a))

  pub whole_short : (before : List ℕ) → length before < p.width * p.height → BoardRead job before (handed_board (Err unread.Short)) before
  whole_short before l = board_short job before a (rw whole_cells at l)

  pub whole_done : {before after : List ℕ} → p.width * p.height ≤ length before → after ≡ board_cells job ++ drop (p.width * p.height) before
      → BoardRead job before (handed_board (Ok (record { width = p.width; height = p.height; nets = p.nets }))) after
  whole_done {before} l e =
      let room : width job * height job ≤ length before = rw whole_cells at l in
      rw (e, whole_cells, whole_reads.0, whole_reads.1, whole_reads.2) (board_done job before a room)
