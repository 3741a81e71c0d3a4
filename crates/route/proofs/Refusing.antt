-- A refused job, and that no board is larger than the program's buffer. Assumes nothing.
use Prim.Native.Nat.{ℕ, ◌*◌, ◌%◌, ◌≤◌}
use mathlib.Core.Path.{◌≡◌, refl, sym, ap, subst, ◌∙◌}
use mathlib.Core.Bool.{Bool, true, false, not, false≢true}
use mathlib.Core.List.{List}
use native.Mathlib.Omega.{arith}
use lib.Dec.{ltb, eqb}
use lib.ListN.{length}
use borrow.Author.Tests.{eqb-false, le-ltb}
use Rattle.board.specs.Handed.{Verdict, passes, refused, row, and_then, Handed, judged}
use Rattle.board.proofs.Verdicts.{Within, row_within, then_within, no_pass}
use Rattle.board.proofs.Rows.{cells_few}
use Rattle.records.specs.Records.{records, byte, record_bytes, unused_row}
use Rattle.records.proofs.Stray.{unused_within}
use Rattle.records.proofs.InOrder.{order_within}
use Rattle.refusals.specs.declared.JobRefusal.{JobRefusal}
use Rattle.kinds.specs.Job.{longest_job, used_by, width, height}
use Rattle.kinds.specs.Job.{is_unknown}
use Rattle.faults.specs.Faults.{is_misplaced, is_late, is_oversized, is_bad_keepout, is_unordered, is_end_off}
use Rattle.faults.specs.Faults.{record_rows, job_rows}
use Rattle.refusals.specs.Refusals.{refusal_row}
use Rattle.faults.specs.Inner.{Accepted}
use Rattle.refusals.proofs.Refusing.{is_own, listed, not_own, refuses}
use Rattle.faults.proofs.Accepted.{width_fits, height_fits}
use Rattle.std.specs.Prelude.{Err}
use Rattle.job.specs.declared.BoardRefusal.TheVariants as unread
use Rattle.job.specs.Answers.{Sides, no_sides, handed_board, board_row, BoardRead}
use Rattle.netroute.specs.Limits.{cell_room}

-- ---- the numbers of a job's own rows

own : (condition : Bool) (n p : ℕ) (more : Verdict) → is_own n ≡ true → Within is_own more
    → Within is_own (and_then (row condition n p) more)
own condition n p more e m = then_within is_own (row condition n p) more (row_within is_own condition n p e) m

module _ (job : List ℕ) where
  record_own : (i : ℕ) → Within is_own (record_rows job i)
  unfolding record_rows
  record_own i =
      own (is_unknown job i) 13 i _ refl
      (then_within is_own (unused_row job (used_by (byte job i 0)) i) _ (unused_within job (used_by (byte job i 0)) i is_own refl)
      (own (is_misplaced job i) 12 i _ refl
      (own (is_late job i) 18 i _ refl
      (own (is_oversized job i) 14 i _ refl
      (own (is_bad_keepout job i) 15 i _ refl
      (own (is_unordered job i) 17 i _ refl
      (row_within is_own (is_end_off job i) 16 i refl)))))))

  job_own : Within is_own (job_rows job)
  unfolding job_rows
  job_own =
      own (ltb longest_job (length job)) 10 0 _ refl
      (own (not (eqb (length job % record_bytes) 0)) 11 0 _ refl
      (own (eqb (records job) 0) 12 0 _ refl
      (order_within (record_rows job) is_own record_own (records job))))

  -- the board of an accepted job fits a buffer for the widest
  not_short : (v : Verdict) → job_rows job ≡ v → (lent : ℕ) → cell_room ≤ lent
      → judged no_sides (refused 19 0 0) ≡ board_row job lent → ⊥
  unfolding board_row
  not_short passes e lent room r =
      let a : Accepted job = record { passed = e } in
      let cells : ℕ = width job * height job in
      let few : cells ≤ lent = omega (arith, cells_few (width job) (height job) (width_fits a) (height_fits a)) in
      let z : ◌≡◌ {A = ℕ} 19 0 = ap (λ (x : Handed Sides). x.number) (rw (e, le-ltb lent cells few) at r) in
      omega arith
  not_short (refused n p s) e lent room r =
      let z : 19 ≡ n = ap (λ (x : Handed Sides). x.number) (rw e at r) in
      let o : is_own n ≡ true = rw e at job_own in
      false≢true (subst (λ (k : ℕ). is_own k ≡ true) (sym z) o)

  pub board_fits : {before after : List ℕ} → cell_room ≤ length before
      → BoardRead job before (handed_board (Err unread.Short)) after → ⊥
  board_fits {before} room r = not_short (job_rows job) refl (length before) room r.row_is

  -- a refused board read: the rows refuse the job so
  refused_by : (v : Verdict) (why : JobRefusal) (short : Bool) → and_then v (row short 19 0) ≡ refusal_row why
      → v ≡ refusal_row why
  refused_by passes why true r =
      let k = listed why in
      let same = r ∙ k.row_is in
      let z : 19 ≡ k.number = cc in
      absurd (eqb-false k.number 19 (not_own k 19 refl) (sym z))
  refused_by passes why false r = absurd (no_pass (sym (r ∙ (listed why).row_is)))
  refused_by (refused n p s) why short r = r

  pub board_refused : {before after : List ℕ} (why : JobRefusal)
      → BoardRead job before (handed_board (Err (unread.Job why))) after → job_rows job ≡ refusal_row why
  unfolding board_row
  board_refused {before} why r =
      let short = ltb (length before) (width job * height job) in
      refused_by (job_rows job) why short (refuses no_sides (and_then (job_rows job) (row short 19 0)) why _ r.row_is)
