-- The judgement of one record, by its type, and of the records in order. Assumes nothing.
use Prim.Native.Nat.{ℕ, zero, suc, ◌+◌, ◌%◌, ◌≤◌, ◌<◌}
use mathlib.Core.Path.{◌≡◌, refl, ap, ◌∙◌}
use mathlib.Core.Bool.{Bool, true, false, not, ◌&&◌}
use mathlib.Core.List.{List}
use native.Mathlib.Omega.{arith}
use native.Mathlib.Numerals.{add-one}
use lib.Dec.{leb, ltb, eqb, eqb-suc-zero}
use lib.ListN.{length}
use borrow.Author.Tests.{le-ltb, eq-eqb, ne_eqb}
use Rattle.std.specs.Prelude.{Ok, Err}
use Rattle.laws.specs.Below.{how_many}
use Rattle.laws.proofs.Below.{many_le, some_many}
use Rattle.board.specs.Handed.{Verdict, passes, refused, row, and_then, Handed, answer, judged, side_fits}
use Rattle.board.proofs.Verdicts.{row_within, then_within}
use Rattle.records.specs.Records.{record_bytes, records, byte, in_order, unused_row}
use Rattle.records.proofs.Stray.{unused_within}
use Rattle.records.proofs.InOrder.{first_refused, order_within}
use Rattle.refusals.specs.declared.JobRefusal.{JobRefusal}
use Rattle.kinds.specs.declared.Record.TheVariants.{Board, Keepout, Net}
use Rattle.kinds.specs.declared.RecordFault.TheVariants.{Unknown, Unused}
use Rattle.kinds.specs.declared.Rectangle.{Rectangle}
use Rattle.kinds.specs.declared.Net as given
use Rattle.steps.specs.declared.Progress.{Progress}
use Rattle.kinds.specs.Job.{longest_job, is_net, is_unknown, used_by, coordinate, width, height, left}
use Rattle.kinds.specs.Job.{top, right, bottom, net_at}
use Rattle.refusals.specs.Refusals.{refusal_row}
use Rattle.faults.specs.Faults.{is_misplaced, is_late, is_oversized, is_bad_keepout, net_before, is_unordered}
use Rattle.faults.specs.Faults.{is_end_off, record_rows, job_rows}
use Rattle.faults.specs.Inner.{Accepted, progress, record_step, job_step}
use Rattle.steps.specs.Steps.{nothing, handed_step, board_step, keepout_step, net_step}
use Rattle.kinds.proofs.Says.{is_untidy, Says, unknown, unused, board, keepout, net}
use Rattle.refusals.proofs.Refusing.{Numbered, answered, refuses, listed}

-- rows that pass after others change nothing
nothing_more : (v : Verdict) → and_then v passes ≡ v
nothing_more passes = refl
nothing_more (refused n p s) = refl

-- ---- each type of record

module _ (job : List ℕ) where
  board_at : (i : ℕ) → is_untidy job i ≡ false → byte job i 0 ≡ 1 → record_step job i ≡ board_step i (coordinate job i 2) (coordinate job i 3)
  unfolding record_step record_rows board_step progress net_before how_many
  board_at zero e t = rw (e, t, nothing_more (row (not (side_fits (width job) && side_fits (height job))) 14 0))
  board_at (suc i) e t = rw (e, t, eqb-suc-zero i)

  -- a keepout has cells and lies on the board
  abbrev fits : ℕ → Bool
  fits i =
      (ltb (left job i) (right job i) && ltb (top job i) (bottom job i))
      && (leb (right job i) (width job) && leb (bottom job i) (height job))

  keepout_at : (i : ℕ) → is_untidy job i ≡ false → byte job i 0 ≡ 2
      → record_step job i ≡ keepout_step (progress job i) i (left job i) (top job i) (right job i) (bottom job i)
  unfolding record_step record_rows keepout_step progress net_before how_many
  keepout_at zero e t = rw (e, t)
  keepout_at (suc i) e t =
      let no_more : how_many (suc i) (is_net job) + 0 ≡ how_many (suc i) (is_net job) = omega arith in
      rw (e, some_many (is_net job) (suc i), t, eqb-suc-zero i, eqb-suc-zero (suc i), no_more, nothing_more (row (not (fits (suc i))) 15 (suc i)))

  net_at_lem : (i : ℕ) → is_untidy job i ≡ false → byte job i 0 ≡ 3
      → record_step job i ≡ net_step (progress job i) i (net_at job i).number (net_at job i).sx (net_at job i).sy (net_at job i).gx (net_at job i).gy
  unfolding record_step record_rows net_step progress net_before how_many
  net_at_lem zero e t = rw (e, t)
  net_at_lem (suc i) e t = rw (e, t, eqb-suc-zero i, eqb-suc-zero (suc i))

-- ---- the same by what the record says

module _ (job : List ℕ) (i : ℕ) where
  pub row_unknown : Says job i (Err Unknown) → record_step job i ≡ judged nothing (refused 13 i 0)
  unfolding record_step record_rows
  row_unknown (unknown u) = rw u

  pub row_unused : {k : ℕ} → Says job i (Err (Unused k)) → record_step job i ≡ judged nothing (refused 23 i k)
  unfolding record_step record_rows
  row_unused (unused u e) = rw (u, e)

  pub row_board : {w h : ℕ} → Says job i (Ok (Board w h)) → record_step job i ≡ board_step i w h
  row_board (board e t) = board_at job i e t

  module _ {p : Progress} (known : p ≡ progress job i) where
    pub row_keepout : {r : Rectangle} → Says job i (Ok (Keepout r)) → record_step job i ≡ keepout_step p i r.left r.top r.right r.bottom
    row_keepout (keepout e t) = rw known (keepout_at job i e t)

    pub row_net : {n : given.Net} → Says job i (Ok (Net n)) → record_step job i ≡ net_step p i n.number n.sx n.sy n.gx n.gy
    row_net (net e t) = rw known (net_at_lem job i e t)

    -- there are no more nets than records
    pub nets_few : p.nets ≤ i
    unfolding progress
    nets_few = rw known (many_le (is_net job) i)

-- ---- the rows have numbers, so that an answer is told from a refusal

numbered : (condition : Bool) (n p : ℕ) (more : Verdict) → ltb 0 n ≡ true → Numbered more → Numbered (and_then (row condition n p) more)
numbered condition n p more e m = then_within (ltb 0) (row condition n p) more (row_within (ltb 0) condition n p e) m

module _ (job : List ℕ) where
  rows_numbered : (i : ℕ) → Numbered (record_rows job i)
  unfolding record_rows
  rows_numbered i =
      numbered (is_unknown job i) 13 i _ refl
      (then_within (ltb 0) (unused_row job (used_by (byte job i 0)) i) _ (unused_within job (used_by (byte job i 0)) i (ltb 0) refl)
      (numbered (is_misplaced job i) 12 i _ refl
      (numbered (is_late job i) 18 i _ refl
      (numbered (is_oversized job i) 14 i _ refl
      (numbered (is_bad_keepout job i) 15 i _ refl
      (numbered (is_unordered job i) 17 i _ refl
      (row_within (ltb 0) (is_end_off job i) 16 i refl)))))))

  pub job_numbered : Numbered (job_rows job)
  unfolding job_rows
  job_numbered =
      numbered (ltb longest_job (length job)) 10 0 _ refl
      (numbered (not (eqb (length job % record_bytes) 0)) 11 0 _ refl
      (numbered (eqb (records job) 0) 12 0 _ refl
      (order_within (record_rows job) (ltb 0) rows_numbered (records job))))

  -- ---- a record is judged: going on, or stopping

  pub goes_on : (i : ℕ) {p : Progress} → answer p ≡ record_step job i → (record_rows job i ≡ passes) × (p ≡ progress job (i + 1))
  unfolding record_step
  goes_on i e =
      let (clean, rest) = answered nothing (record_rows job i) (rows_numbered i) e in
      (clean, rw (add-one i) (ap (λ (h : Handed Progress). h.values) rest))

  -- a job of whole records that is not too long is judged by its records
  module _ (short : length job ≤ longest_job) (whole : length job % record_bytes ≡ 0) (some : 1 ≤ records job) where
    by_records : job_rows job ≡ in_order (records job) (record_rows job)
    unfolding job_rows
    by_records =
        let n : records job ≡ 0 → ⊥ = λ z. omega arith in
        rw (le-ltb longest_job (length job) short, eq-eqb (length job % record_bytes) 0 whole, ne_eqb (records job) 0 n)

    pub stops : (i : ℕ) → i < records job → in_order i (record_rows job) ≡ passes → (why : JobRefusal)
        → handed_step (Err why) ≡ record_step job i → handed_step (Err why) ≡ job_step job
    unfolding record_step job_step
    stops i l before why e =
        let row_is = (listed why).row_is in
        let this = refuses nothing (record_rows job i) why _ e ∙ row_is in
        rw (by_records, first_refused (record_rows job) i before this (records job) l, row_is)

    pub ends : in_order (records job) (record_rows job) ≡ passes → answer (progress job (records job)) ≡ job_step job
    unfolding job_step
    ends all = rw (by_records, all)

  -- ---- what the judgement of a whole job says of it

  pub whole_next : {p : Progress} → answer p ≡ job_step job → Accepted job × (p ≡ progress job (records job))
  unfolding job_step
  whole_next e =
      let (clean, rest) = answered nothing (job_rows job) job_numbered e in
      (record { passed = clean }, ap (λ (h : Handed Progress). h.values) rest)

  pub whole_refused : (why : JobRefusal) → handed_step (Err why) ≡ job_step job → job_rows job ≡ refusal_row why
  unfolding job_step
  whole_refused why e = refuses nothing (job_rows job) why _ e
