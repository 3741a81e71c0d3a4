-- What an accepted job's records are known to be: its sides, its keepouts and its nets. Assumes nothing.
use Prim.Native.Nat.{ℕ, ◌≤◌, ◌<◌}
use mathlib.Core.Path.{◌≡◌, refl, sym, ◌∙◌}
use mathlib.Core.Bool.{Bool, true, false, not, ◌&&◌, true≢false}
use mathlib.Core.List.{List}
use native.Mathlib.Omega.{arith}
use lib.Dec.{leb, ltb, eqb}
use lib.ListN.{length}
use borrow.Author.Tests.{not-false, eqb-false, leb-true, ltb-true}
use Rattle.laws.proofs.Tests.{and_left, and_right}
use Rattle.board.specs.Handed.{passes, row, and_then, side_fits}
use Rattle.board.proofs.Verdicts.{row_passes, both_pass}
use Rattle.records.specs.Records.{records, byte, length_row, in_order, unused_row}
use Rattle.records.proofs.Stray.{unused_passes}
use Rattle.records.proofs.InOrder.{each_passes}
use Rattle.kinds.specs.declared.Record.{Record}
use Rattle.kinds.specs.declared.Record.TheVariants.{Keepout}
use Rattle.kinds.specs.declared.RecordFault.{RecordFault}
use Rattle.kinds.specs.declared.Rectangle.{Rectangle}
use Rattle.std.specs.Prelude.{Result, Ok}
use Rattle.kinds.specs.Job.{longest_job, is_board, is_keepout, is_net, is_unknown, used_by, width, height, left, top, right}
use Rattle.kinds.specs.Job.{bottom, net_at}
use Rattle.faults.specs.Faults.{is_misplaced, is_late, is_oversized, is_bad_keepout, is_unordered, is_on, is_end_off}
use Rattle.faults.specs.Faults.{record_rows, job_rows}
use Rattle.faults.specs.Inner.{Accepted}
use Rattle.kinds.proofs.Says.{is_untidy, Says, unknown, unused, board, keepout, net}

-- a test that is yes, with a second that is no
second : (a b : Bool) → (a && not b) ≡ false → a ≡ true → b ≡ true
second a b h e = not-false b (rw e at h)

module _ {job : List ℕ} (a : Accepted job) where
  after_length : and_then (row (eqb (records job) 0) 12 0) (in_order (records job) (record_rows job)) ≡ passes
  unfolding job_rows
  after_length = (both_pass (length_row job) _ (both_pass (row (ltb longest_job (length job)) 10 0) _ a.passed).1).1

  pub some_record : 1 ≤ records job
  some_record =
      let n = eqb-false (records job) 0 (row_passes (eqb (records job) 0) 12 0 (both_pass (row (eqb (records job) 0) 12 0) _ after_length).0) in
      omega arith

  -- nothing is wrong with a record
  module _ (i : ℕ) (l : i < records job) where
    clean : (is_unknown job i ≡ false) × (is_untidy job i ≡ false) × (is_misplaced job i ≡ false) × (is_oversized job i ≡ false) × (is_bad_keepout job i ≡ false) × (is_end_off job i ≡ false)
    unfolding record_rows
    clean =
        let all = each_passes (record_rows job) (records job) (both_pass (row (eqb (records job) 0) 12 0) _ after_length).1 i l in
        let (by-13, after-13) = both_pass (row (is_unknown job i) 13 i) _ all in
        let (by-23, after-23) = both_pass (unused_row job (used_by (byte job i 0)) i) _ after-13 in
        let (by-12, after-12) = both_pass (row (is_misplaced job i) 12 i) _ after-23 in
        let (by-18, after-18) = both_pass (row (is_late job i) 18 i) _ after-12 in
        let (by-14, after-14) = both_pass (row (is_oversized job i) 14 i) _ after-18 in
        let (by-15, after-15) = both_pass (row (is_bad_keepout job i) 15 i) _ after-14 in
        let (by-17, by-16) = both_pass (row (is_unordered job i) 17 i) _ after-15 in (
          row_passes (is_unknown job i) 13 i by-13,
          unused_passes job (used_by (byte job i 0)) i by-23,
          row_passes (is_misplaced job i) 12 i by-12,
          row_passes (is_oversized job i) 14 i by-14,
          row_passes (is_bad_keepout job i) 15 i by-15,
          row_passes (is_end_off job i) 16 i by-16,
        )

    pub is_known : is_unknown job i ≡ false
    is_known = clean.0

    pub is_tidy : is_untidy job i ≡ false
    is_tidy = clean.1

  -- ---- the board

  first_board : is_board job 0 ≡ true
  first_board = not-false (is_board job 0) (clean 0 some_record).2

  sides_fit : (side_fits (width job) && side_fits (height job)) ≡ true
  sides_fit = second (is_board job 0) (side_fits (width job) && side_fits (height job)) (clean 0 some_record).3 first_board

  pub width_fits : side_fits (width job) ≡ true
  width_fits = and_left (side_fits (width job)) (side_fits (height job)) sides_fit

  pub height_fits : side_fits (height job) ≡ true
  height_fits = and_right (side_fits (width job)) (side_fits (height job)) sides_fit

  -- ---- a keepout

  module _ (i : ℕ) (l : i < records job) (k : is_keepout job i ≡ true) where
    pub keepout_below : (left job i < right job i) × (top job i < bottom job i) × (right job i ≤ width job) × (bottom job i ≤ height job)
    keepout_below =
        let some : Bool = ltb (left job i) (right job i) && ltb (top job i) (bottom job i) in
        let on : Bool = leb (right job i) (width job) && leb (bottom job i) (height job) in
        let fits = second (is_keepout job i) (some && on) (clean i l).4 k in
        let cells = and_left some on fits in
        let lies = and_right some on fits in (
          ltb-true (left job i) (right job i) (and_left (ltb (left job i) (right job i)) _ cells),
          ltb-true (top job i) (bottom job i) (and_right (ltb (left job i) (right job i)) _ cells),
          leb-true (right job i) (width job) (and_left (leb (right job i) (width job)) _ lies),
          leb-true (bottom job i) (height job) (and_right (leb (right job i) (width job)) _ lies),
        )

  pub keepout_on : {i : ℕ} {r : Rectangle} → i < records job → Says job i (Ok (Keepout r))
      → (r.left < r.right) × (r.top < r.bottom) × (r.right ≤ width job) × (r.bottom ≤ height job)
  keepout_on {i} l (keepout e t) = keepout_below i l (rw t)

  -- one that says no keepout is none
  pub no_keepout : (i : ℕ) → i < records job → {said : Result Record RecordFault} → Says job i said → ((r : Rectangle) → said ≡ Ok (Keepout r) → ⊥)
      → is_keepout job i ≡ false
  no_keepout i l (unknown u) k = absurd (true≢false (sym u ∙ is_known i l))
  no_keepout i l (unused u e) k = absurd (true≢false (sym e ∙ is_tidy i l))
  no_keepout i l (board e t) k = rw t
  no_keepout i l (keepout e t) k = absurd (k _ refl)
  no_keepout i l (net e t) k = rw t

  -- ---- a net

  module _ (i : ℕ) (l : i < records job) (n : is_net job i ≡ true) where
    ends_on : (is_on job (net_at job i).sx (net_at job i).sy && is_on job (net_at job i).gx (net_at job i).gy) ≡ true
    ends_on = second (is_net job i) (is_on job (net_at job i).sx (net_at job i).sy && is_on job (net_at job i).gx (net_at job i).gy) (clean i l).5 n

    pub start_on : is_on job (net_at job i).sx (net_at job i).sy ≡ true
    start_on = and_left (is_on job (net_at job i).sx (net_at job i).sy) _ ends_on

    pub goal_on : is_on job (net_at job i).gx (net_at job i).gy ≡ true
    goal_on = and_right (is_on job (net_at job i).sx (net_at job i).sy) _ ends_on
