-- What would be written, judged net by net. Assumes nothing.
use Prim.Native.Nat.{ℕ, zero, suc, ◌+◌, ◌*◌, ◌%◌, ◌≤◌, ◌<◌}
use mathlib.Core.Path.{◌≡◌, refl, sym, ap, ◌∙◌}
use native.Mathlib.Omega.{arith}
use lib.ListN.{length, get_or, length-append}
use borrow.Author.Tests.{eq-eqb}
use Rattle.board.specs.Handed.{passes, refused}
use Rattle.records.specs.Records.{record_bytes, records, in_order}
use Rattle.records.proofs.InOrder.{none_yet, first_refused}
use Rattle.tracks.specs.Tracks.{file_of}
use Rattle.tracks.specs.Faults.{net_before, record_rows, file_rows}
use Rattle.tracks.specs.Layout.{Slices, points_before, route_at, routes_up_to}
use Rattle.tracks.specs.Inner.{records_for}
use Rattle.tracks.specs.Answers.{file_for}
use Rattle.tracks.proofs.Laying.{points_count}
use Rattle.tracks.proofs.Judged.{net_refused, net_passes, net_long}
use Rattle.tracks.proofs.Rising.{whole_file}
use Rattle.tally.specs.Inner.{Right}
use Rattle.tally.proofs.Parts.{records_at, up_more, net_placed, part_within, records_length}

-- after k nets: their records pass
pub record Judged (s : Slices) (k at points last : ℕ) : Type 0 where
  pub long : length (file_of (routes_up_to s k)) ≡ at * 8
  pub passed : in_order at (record_rows (file_for s)) ≡ passes
  pub last_is : net_before (file_for s) at ≡ last
  pub points_are : points ≡ points_before s.counts k

pub judged_none : (s : Slices) → Judged s 0 0 0 0
unfolding routes_up_to file_of points_before
judged_none s = record { long = refl; passed = none_yet (record_rows (file_for s)); last_is = refl; points_are = refl }

module _ {s : Slices} {k at points last : ℕ} (j : Judged s k at points last) where
  module _ (l : k < length s.nets) where
    abbrev net : ℕ
    net = get_or s.nets k 0

    abbrev count : ℕ
    count = get_or s.counts k 0

    counted : length (route_at s k).points ≡ count
    counted = points_count s.xs s.ys (points_before s.counts k) count

    -- where it ends within the file
    ends : length (file_of (routes_up_to s (suc k))) ≡ (at + records_for count) * 8
    ends = ap length (up_more s k) ∙ length-append (file_of (routes_up_to s k)) (records_at s k) ∙ omega (arith, j.long, records_length s k)

    inside : at + records_for count ≤ records (file_for s)
    inside = omega (arith, part_within s k l, ends)

    refused_file : (i : ℕ) → i < records (file_for s) → in_order i (record_rows (file_for s)) ≡ passes → record_rows (file_for s) i ≡ refused 22 i 0
        → file_rows (file_for s) ≡ refused 22 i 0
    unfolding file_rows
    refused_file i b e r = rw (eq-eqb (length (file_for s) % record_bytes) 0 (whole_file (routes_up_to s (length s.nets)))) (first_refused (record_rows (file_for s)) i e r (records (file_for s)) b)

    some_record : (n : ℕ) → 1 ≤ records_for n
    some_record zero = omega arith
    some_record (suc n) = omega arith

    pub low_refused : net ≤ last → file_rows (file_for s) ≡ refused 22 at 0
    low_refused low =
        refused_file at (omega (arith, inside, some_record count)) j.passed
        (net_refused (file_for s) net at j.passed (route_at s k).points (net_placed s k l j.long) (omega (arith, j.last_is)))

    module _ (high : last < net) where
      above : net_before (file_for s) at < net
      above = omega (arith, j.last_is)

      many : (n : ℕ) → 65536 < n → records_for n ≡ n
      many zero b = absurd (omega arith)
      many (suc n) b = refl

      pub long_refused : 65536 < count → file_rows (file_for s) ≡ refused 22 (at + 65536) 0
      long_refused b =
          let r = net_long (file_for s) net at j.passed above (route_at s k).points (net_placed s k l j.long) (omega (arith, counted)) in
          refused_file (at + 65536) (omega (arith, inside, many count b)) r.0 r.1

      pub judged_more : count ≤ 65536 → {at' points' : ℕ} → at' ≡ at + records_for count → points' ≡ points + count → Judged s (k + 1) at' points' net
      unfolding points_before
      judged_more b {at'} {points'} a p =
          let r = net_passes (file_for s) net at j.passed above (route_at s k).points (net_placed s k l j.long) (omega (arith, counted)) in
          let e : at + records_for (length (route_at s k).points) ≡ at' = ap (λ (n : ℕ). at + records_for n) counted ∙ sym a in
          let up : k + 1 ≡ suc k = omega arith in
          record {
            long = rw (up, a) ends;
            passed = rw e at r.0;
            last_is = rw e at r.1;
            points_are = rw up (omega (arith, p, j.points_are));
          }

  pub judged_all : k ≡ length s.nets → at ≤ 255 * 65536 → Right s at points
  unfolding file_rows
  judged_all e few =
      let long : length (file_for s) ≡ at * 8 = ap (λ (n : ℕ). length (file_of (routes_up_to s n))) (sym e) ∙ j.long in
      let n : records (file_for s) ≡ at = omega arith in
      record {
        passed = rw (eq-eqb (length (file_for s) % record_bytes) 0 (whole_file (routes_up_to s (length s.nets))), n) j.passed;
        long = long;
        few = few;
        points_are = j.points_are ∙ ap (points_before s.counts) e;
      }
