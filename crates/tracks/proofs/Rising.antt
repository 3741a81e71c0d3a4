-- The file of routes that passes: no net follows itself, and no path is too long. Assumes nothing.
use Prim.Native.Nat.{ℕ, zero, suc, ◌+◌, ◌*◌, ◌%◌, ◌-◌, ◌≤◌, ◌<◌}
use mathlib.Core.Path.{◌≡◌, refl, sym, ap, ◌∙◌}
use mathlib.Core.Logic.{⊎_elim}
use mathlib.Core.List.{List, [], ◌∷◌, ◌++◌, append_assoc}
use native.Mathlib.Omega.{arith}
use lib.ListN.{length, length-append}
use borrow.Author.Tests.{ne_eqb}
use Rattle.laws.proofs.Tests.{order}
use Rattle.board.specs.Handed.{passes}
use Rattle.board.proofs.Verdicts.{no_pass}
use Rattle.records.specs.Records.{records, in_order}
use Rattle.records.proofs.InOrder.{each_passes}
use Rattle.tracks.specs.Tracks.{Route, net_records, file_of}
use Rattle.tracks.specs.Faults.{net_before, record_rows}
use Rattle.tracks.proofs.Before.{prefix}
use Rattle.tracks.proofs.Trips.{Apart, Distinct}
use Rattle.tracks.specs.Inner.{records_for}
use Rattle.tracks.proofs.Judged.{net_length, Placed, net_refused, net_passes, net_long}

-- the file of routes is whole records
pub whole_file : (rs : List Route) → length (file_of rs) % 8 ≡ 0
unfolding file_of
whole_file [] = refl
whole_file (r ∷ rs) = omega (arith, length-append (net_records r.net r.points) (file_of rs), net_length r.net r.points, whole_file rs)

module _ (file : List ℕ) (all : in_order (records file) (record_rows file) ≡ passes) where
  -- what is known of routes that come after some records: numbers rise from the last one on
  abbrev Above : ℕ → List Route → Type 0
  Above last [] = Unit {0}
  Above last (r ∷ rs) = last < r.net

  above : (rs : List Route) (front : List ℕ) (i : ℕ) → file ≡ front ++ file_of rs → length front ≡ i * 8 → Above (net_before file i) rs × Distinct rs
  unfolding file_of
  above [] front i e l = (tt, tt)
  above (r ∷ rs) front i e l =
      let many : ℕ = records_for (length r.points) in
      let here : List ℕ = net_records r.net r.points in
      let placed : Placed file r.net r.points i = record { front = front; back = file_of rs; made = e; long = l } in
      let long = ap length e ∙ length-append front (here ++ file_of rs) in
      let more = length-append here (file_of rs) in
      let n = net_length r.net r.points in
      let some : 1 ≤ many = at_least (length r.points) in
      let inside : i + many ≤ records file = omega arith in
      let d : i + (records file - i) ≡ records file = omega arith in
      let before = prefix (record_rows file) i (records file - i) (rw d all) in
      ⊎_elim
      (λ (high : net_before file i < r.net).
      ⊎_elim
      (λ (fits : 65536 < length r.points).
      let b = net_long file r.net i before high r.points placed fits in
      absurd (no_pass (sym b.1 ∙ each_passes (record_rows file) (records file) all (i + 65536) (omega (arith, beyond (length r.points) fits)))))
      (λ (fits : length r.points ≤ 65536).
      let b = net_passes file r.net i before high r.points placed fits in
      let rest = above rs (front ++ here) (i + many) (e ∙ sym (append_assoc front here (file_of rs))) (length-append front here ∙ omega arith) in
      (high, (apart rs (rw b.1 at rest.0), rest.1)))
      (order 65536 (length r.points)))
      (λ (low : r.net ≤ net_before file i).
      absurd (no_pass (sym (net_refused file r.net i before r.points placed low) ∙ each_passes (record_rows file) (records file) all i (omega arith))))
      (order (net_before file i) r.net)
    where
      at_least : (n : ℕ) → 1 ≤ records_for n
      at_least zero = omega arith
      at_least (suc n) = omega arith

      beyond : (n : ℕ) → 65536 < n → 65536 < records_for n
      beyond zero l = absurd (omega arith)
      beyond (suc n) l = l

      apart : (qs : List Route) → Above r.net qs → Apart r.net qs
      apart [] a = tt
      apart (q ∷ qs) a = ne_eqb r.net q.net (λ e. omega arith)

pub distinct : (rs : List Route) → in_order (records (file_of rs)) (record_rows (file_of rs)) ≡ passes → Distinct rs
distinct rs all = (above (file_of rs) all rs [] 0 refl refl).1
