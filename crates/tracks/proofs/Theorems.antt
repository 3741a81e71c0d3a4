-- What is true of the reader and the writer together: each undoes the other, for all that each accepts. Assumes nothing.
use Prim.Native.Nat.{ℕ, ◌*◌, ◌%◌, ◌≤◌, ◌<◌}
use mathlib.Core.Path.{◌≡◌, refl, sym, ap, ap₂, ◌∙◌}
use mathlib.Core.Bool.{false, not, ◌||◌}
use mathlib.Core.List.{List, ◌++◌}
use native.Mathlib.Omega.{arith}
use lib.Dec.{ltb, eqb}
use lib.ListN.{length, get_or, take, drop}
use lib.Seq.{take_at, take_all, length-take-le}
use borrow.Author.Tests.{not-false, ltb-false, eqb-true, le-ltb}
use Rattle.std.specs.Prelude.{Result, Ok}
use Rattle.laws.proofs.Tests.{or_neither}
use Rattle.board.specs.Handed.{Verdict, passes, row, Handed, answer}
use Rattle.board.proofs.Verdicts.{row_passes, both_pass, row_within, then_within}
use Rattle.records.specs.Records.{record_bytes, records, byte, length_row, in_order, unused_row}
use Rattle.records.proofs.Stray.{unused_within}
use Rattle.records.proofs.InOrder.{order_within}
use Rattle.refusals.proofs.Refusing.{Numbered, answered}
use Rattle.tracks.specs.declared.Sizes as code
use Rattle.tracks.specs.declared.ReadRefusal.{ReadRefusal}
use Rattle.tracks.specs.declared.WriteRefusal.{WriteRefusal}
use Rattle.tracks.specs.Tracks.{Point, Route, file_of, routes_in}
use Rattle.tracks.specs.Faults.{is_unknown, used_by, is_wrong, record_rows, file_rows}
use Rattle.tracks.specs.Layout.{Slices, slices, numbers_of, counts_of, xs_of, ys_of, laid_out, points_before, routes_of}
use Rattle.tracks.specs.Answers.{laid, Sizes, no_sizes, handed_read, is_short, read_rows, read_row, slices_after, RoutesRead}
use Rattle.tracks.specs.Answers.{Records, no_records, handed_write, file_for, is_lacking, write_rows, write_row, file_after, RoutesWritten}
use Rattle.tracks.proofs.Trips.{file_back, routes_back}
use Rattle.tracks.proofs.Rising.{whole_file, distinct}
use Rattle.tracks.proofs.Laying.{counts_length, all_length, points_all, up_numbers, up_counts, up_all, laid_again}
use Rattle.tracks.proofs.Determined.{read_determined, written_determined}

-- ---- rows have numbers, so that an answer is told from a refusal

record_numbered : (file : List ℕ) (i : ℕ) → Numbered (record_rows file i)
unfolding record_rows
record_numbered file i =
    then_within (ltb 0) (row (is_unknown file i) 13 i) _ (row_within (ltb 0) (is_unknown file i) 13 i refl)
    (then_within (ltb 0) (unused_row file (used_by (byte file i 0)) i) _ (unused_within file (used_by (byte file i 0)) i (ltb 0) refl)
    (row_within (ltb 0) (is_wrong file i) 22 i refl))

file_numbered : (file : List ℕ) → Numbered (file_rows file)
unfolding file_rows
file_numbered file =
    then_within (ltb 0) (length_row file) _ (row_within (ltb 0) (not (eqb (length file % record_bytes) 0)) 11 0 refl)
    (order_within (record_rows file) (ltb 0) (record_numbered file) (records file))

-- ---- a file that passes

module _ (file : List ℕ) (e : file_rows file ≡ passes) where
  pub all_records : in_order (records file) (record_rows file) ≡ passes
  unfolding file_rows
  all_records = (both_pass (length_row file) (in_order (records file) (record_rows file)) e).1

  pub whole_records : length file % record_bytes ≡ 0
  unfolding file_rows
  whole_records =
      eqb-true (length file % record_bytes) 0 (not-false _
      (row_passes (not (eqb (length file % record_bytes) 0)) 11 0 (both_pass (length_row file) (in_order (records file) (record_rows file)) e).0))

  -- holds the records of its routes
  pub file_again : ((k : ℕ) → get_or file k 0 < 256) → file_of (routes_in file) ≡ file
  file_again bytes = file_back file all_records whole_records bytes

-- the file of routes that passes holds those routes
pub routes_again : (rs : List Route) → file_rows (file_of rs) ≡ passes → routes_in (file_of rs) ≡ rs
routes_again rs e = routes_back rs (distinct rs (all_records (file_of rs) e))

-- ---- where routes were written, and the part that was written is read into slices that are long enough

module _ (s : Slices) (before after : List ℕ) (n : ℕ) (wrote : RoutesWritten s before (handed_write (Ok n)) after) where
  write_numbered : Numbered (write_rows s (length before))
  unfolding write_rows
  write_numbered = then_within (ltb 0) (file_rows (file_for s)) _ (file_numbered (file_for s)) (row_within (ltb 0) (is_lacking s (length before)) 21 0 refl)

  accepted : (write_rows s (length before) ≡ passes) × (handed_write (Ok n) ≡ answer (record { records = records (file_for s) }))
  unfolding write_row
  accepted = answered no_records (write_rows s (length before)) write_numbered wrote.row_is

  file_passes : file_rows (file_for s) ≡ passes
  unfolding write_rows
  file_passes = (both_pass (file_rows (file_for s)) _ accepted.0).0

  records_are : n ≡ records (file_for s)
  records_are = ap (λ (h : Handed Records). h.values.records) accepted.1

  -- the nets, and the points that are counted
  abbrev nets_of : ℕ
  nets_of = length s.nets

  abbrev points_of : ℕ
  points_of = points_before s.counts nets_of

  none_lacks : (nets_of ≤ length s.counts) × (points_of ≤ length s.xs) × (points_of ≤ length s.ys)
  unfolding write_rows is_lacking
  none_lacks =
      let lacks = row_passes (is_lacking s (length before)) 21 0 (both_pass (file_rows (file_for s)) _ accepted.0).1 in
      let (a, b) = or_neither (ltb (length s.counts) nets_of || ltb (length before) (length (file_for s))) _ lacks in
      let (c, d) = or_neither (ltb (length s.counts) nets_of) (ltb (length before) (length (file_for s))) a in
      let (x, y) = or_neither (ltb (length s.xs) points_of) (ltb (length s.ys) points_of) b in
      (ltb-false (length s.counts) nets_of c, ltb-false (length s.xs) points_of x, ltb-false (length s.ys) points_of y)

  -- the routes that were written, as they were lent
  abbrev pub lent_routes : Slices
  lent_routes = slices s.nets (take nets_of s.counts) (take points_of s.xs) (take points_of s.ys)

  laid_as_lent : laid_out (routes_of s) ≡ lent_routes
  laid_as_lent =
      let a : numbers_of (routes_of s) ≡ s.nets = up_numbers s nets_of (omega arith) ∙ take_all nets_of s.nets (omega arith) in
      let b : counts_of (routes_of s) ≡ take nets_of s.counts = up_counts s nets_of none_lacks.0 in
      let c : xs_of (routes_of s) ≡ take points_of s.xs = up_all s (λ (p : Point). p.x) s.xs (λ j. refl) nets_of none_lacks.1 in
      let d : ys_of (routes_of s) ≡ take points_of s.ys = up_all s (λ (p : Point). p.y) s.ys (λ j. refl) nets_of none_lacks.2 in
      rw (a, b, c, d)

  -- the part that was written
  abbrev pub part : List ℕ
  part = take (n * record_bytes) after

  part_is : part ≡ file_for s
  unfolding write_row
  part_is =
      let whole = whole_file (routes_of s) in
      let long : length (file_for s) ≡ n * record_bytes = omega (arith, records_are) in
      let all : after ≡ laid (file_for s) before =
      wrote.after_is ∙ ap (λ (v : Verdict). file_after v (file_for s) before) accepted.0 in
      ap (λ (l : List ℕ). take (n * record_bytes) l) all
      ∙ take_at (file_for s) (drop (length (file_for s)) before) (n * record_bytes) long

  -- then it is read, and the slices hold the routes that were written
  pub written_then_read : {lent left : Slices} {r : Result code.Sizes ReadRefusal} → is_short lent_routes lent ≡ false → RoutesRead part lent (handed_read r) left
      → (r ≡ Ok (record { nets = nets_of; points = points_of })) × (left ≡ slices_after passes lent_routes lent)
  unfolding read_rows read_row
  written_then_read {lent} {left} {r} room read =
      let again : routes_in part ≡ routes_of s = ap routes_in part_is ∙ routes_again (routes_of s) file_passes in
      let out : laid_out (routes_in part) ≡ lent_routes = ap laid_out again ∙ laid_as_lent in
      let clean : file_rows part ≡ passes = rw part_is file_passes in
      let enough : is_short (laid_out (routes_in part)) lent ≡ false = rw out room in
      let rows : read_rows part lent ≡ passes = rw (clean, enough) in
      let nets : length (numbers_of (routes_in part)) ≡ nets_of = ap (λ (o : Slices). length o.nets) out in
      let points : length (xs_of (routes_in part)) ≡ points_of = ap (λ (o : Slices). length o.xs) out ∙ length-take-le points_of s.xs none_lacks.1 in
      let expected : RoutesRead part lent (handed_read (Ok (record { nets = nets_of; points = points_of }))) (slices_after passes lent_routes lent) = record {
        row_is = rw (clean, enough, nets, points);
        after_is = ap₂ (λ (v : Verdict) (o : Slices). slices_after v o lent) (sym rows) (sym out);
      } in
      read_determined part lent read expected

-- ---- where a file was read, and the routes are written into a slice that is long enough

module _ (file : List ℕ) (before after : Slices) (n p : ℕ) (read : RoutesRead file before (handed_read (Ok (record { nets = n; points = p }))) after) where
  read_numbered : Numbered (read_rows file before)
  unfolding read_rows
  read_numbered = then_within (ltb 0) (file_rows file) _ (file_numbered file) (row_within (ltb 0) (is_short (laid_out (routes_in file)) before) 21 0 refl)

  abbrev sizes : Sizes
  sizes = record { nets = length (numbers_of (routes_in file)); points = length (xs_of (routes_in file)) }

  taken : (read_rows file before ≡ passes) × (handed_read (Ok (record { nets = n; points = p })) ≡ answer sizes)
  unfolding read_row
  taken = answered no_sizes (read_rows file before) read_numbered read.row_is

  read_passes : file_rows file ≡ passes
  unfolding read_rows
  read_passes = (both_pass (file_rows file) _ taken.0).0

  nets_are : n ≡ length (numbers_of (routes_in file))
  nets_are = ap (λ (h : Handed Sizes). h.values.nets) taken.1

  points_are : p ≡ length (xs_of (routes_in file))
  points_are = ap (λ (h : Handed Sizes). h.values.points) taken.1

  -- the routes that were read
  abbrev pub routes_read : Slices
  routes_read = slices (take n after.nets) (take n after.counts) (take p after.xs) (take p after.ys)

  read_are : routes_read ≡ laid_out (routes_in file)
  read_are =
      let rs : List Route = routes_in file in
      let all : after ≡ slices_after passes (laid_out rs) before =
      read.after_is ∙ ap (λ (v : Verdict). slices_after v (laid_out rs) before) taken.0 in
      let cut : (m : ℕ) (l rest : List ℕ) → m ≡ length l → take m (l ++ rest) ≡ l = λ m l rest e. take_at l rest m (sym e) in
      let a : take n after.nets ≡ numbers_of rs = ap (λ (o : Slices). take n o.nets) all ∙ cut n (numbers_of rs) _ nets_are in
      let b : take n after.counts ≡ counts_of rs = ap (λ (o : Slices). take n o.counts) all ∙ cut n (counts_of rs) _ (nets_are ∙ sym (counts_length rs)) in
      let c : take p after.xs ≡ xs_of rs = ap (λ (o : Slices). take p o.xs) all ∙ cut p (xs_of rs) _ points_are in
      let d : take p after.ys ≡ ys_of rs = ap (λ (o : Slices). take p o.ys) all ∙ cut p (ys_of rs) _ (points_are ∙ all_length (λ (q : Point). q.x) (λ (q : Point). q.y) rs) in
      rw (a, b, c, d)

  -- then they are written, and the slice holds the bytes that were read; a file's entries are bytes
  pub read_then_written : ((k : ℕ) → get_or file k 0 < 256) → {lent left : List ℕ} {r : Result ℕ WriteRefusal} → length file ≤ length lent
      → RoutesWritten routes_read lent (handed_write r) left → (r ≡ Ok (records file)) × (left ≡ laid file lent)
  unfolding write_rows write_row is_lacking
  read_then_written bytes {lent} {left} {r} room wrote =
      let rs : List Route = routes_in file in
      let back : file_for routes_read ≡ file = ap file_for read_are ∙ ap file_of (laid_again rs) ∙ file_again file read_passes bytes in
      let clean : file_rows (file_for routes_read) ≡ passes = rw back read_passes in
      let same : is_lacking routes_read (length lent) ≡ is_lacking (laid_out rs) (length lent) = ap (λ (o : Slices). is_lacking o (length lent)) read_are in
      let files : file_for (laid_out rs) ≡ file = ap file_of (laid_again rs) ∙ file_again file read_passes bytes in
      let counted : ltb (length (counts_of rs)) (length (numbers_of rs)) ≡ false = le-ltb (length (counts_of rs)) (length (numbers_of rs)) (omega (arith, counts_length rs)) in
      let fits : ltb (length lent) (length (file_for (laid_out rs))) ≡ false = rw files (le-ltb (length lent) (length file) room) in
      let points : ℕ = points_before (counts_of rs) (length (numbers_of rs)) in
      let xs : ltb (length (xs_of rs)) points ≡ false = le-ltb (length (xs_of rs)) points (omega (arith, points_all (λ (q : Point). q.x) rs)) in
      let ys : ltb (length (ys_of rs)) points ≡ false = le-ltb (length (ys_of rs)) points (omega (arith, points_all (λ (q : Point). q.y) rs)) in
      let enough : is_lacking routes_read (length lent) ≡ false = same ∙ rw (counted, fits, xs, ys) in
      let rows : write_rows routes_read (length lent) ≡ passes = rw (clean, enough) in
      let expected : RoutesWritten routes_read lent (handed_write (Ok (records file))) (laid file lent) = record {
        row_is = rw (rows, back);
        after_is = ap₂ (λ (v : Verdict) (f : List ℕ). file_after v f lent) (sym rows) (sym back);
      } in
      written_determined routes_read lent wrote expected
