-- What the writer answers, and what the slice holds then. Assumes nothing.
use Prim.Native.Nat.{ℕ, ◌*◌}
use mathlib.Core.Path.{◌≡◌, sym, ap, ◌∙◌}
use mathlib.Core.Bool.{Bool, true, false, ◌||◌}
use mathlib.Core.List.{List}
use native.Mathlib.Omega.{arith}
use lib.Dec.{ltb}
use lib.ListN.{length}
use borrow.Author.Tests.{ltb-false}
use Rattle.std.specs.Prelude.{Ok, Err}
use Rattle.laws.proofs.Tests.{or_neither}
use Rattle.board.specs.Handed.{Verdict, passes}
use Rattle.records.specs.Records.{records}
use Rattle.tracks.specs.declared.WriteRefusal.{WriteRefusal}
use Rattle.tracks.specs.declared.WriteRefusal.TheVariants.{Order, Short}
use Rattle.tracks.specs.Faults.{file_rows}
use Rattle.tracks.specs.Layout.{Slices}
use Rattle.tracks.specs.Answers.{laid, write_refusal_row, handed_write, file_for, is_lacking, write_rows, write_row, file_after, RoutesWritten}
use Rattle.tally.specs.Inner.{Right}
use Rattle.laying.specs.Inner.{Fitting}

-- ---- it is refused

pub write_refused : (s : Slices) (before : List ℕ) (why : WriteRefusal) → file_rows (file_for s) ≡ write_refusal_row why
    → RoutesWritten s before (handed_write (Err why)) before
unfolding write_rows write_row
write_refused s before (Order i) e = record { row_is = rw e; after_is = rw e }
write_refused s before Short e = record { row_is = rw e; after_is = rw e }

-- ---- it is right

module _ (s : Slices) {n p : ℕ} (r : Right s n p) (before : List ℕ) where
  -- the code's test
  abbrev short : Bool
  short = (ltb (length s.counts) (length s.nets) || ltb (length before) (n * 8)) || (ltb (length s.xs) p || ltb (length s.ys) p)

  pub short_is : short ≡ is_lacking s (length before)
  unfolding is_lacking
  short_is = rw (r.long, sym r.points_are)

  pub write_short : is_lacking s (length before) ≡ true → RoutesWritten s before (handed_write (Err Short)) before
  unfolding write_rows write_row
  write_short e = record { row_is = rw (r.passed, e); after_is = rw (r.passed, e) }

  module _ (e : is_lacking s (length before) ≡ false) where
    pub write_fitting : Fitting s (length before)
    write_fitting =
        let (a, b) = or_neither (ltb (length s.counts) (length s.nets) || ltb (length before) (n * 8)) _ (short_is ∙ e) in
        let (c, f) = or_neither (ltb (length s.counts) (length s.nets)) (ltb (length before) (n * 8)) a in
        let (x, y) = or_neither (ltb (length s.xs) p) (ltb (length s.ys) p) b in
        let room = ltb-false (length before) (n * 8) f in
        record {
          counted = ltb-false (length s.counts) (length s.nets) c;
          xs = rw (sym r.points_are) (ltb-false (length s.xs) p x);
          ys = rw (sym r.points_are) (ltb-false (length s.ys) p y);
          room = omega (arith, r.long);
          few = omega (arith, r.long, r.few);
        }

    pub write_done : {after : List ℕ} → after ≡ laid (file_for s) before → RoutesWritten s before (handed_write (Ok n)) after
    unfolding write_rows write_row
    write_done g =
        let rows : write_rows s (length before) ≡ passes = rw (r.passed, e) in
        let many : records (file_for s) ≡ n = omega (arith, r.long) in
        record {
          row_is = rw (r.passed, e, many);
          after_is = g ∙ ap (λ (v : Verdict). file_after v (file_for s) before) (sym rows);
        }
