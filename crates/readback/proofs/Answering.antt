-- What the reader answers, and what the slices hold then. Assumes nothing.
use Prim.Native.Nat.{ℕ}
use mathlib.Core.Path.{◌≡◌, sym, ap, ◌∙◌}
use mathlib.Core.Bool.{Bool, true, false, ◌||◌}
use mathlib.Core.List.{List}
use lib.Dec.{ltb}
use lib.ListN.{length}
use borrow.Author.Tests.{ltb-false}
use Rattle.std.specs.Prelude.{Ok, Err}
use Rattle.laws.proofs.Tests.{or_neither}
use Rattle.board.specs.Handed.{Verdict, passes}
use Rattle.records.specs.Records.{records}
use Rattle.tracks.specs.declared.RouteRefusal.{RouteRefusal}
use Rattle.tracks.specs.declared.RouteRefusal.TheVariants as route
use Rattle.tracks.specs.declared.ReadRefusal.TheVariants.{Routes, Short}
use Rattle.tracks.specs.Tracks.{Point, routes_in}
use Rattle.tracks.specs.Faults.{file_rows, refusal_row}
use Rattle.tracks.specs.Layout.{Slices, slices, numbers_of, counts_of, xs_of, ys_of, laid_out}
use Rattle.tracks.specs.Answers.{handed_read, is_short, read_rows, read_row, slices_after, RoutesRead}
use Rattle.tracks.proofs.Laying.{counts_length, all_length}
use Rattle.tracks.proofs.Counted.{nets_counted, points_counted}
use Rattle.tracks.proofs.Theorems.{all_records}
use Rattle.scan.specs.declared.Progress.{Progress}
use Rattle.scan.specs.Inner.{progress}
use Rattle.gather.specs.Inner.{Room, Gathered}

-- ---- the file is refused

pub read_refused : (file : List ℕ) (lent : Slices) (why : RouteRefusal) → file_rows file ≡ refusal_row why
    → RoutesRead file lent (handed_read (Err (Routes why))) lent
unfolding read_rows read_row
read_refused file lent route.Uneven e = record { row_is = rw e; after_is = rw e }
read_refused file lent (route.Unknown i) e = record { row_is = rw e; after_is = rw e }
read_refused file lent (route.Unused i k) e = record { row_is = rw e; after_is = rw e }
read_refused file lent (route.Order i) e = record { row_is = rw e; after_is = rw e }

-- ---- the file passes

module _ (file : List ℕ) {p : Progress} (known : (file_rows file ≡ passes) × (p ≡ progress file (records file))) where
  nets_are : p.nets ≡ length (numbers_of (routes_in file))
  unfolding progress
  nets_are = ap (λ (q : Progress). q.nets) known.1 ∙ sym (nets_counted file (all_records file known.0))

  points_are : p.points ≡ length (xs_of (routes_in file))
  unfolding progress
  points_are = ap (λ (q : Progress). q.points) known.1 ∙ sym (points_counted (λ (a : Point). a.x) file)

  module _ (lent : Slices) where
    -- the code's test
    abbrev short : Bool
    short =
        (ltb (length lent.nets) p.nets || ltb (length lent.counts) p.nets)
        || (ltb (length lent.xs) p.points || ltb (length lent.ys) p.points)

    pub short_is : short ≡ is_short (laid_out (routes_in file)) lent
    unfolding is_short
    short_is =
        let c : length (counts_of (routes_in file)) ≡ p.nets = counts_length (routes_in file) ∙ sym nets_are in
        let y : length (ys_of (routes_in file)) ≡ p.points =
        all_length (λ (a : Point). a.y) (λ (a : Point). a.x) (routes_in file) ∙ sym points_are in
        rw (c, y, sym nets_are, sym points_are)

    pub read_short : is_short (laid_out (routes_in file)) lent ≡ true → RoutesRead file lent (handed_read (Err Short)) lent
    unfolding read_rows read_row
    read_short e = record { row_is = rw (known.0, e); after_is = rw (known.0, e) }

    module _ (e : is_short (laid_out (routes_in file)) lent ≡ false) where
      pub read_room : Room file lent p.nets p.points
      read_room =
          let (a, b) = or_neither (ltb (length lent.nets) p.nets || ltb (length lent.counts) p.nets) _ (short_is ∙ e) in
          let (n, c) = or_neither (ltb (length lent.nets) p.nets) (ltb (length lent.counts) p.nets) a in
          let (x, y) = or_neither (ltb (length lent.xs) p.points) (ltb (length lent.ys) p.points) b in
          record {
            count_is = nets_are;
            points_are = points_are;
            nets = ltb-false (length lent.nets) p.nets n;
            counts = ltb-false (length lent.counts) p.nets c;
            xs = ltb-false (length lent.xs) p.points x;
            ys = ltb-false (length lent.ys) p.points y;
          }

      pub read_done : {nets counts xs ys : List ℕ} → Gathered file lent (slices nets counts xs ys)
          → RoutesRead file lent (handed_read (Ok (record { nets = p.nets; points = p.points }))) (slices nets counts xs ys)
      unfolding read_rows read_row
      read_done g =
          let rows : read_rows file lent ≡ passes = rw (known.0, e) in
          record {
            row_is = rw (known.0, e, nets_are, points_are);
            after_is = g ∙ ap (λ (v : Verdict). slices_after v (laid_out (routes_in file)) lent) (sym rows);
          }
