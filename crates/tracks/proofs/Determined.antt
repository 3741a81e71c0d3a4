-- The contracts of the reader and of the writer admit one result each, and one content of the lent slices. Assumes nothing.
use Prim.Native.Nat.{ℕ}
use mathlib.Core.Path.{◌≡◌, refl, sym, ◌∙◌}
use mathlib.Core.Bool.{cond}
use mathlib.Core.List.{List}
use lib.Dec.{eqb}
use Rattle.std.specs.Prelude.{Result, Ok, Err}
use Rattle.laws.proofs.Determined.{undone}
use Rattle.board.specs.Handed.{Handed}
use Rattle.tracks.specs.declared.RouteRefusal.{RouteRefusal}
use Rattle.tracks.specs.declared.RouteRefusal.TheVariants.{Uneven, Unknown, Unused, Order}
use Rattle.tracks.specs.declared.Sizes as code
use Rattle.tracks.specs.declared.ReadRefusal.{ReadRefusal}
use Rattle.tracks.specs.declared.ReadRefusal.TheVariants as reading
use Rattle.tracks.specs.declared.WriteRefusal.{WriteRefusal}
use Rattle.tracks.specs.declared.WriteRefusal.TheVariants as writing
use Rattle.tracks.specs.Layout.{Slices}
use Rattle.tracks.specs.Answers.{Sizes, handed_read, RoutesRead, Records, handed_write, RoutesWritten}

-- the refusal with this number and these places
refusal_of : (number place second : ℕ) → RouteRefusal
refusal_of number place second =
    cond (eqb number 11) Uneven (cond (eqb number 13) (Unknown place) (cond (eqb number 23) (Unused place second) (Order place)))

-- the answer that hands this back
read_of : Handed Sizes → Result code.Sizes ReadRefusal
read_of h =
    cond (eqb h.number 0) (Ok (record { nets = h.values.nets; points = h.values.points }))
    (cond (eqb h.number 21) (Err reading.Short) (Err (reading.Routes (refusal_of h.number h.place h.second))))

written_of : Handed Records → Result ℕ WriteRefusal
written_of h = cond (eqb h.number 0) (Ok h.values.records) (cond (eqb h.number 21) (Err writing.Short) (Err (writing.Order h.place)))

read_back : (r : Result code.Sizes ReadRefusal) → read_of (handed_read r) ≡ r
unfolding read_of refusal_of
read_back (Ok sizes) = refl
read_back (Err (reading.Routes Uneven)) = refl
read_back (Err (reading.Routes (Unknown i))) = refl
read_back (Err (reading.Routes (Unused i k))) = refl
read_back (Err (reading.Routes (Order i))) = refl
read_back (Err reading.Short) = refl

written_back : (r : Result ℕ WriteRefusal) → written_of (handed_write r) ≡ r
unfolding written_of
written_back (Ok n) = refl
written_back (Err (writing.Order i)) = refl
written_back (Err writing.Short) = refl

-- of `read_routes`: the answer and what the slices hold
pub read_determined : (file : List ℕ) (before : Slices) {r s : Result code.Sizes ReadRefusal} {after after' : Slices} → RoutesRead file before (handed_read r) after
    → RoutesRead file before (handed_read s) after' → (r ≡ s) × (after ≡ after')
read_determined file before p q = (undone handed_read read_of read_back p.row_is q.row_is, p.after_is ∙ sym q.after_is)

-- of `write_routes`
pub written_determined : (s : Slices) (before : List ℕ) {r t : Result ℕ WriteRefusal} {after after' : List ℕ} → RoutesWritten s before (handed_write r) after
    → RoutesWritten s before (handed_write t) after' → (r ≡ t) × (after ≡ after')
written_determined s before p q = (undone handed_write written_of written_back p.row_is q.row_is, p.after_is ∙ sym q.after_is)
