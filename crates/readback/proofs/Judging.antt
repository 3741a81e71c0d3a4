-- The records in order, and the whole file. Assumes nothing.
use Prim.Native.Nat.{ℕ, suc, ◌+◌, ◌%◌, ◌<◌}
use mathlib.Core.Path.{◌≡◌, refl, ◌∙◌}
use mathlib.Core.List.{List}
use native.Mathlib.Numerals.{add-one}
use lib.ListN.{length}
use borrow.Author.Tests.{eq-eqb, ne_eqb}
use Rattle.std.specs.Prelude.{Option, None}
use Rattle.laws.specs.Below.{how_many}
use Rattle.board.specs.Handed.{Verdict, passes, refused}
use Rattle.records.specs.Records.{record_bytes, records, in_order}
use Rattle.records.proofs.InOrder.{first_refused}
use Rattle.tracks.specs.declared.RouteRefusal.{RouteRefusal}
use Rattle.tracks.specs.declared.RouteRefusal.TheVariants as route
use Rattle.tracks.specs.Faults.{record_rows, file_rows, refusal_row}
use Rattle.scan.specs.declared.Progress.{Progress}
use Rattle.scan.specs.Inner.{progress}

-- a refusal names a row
pub refusal_listed : (why : RouteRefusal) {v : Verdict} → v ≡ refusal_row why → (rows : ℕ → Verdict) (i : ℕ) → in_order i rows ≡ passes → rows i ≡ v
    → (n : ℕ) → i < n → in_order n rows ≡ refusal_row why
refusal_listed route.Uneven e rows i b f n l = first_refused rows i b (f ∙ e) n l
refusal_listed (route.Unknown k) e rows i b f n l = first_refused rows i b (f ∙ e) n l
refusal_listed (route.Unused k m) e rows i b f n l = first_refused rows i b (f ∙ e) n l
refusal_listed (route.Order k) e rows i b f n l = first_refused rows i b (f ∙ e) n l

module _ (file : List ℕ) where
  pub uneven : (length file % record_bytes ≡ 0 → ⊥) → file_rows file ≡ refused 11 0 0
  unfolding file_rows
  uneven n = rw (ne_eqb (length file % record_bytes) 0 n)

  module _ (whole : length file % record_bytes ≡ 0) where
    by_records : file_rows file ≡ in_order (records file) (record_rows file)
    unfolding file_rows
    by_records = rw (eq-eqb (length file % record_bytes) 0 whole)

    pub stops : (i : ℕ) → i < records file → in_order i (record_rows file) ≡ passes → (why : RouteRefusal) → record_rows file i ≡ refusal_row why
        → file_rows file ≡ refusal_row why
    stops i l before why e = by_records ∙ refusal_listed why refl (record_rows file) i before e (records file) l

    pub ends : in_order (records file) (record_rows file) ≡ passes → file_rows file ≡ passes
    ends all = by_records ∙ all

-- before the first record
pub progress_none : (file : List ℕ) {last nets points : ℕ} {next : Option ℕ} → last ≡ 0 → next ≡ None → nets ≡ 0 → points ≡ 0
    → record { last = last; next = next; nets = nets; points = points } ≡ progress file 0
unfolding progress how_many
progress_none file e f g h = rw (e, f, g, h)

-- one record further
pub progress_next : (file : List ℕ) (i : ℕ) {p : Progress} → p ≡ progress file (suc i) → p ≡ progress file (i + 1)
progress_next file i e = rw (add-one i) e
