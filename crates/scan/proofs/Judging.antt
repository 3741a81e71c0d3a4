-- The judgement of one record, row by row. Assumes nothing.
use Prim.Native.Nat.{ℕ, suc, ◌+◌, ◌≤◌, ◌<◌}
use mathlib.Core.Path.{◌≡◌, refl, sym, ap, ◌∙◌}
use mathlib.Core.Logic.{⊎_elim}
use mathlib.Core.Bool.{Bool, true, false, not, ◌||◌, cond}
use mathlib.Core.List.{List}
use native.Mathlib.Omega.{arith}
use lib.Dec.{ltb, eqb}
use borrow.Author.Tests.{lt-ltb, le-ltb, ne_eqb}
use Rattle.std.specs.Prelude.{Option, Some, None, MatchOption}
use Rattle.std.proofs.lemmas.Bool.Decides.{nat_tests}
use Rattle.laws.specs.Below.{every, as_number, how_many, first_where}
use Rattle.laws.proofs.Tests.{order}
use Rattle.laws.proofs.Below.{every_at, many_le, none_below, first_here}
use Rattle.board.specs.Handed.{passes, refused, row}
use Rattle.records.specs.Records.{record_bytes, byte, is_in, is_stray_byte, in_order}
use Rattle.tracks.specs.declared.Kind.{Kind}
use Rattle.tracks.specs.declared.Kind.TheVariants.{Point, NoPath}
use Rattle.tracks.specs.Kind.{code_of}
use Rattle.tracks.specs.Tracks.{is_point, net_of, place_of}
use Rattle.tracks.specs.Faults.{is_unknown, used_by, is_wrong, record_rows}
use Rattle.tracks.specs.Inner.{next_place, wanted, wrong_after, begins}
use Rattle.tracks.proofs.Before.{wrong_is}
use Rattle.scan.specs.declared.Progress.{Progress}
use Rattle.scan.specs.Inner.{first_unused, stray_place, place_given, progress, after_record}

-- ---- the bytes that a kind uses: those up to its first unused one, and none from there on

pub used_below : (kind : Kind) (k : ℕ) → k < first_unused kind → is_in k (used_by (code_of kind)) ≡ true
unfolding used_by every
used_below Point k l = every_at (λ (n : ℕ). is_in n (used_by 4)) 6 refl k l
used_below NoPath k l = every_at (λ (n : ℕ). is_in n (used_by 5)) 2 refl k l

pub unused_past : (kind : Kind) (k : ℕ) → first_unused kind ≤ k → is_in k (used_by (code_of kind)) ≡ false
unfolding used_by
unused_past Point k l = rw (
  ne_eqb k 0 (λ e. omega arith),
  ne_eqb k 1 (λ e. omega arith),
  ne_eqb k 2 (λ e. omega arith),
  ne_eqb k 3 (λ e. omega arith),
  ne_eqb k 4 (λ e. omega arith),
  ne_eqb k 5 (λ e. omega arith),
)
unused_past NoPath k l = rw (ne_eqb k 0 (λ e. omega arith), ne_eqb k 1 (λ e. omega arith))

-- ---- the lowest stray byte, looked for from the first unused one on

module _ (file : List ℕ) (i : ℕ) (kind : Kind) where
  abbrev stray : ℕ → Bool
  stray = is_stray_byte file (used_by (code_of kind)) i

  -- up to byte m none is stray if none of the unused ones is
  none_to : (m : ℕ) → ((k : ℕ) → first_unused kind ≤ k → k < m → byte file i k ≡ 0) → first_where m stray ≡ m
  none_to m h =
      none_below stray m
      (λ (k : ℕ) (l : k < m).
      ⊎_elim (λ (b : k < first_unused kind). rw (used_below kind k b))
      (λ (b : first_unused kind ≤ k). rw (unused_past kind k b, h k b l)) (order k (first_unused kind)))

  pub stray_found : {from : ℕ} → from ≡ first_unused kind → (r : Option ℕ)
      → MatchOption r ((k : ℕ) → from ≤ k → k < record_bytes → byte file i k ≡ 0)
      (λ at. (from ≤ at) × (at < record_bytes) × (byte file i at ≡ 0 → ⊥) × ((k : ℕ) → from ≤ k → k < at → byte file i k ≡ 0))
      → r ≡ stray_place file (used_by (code_of kind)) i
  stray_found f None h =
      let e = none_to record_bytes (λ k b l. h k (omega arith) l) in
      rw (le-ltb (first_where record_bytes stray) record_bytes (omega arith)) refl
  stray_found f (Some at) h =
      let here : stray at ≡ true = rw (unused_past kind at (omega (arith, h.0)), ne_eqb (byte file i at) 0 h.2) in
      let e = first_here stray at (none_to at (λ k b l. h.3 k (omega arith) l)) here record_bytes h.1 in
      rw (e, lt-ltb at record_bytes h.1) refl

-- a place that was told, and none
found : (k n : ℕ) {at : ℕ} → Some at ≡ cond (ltb k n) (Some k) None → (at ≡ k) × (ltb k n ≡ true)
found k n e = (grind (arith, nat_tests), grind (arith, nat_tests))

none_found : (k n : ℕ) → None ≡ cond (ltb k n) (Some k) None → ltb k n ≡ false
none_found k n e = grind (arith, nat_tests)

-- ---- row by row

pub unknown_row : (file : List ℕ) (i : ℕ) → (eqb (byte file i 0) 4 || eqb (byte file i 0) 5) ≡ false → record_rows file i ≡ refused 13 i 0
unfolding record_rows
unknown_row file i u = let e : is_unknown file i ≡ true = rw u in rw e

module _ (file : List ℕ) (i : ℕ) (kind : Kind) (t : code_of kind ≡ byte file i 0) where
  known_is : is_unknown file i ≡ false
  known_is = rw (sym t) (known kind)
    where
      known : (k : Kind) → not (eqb (code_of k) 4 || eqb (code_of k) 5) ≡ false
      known Point = refl
      known NoPath = refl

  pub unused_row_lem : {at : ℕ} → Some at ≡ stray_place file (used_by (code_of kind)) i → record_rows file i ≡ refused 23 i at
  unfolding record_rows
  unused_row_lem e =
      let (here, less) = found _ _ (rw t at e) in
      rw (known_is, less, here)

  module _ (tidy : None ≡ stray_place file (used_by (code_of kind)) i) where
    last_row : record_rows file i ≡ row (is_wrong file i) 22 i
    unfolding record_rows
    last_row = rw (known_is, none_found _ _ (rw t at tidy))

    module _ (before : in_order i (record_rows file) ≡ passes) {past : Progress} {net : ℕ} {place : Option ℕ} (q : past ≡ progress file i)
        (n : net ≡ net_of file i) (p : place ≡ place_given file i kind) where
      -- what is told of the record after those before it, whatever its place is where it has none
      abbrev Told : Bool → Type 0
      Told wrong = (m at : ℕ) → (point : Bool) → past.next ≡ wanted m → place ≡ cond point (Some at) None → wrong ≡ wrong_after past.last m net at point

      place_is : place ≡ cond (is_point file i) (Some (place_of file i)) None
      place_is = p ∙ rw (sym t) (by kind)
        where
          by : (k : Kind) → place_given file i k ≡ cond (eqb (code_of k) 4) (Some (place_of file i)) None
          by Point = refl
          by NoPath = refl

      judged : {wrong : Bool} → Told wrong → is_wrong file i ≡ wrong
      unfolding progress
      judged h =
          let e = h (next_place file i) (place_of file i) (is_point file i) (ap (λ (x : Progress). x.next) q) place_is in
          wrong_is file i before known_is ∙ sym (rw (q, n) at e)

      pub wrong_row : {wrong : Bool} → Told wrong → wrong ≡ true → record_rows file i ≡ refused 22 i 0
      wrong_row h w = last_row ∙ rw (judged h, w)

      pub right_row : {wrong : Bool} → Told wrong → wrong ≡ false → {r : Progress} → r ≡ after_record past net place
          → (record_rows file i ≡ passes) × (r ≡ progress file (suc i))
      unfolding progress how_many
      right_row h w e = (last_row ∙ rw (judged h, w), e ∙ rw (q, n, p, sym t) (by kind))
        where
          by : (k : Kind) → after_record (progress file i) (net_of file i) (place_given file i k) ≡ record {
            last = net_of file i;
            next = wanted (cond (eqb (code_of k) 4) (suc (place_of file i)) 0);
            nets = how_many (suc i) (begins file);
            points = how_many i (is_point file) + as_number (eqb (code_of k) 4);
          }
          by Point = refl
          by NoPath = refl

-- there are no more nets and points than records
module _ (file : List ℕ) (i : ℕ) {p : Progress} (e : p ≡ progress file i) where
  pub nets_few : p.nets ≤ i
  unfolding progress
  nets_few = rw e (many_le (begins file) i)

  pub points_few : p.points ≤ i
  unfolding progress
  points_few = rw e (many_le (is_point file) i)
