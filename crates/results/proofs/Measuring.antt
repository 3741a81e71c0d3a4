-- The lengths that are read from the records and added up, and what is written of them. Assumes nothing.
use Prim.Native.Nat.{ℕ, zero, suc, ◌+◌, ◌-◌, ◌≤◌, ◌<◌}
use mathlib.Core.Path.{◌≡◌, refl, sym, ap, ap₂, ◌∙◌}
use mathlib.Core.List.{List, []}
use native.Mathlib.Nat.{lt_of_le_of_lt}
use native.Mathlib.Numerals.{add-one}
use native.Mathlib.Omega.{arith}
use lib.Dec.{lit<}
use lib.ListN.{length, set}
use borrow.Author.Tests.{le-ltb}
use Rattle.std.specs.Prelude.{true, Result, Ok, Err, is_ok}
use Rattle.board.specs.Limits.{largest_side}
use Rattle.board.specs.Handed.{Handed, answer, judged, refusal_row}
use Rattle.board.specs.declared.Refusal.{Refusal}
use Rattle.board.specs.declared.Refusal.TheVariants.{Side, Count, Byte, First, Second}
use Rattle.spans.specs.Legs.{vertex_rows}
use Rattle.length.specs.declared.Length.{Length}
use Rattle.length.specs.Answers.{Long, no_length, handed_length, length_between_row}
use Rattle.problem.proofs.Sizes.{leg_longest}
use Rattle.tracks.specs.Tracks.{Point, routes_in}
use Rattle.bureau.specs.declared.Points.{Points}
use Rattle.bureau.specs.Paths.{point_at, total, leg_units, units_along}
use Rattle.bureau.specs.Nets.{points_for}
use Rattle.bureau.specs.Inner.{record_points, PointsOf, PointsSmall, Measured}

-- ---- a leg

-- a refusal has a number above 0
refuses : (why : Refusal) → (judged no_length (refusal_row why)).number ≡ 0 → ⊥
refuses Side e = omega (arith, e)
refuses Count e = omega (arith, e)
refuses (Byte at) e = omega (arith, e)
refuses First e = omega (arith, e)
refuses Second e = omega (arith, e)

-- between vertices that some board has there is a length, and it is small
module _ (from to : Point) (a : (from.x ≤ largest_side) × (from.y ≤ largest_side)) (b : (to.x ≤ largest_side) × (to.y ≤ largest_side)) where
  between_is : length_between_row from.x from.y to.x to.y ≡ answer (record { units = leg_units from to })
  unfolding length_between_row vertex_rows
  between_is =
      rw (le-ltb largest_side from.x a.0, le-ltb largest_side from.y a.1, le-ltb largest_side to.x b.0, le-ltb largest_side to.y b.1)

  leg_small : leg_units from to < 134217728
  leg_small = lt_of_le_of_lt (leg_longest largest_side largest_side from.x from.y to.x to.y a.0 a.1 b.0 b.1) (lit< tt)

  pub length_there : (r : Result Length Refusal) → handed_length r ≡ length_between_row from.x from.y to.x to.y → is_ok r ≡ true
  length_there (Ok l) e = refl
  length_there (Err why) e = absurd (refuses why (ap (λ (h : Handed Long). h.number) (e ∙ between_is)))

  pub units_told : {r : Result Length Refusal} {l : Length} → handed_length r ≡ length_between_row from.x from.y to.x to.y → r ≡ Ok l
      → (l.units ≡ leg_units from to) × (l.units < 134217728)
  units_told {r} {l} e f =
      let g : l.units ≡ leg_units from to = ap (λ (h : Handed Long). h.values.units) (sym (ap handed_length f) ∙ e ∙ between_is) in
      (g, omega (arith, leg_small))

-- a point that was read has coordinates that some board has
pub point_small : {n : ℕ} {p : ℕ → Point} (k : ℕ) {q : Point} → PointsSmall n p → k < n → q ≡ p k → (q.x ≤ largest_side) × (q.y ≤ largest_side)
point_small k P l e = rw e (P.small k l)

pub leg_told : {from to p q : Point} {u : ℕ} → from ≡ p → to ≡ q → u ≡ leg_units from to → u ≡ leg_units p q
leg_told e f h = h ∙ ap₂ leg_units e f

-- ---- the sum over the legs

pub total_none : (f : ℕ → ℕ) → 0 ≡ total 0 f
unfolding total
total_none f = refl

pub total_more : (f : ℕ → ℕ) (k : ℕ) {s u : ℕ} → s ≡ total k f → u ≡ f k → s + u ≡ total (k + 1) f
unfolding total
total_more f k e g = rw (add-one k, e, g)

pub total_done : (f : ℕ → ℕ) {k n s : ℕ} → s ≡ total k f → k ≡ n → s ≡ total n f
total_done f e g = e ∙ ap (λ (m : ℕ). total m f) g

total_same : (f g : ℕ → ℕ) (n : ℕ) → ((i : ℕ) → i < n → f i ≡ g i) → total n f ≡ total n g
unfolding total
total_same f g zero h = refl
total_same f g (suc n) h = ap₂ ◌+◌ (total_same f g n (λ i l. h i (omega arith))) (h n (omega arith))

-- the length depends on the n points alone
pub units_same : (n : ℕ) (p q : ℕ → Point) → ((k : ℕ) → k < n → p k ≡ q k) → units_along n p ≡ units_along n q
unfolding units_along
units_same n p q h = total_same _ _ (n - 1) (λ k l. ap₂ leg_units (h k (omega arith)) (h (k + 1) (omega arith)))

-- ---- what is written

module _ {file : List ℕ} {number : ℕ} {points : Points} (P : PointsOf file number points) where
  pub small_read : PointsSmall (length (points_for (routes_in file) number)) (point_at (points_for (routes_in file) number))
      → PointsSmall points.count (record_points file points.first)
  small_read S = record { small = λ k l. rw (P.point_is k l) at (S.small k (omega (arith, P.length_is))) }

  pub measured : (index : ℕ) (units leg_counts : List ℕ) {u : ℕ} → u ≡ units_along points.count (record_points file points.first)
      → Measured (points_for (routes_in file) number) index units leg_counts (set units index u) (set leg_counts index (points.count - 1))
  measured index units leg_counts f =
      let ps = points_for (routes_in file) number in
      record {
        units_are = ap (λ (v : ℕ). set units index v)
            (f ∙ sym (units_same points.count (point_at ps) (record_points file points.first) P.point_is)
            ∙ ap (λ (m : ℕ). units_along m (point_at ps)) (sym P.length_is));
        counts_are = ap (λ (m : ℕ). set leg_counts index (m - 1)) (sym P.length_is);
      }

pub measured_none : {ps : List Point} (index : ℕ) (units leg_counts : List ℕ) → ps ≡ []
    → Measured ps index units leg_counts (set units index 0) (set leg_counts index 0)
unfolding units_along total
measured_none index units leg_counts e = record { units_are = rw e; counts_are = rw e }
