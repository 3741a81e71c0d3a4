-- How many nets and points a file that passes tells of, counted record by record. Assumes nothing.
use Prim.Native.Nat.{ℕ, zero, suc, ◌+◌, ◌<◌}
use mathlib.Core.Path.{◌≡◌, refl, sym, ap, ◌∙◌}
use mathlib.Core.Logic.{⊎_elim}
use mathlib.Core.Bool.{Bool, true, false}
use mathlib.Core.List.{List, [], ◌∷◌}
use native.Mathlib.Omega.{arith}
use lib.Dec.{eqb}
use lib.ListN.{length}
use borrow.Author.Tests.{eq-eqb, ne_eqb, eqb-false}
use Rattle.laws.specs.Below.{as_number, how_many}
use Rattle.laws.proofs.Tests.{bool_cases}
use Rattle.laws.proofs.Below.{many_same}
use Rattle.board.specs.Handed.{passes}
use Rattle.records.specs.Records.{records, in_order}
use Rattle.tracks.specs.Tracks.{Point, Route, is_point, net_of, point_of, with_point, with_record, routes_from, routes_in}
use Rattle.tracks.specs.Faults.{record_rows}
use Rattle.tracks.specs.Layout.{numbers_of, each, all}
use Rattle.tracks.specs.Inner.{begins}
use Rattle.tracks.proofs.Before.{passed, clean_net}
use Rattle.tracks.proofs.Trips as trips
use Rattle.tracks.proofs.Trips.{After, after, Led, some_leads}

-- a count from a number on, the first by itself
count_from : (t : ℕ → Bool) (m : ℕ) → how_many (suc m) t ≡ as_number (t 0) + how_many m (λ (j : ℕ). t (suc j))
unfolding how_many
count_from t zero = omega arith
count_from t (suc m) = omega (arith, count_from t m)

-- ---- points

module _ (get : Point → ℕ) where
  point_more : (net : ℕ) (p : Point) (rs : List Route) → length (all get (with_point net p rs)) ≡ suc (length (all get rs))
  unfolding with_point all each
  point_more net p [] = refl
  point_more net p (r ∷ rs) =
      ⊎_elim (λ (s : eqb net r.net ≡ true). rw s) (λ (s : eqb net r.net ≡ false). rw s) (bool_cases (eqb net r.net))

  record_more : (file : List ℕ) (i : ℕ) (rs : List Route)
      → length (all get (with_record file i rs)) ≡ as_number (is_point file i) + length (all get rs)
  unfolding with_record all each
  record_more file i rs =
      ⊎_elim
      (λ (p : is_point file i ≡ true). rw p (point_more (net_of file i) (point_of file i) rs ∙ omega arith))
      (λ (p : is_point file i ≡ false). rw p (omega arith))
      (bool_cases (is_point file i))

  points_from_lem : (file : List ℕ) (m i : ℕ) → length (all get (routes_from file m i)) ≡ how_many m (λ (j : ℕ). is_point file (i + j))
  unfolding routes_from all how_many
  points_from_lem file zero i = refl
  points_from_lem file (suc m) i =
      let t : ℕ → Bool = λ j. is_point file (i + j) in
      let z : as_number (t 0) ≡ as_number (is_point file i) = let e : i + 0 ≡ i = omega arith in ap (λ (k : ℕ). as_number (is_point file k)) e in
      let rest : how_many m (λ (j : ℕ). is_point file (suc i + j)) ≡ how_many m (λ (j : ℕ). t (suc j)) =
      many_same (λ (j : ℕ). is_point file (suc i + j)) (λ (j : ℕ). t (suc j)) m
      (λ (j : ℕ) (l : j < m). let e : suc i + j ≡ i + suc j = omega arith in ap (λ (k : ℕ). is_point file k) e) in
      record_more file i (routes_from file m (suc i))
      ∙ omega (arith, points_from_lem file m (suc i), rest, count_from t m, z)

  pub points_counted : (file : List ℕ) → length (all get (routes_in file)) ≡ how_many (records file) (is_point file)
  points_counted file =
      points_from_lem file (records file) 0
      ∙ many_same (λ (j : ℕ). is_point file (0 + j)) (is_point file) (records file)
      (λ (j : ℕ) (l : j < records file). let e : 0 + j ≡ j = omega arith in ap (λ (k : ℕ). is_point file k) e)

-- ---- nets

module _ (file : List ℕ) (all_pass : in_order (records file) (record_rows file) ≡ passes) where
  -- a record before those behind it
  one : (m i : ℕ) → After file i → length (numbers_of (routes_from file (suc (suc m)) i))
      ≡ as_number (begins file (suc i)) + length (numbers_of (routes_from file (suc m) (suc i)))
  unfolding routes_from with_record with_point numbers_of
  one m i (trips.goes_on s p q u) =
      let h = some_leads file m (suc i) in
      let e : begins file (suc i) ≡ false = rw (eq-eqb (net_of file (suc i)) (net_of file i) (sym s)) in
      let f = eq-eqb (net_of file i) (net_of file (suc i)) s in
      rw (e, p, h.led, f) (omega arith)
  one m i (trips.begins s u) =
      let h = some_leads file m (suc i) in
      let e : begins file (suc i) ≡ true = rw (ne_eqb (net_of file (suc i)) (net_of file i) (λ q. eqb-false (net_of file i) (net_of file (suc i)) s (sym q))) in
      ⊎_elim
      (λ (p : is_point file i ≡ true). rw (e, p, h.led, s) (omega arith))
      (λ (p : is_point file i ≡ false). rw (e, p) (omega arith))
      (bool_cases (is_point file i))

  -- how many there are from record i on, one of which begins there or before
  nets_from : (m i : ℕ) → i + suc m ≡ records file
      → length (numbers_of (routes_from file (suc m) i)) ≡ suc (how_many m (λ (j : ℕ). begins file (suc i + j)))
  unfolding routes_from with_record with_point numbers_of how_many
  nets_from zero i e =
      ⊎_elim (λ (p : is_point file i ≡ true). rw p) (λ (p : is_point file i ≡ false). rw p) (bool_cases (is_point file i))
  nets_from (suc m) i e =
      let t : ℕ → Bool = λ j. begins file (suc i + j) in
      let z : as_number (t 0) ≡ as_number (begins file (suc i)) =
      let e : suc i + 0 ≡ suc i = omega arith in ap (λ (k : ℕ). as_number (begins file k)) e in
      let rest : how_many m (λ (j : ℕ). begins file (suc (suc i) + j)) ≡ how_many m (λ (j : ℕ). t (suc j)) =
      many_same (λ (j : ℕ). begins file (suc (suc i) + j)) (λ (j : ℕ). t (suc j)) m
      (λ (j : ℕ) (l : j < m). let e : suc (suc i) + j ≡ suc i + suc j = omega arith in ap (λ (k : ℕ). begins file k) e) in
      one m i (after file all_pass i (omega arith))
      ∙ omega (arith, nets_from m (suc i) (omega arith), rest, count_from t m, z)

  -- record 0 begins a net
  first_begins : 0 < records file → begins file 0 ≡ true
  first_begins l =
      let n = clean_net file 0 (passed file (records file) all_pass 0 l).right in
      rw (ne_eqb (net_of file 0) 0 (λ z. omega arith))

  nets_of_lem : (n : ℕ) → n ≡ records file → length (numbers_of (routes_from file n 0)) ≡ how_many n (begins file)
  unfolding routes_from numbers_of how_many
  nets_of_lem zero e = refl
  nets_of_lem (suc m) e =
      let rest : how_many m (λ (j : ℕ). begins file (1 + j)) ≡ how_many m (λ (j : ℕ). begins file (suc j)) =
      many_same (λ (j : ℕ). begins file (1 + j)) (λ (j : ℕ). begins file (suc j)) m
      (λ (j : ℕ) (l : j < m). let e : 1 + j ≡ suc j = omega arith in ap (λ (k : ℕ). begins file k) e) in
      nets_from m 0 (omega arith) ∙ omega (arith, rest, count_from (begins file) m, ap as_number (first_begins (omega arith)))

  pub nets_counted : length (numbers_of (routes_in file)) ≡ how_many (records file) (begins file)
  nets_counted = nets_of_lem (records file) refl
