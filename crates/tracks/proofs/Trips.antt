-- Both ways back, of the definitions: the file of the routes in a file, and the routes in the file of routes. Assumes nothing.
use Prim.Native.Nat.{ℕ, zero, suc, ◌+◌, ◌*◌, ◌-◌, ◌%◌, ◌≤◌, ◌<◌}
use mathlib.Core.Path.{◌≡◌, refl, sym, ap, ap₂, subst, ◌∙◌}
use mathlib.Core.Logic.{◌⊎◌, inl, inr, ⊎_elim}
use mathlib.Core.Bool.{Bool, true, false, not, ◌&&◌, ◌||◌, true≢false}
use mathlib.Core.List.{List, [], ◌∷◌, ◌++◌}
use native.Mathlib.Omega.{arith}
use lib.Dec.{ltb, eqb}
use lib.ListN.{length, get_or, drop, drop_of_length-le, get_or-eq_default}
use borrow.Author.Tests.{eqb-true, eqb-false, eq-eqb, ne_eqb, not-false}
use Rattle.laws.proofs.Tests.{order, bool_cases, and_left, and_right, or_neither}
use Rattle.board.specs.Handed.{passes}
use Rattle.records.specs.Records.{record_bytes, records, byte, in_order}
use Rattle.records.proofs.InOrder.{none_yet}
use Rattle.tracks.specs.Tracks.{Point, Route, route, point_record, none_record, points_from, net_records, file_of}
use Rattle.tracks.specs.Tracks.{is_point, net_of, place_of, point_of, with_point, with_record, routes_from, routes_in}
use Rattle.tracks.specs.Faults.{record_rows}
use Rattle.tracks.specs.Inner.{next_place, wrong_after}
use Rattle.tracks.proofs.Before.{Clean, prefix, passed, wrong_is}
use Rattle.tracks.proofs.Bytes.{bytes_of, record_drop, point_bytes, none_bytes, byte_shift, records_shift}

-- ---- what the record after another one is known to be

-- it goes on with the net, as the next point; or it begins one, at place 0 if it is a point
pub data After (file : List ℕ) (i : ℕ) : Type 0 where
  goes_on : net_of file i ≡ net_of file (suc i) → is_point file i ≡ true → is_point file (suc i) ≡ true
      → place_of file (suc i) ≡ suc (place_of file i) → After file i
  begins : eqb (net_of file i) (net_of file (suc i)) ≡ false → (is_point file (suc i) ≡ true → place_of file (suc i) ≡ 0) → After file i

module _ (file : List ℕ) (all : in_order (records file) (record_rows file) ≡ passes) where
  ok : (i : ℕ) → i < records file → Clean file i
  ok i l = passed file (records file) all i l

  pub after : (i : ℕ) → suc i < records file → After file i
  unfolding wrong_after
  after i l =
      let c = ok (suc i) l in
      let d : suc i + (records file - suc i) ≡ records file = omega arith in
      let before = prefix (record_rows file) (suc i) (records file - suc i) (rw d all) in
      let net : ℕ = net_of file (suc i) in
      let point : Bool = is_point file (suc i) in
      let place : ℕ = place_of file (suc i) in
      let next : ℕ = next_place file (suc i) in
      let right = sym (wrong_is file (suc i) before c.known) ∙ c.right in
      ⊎_elim
      (λ (s : eqb net (net_of file i) ≡ true).
      let fine = not-false _ (rw s at (or_neither (eqb net 0 || ltb net (net_of file i)) _ right).1) in
      let later = and_right point (not (eqb next 0) && eqb place next) fine in
      let some = and_left (not (eqb next 0)) (eqb place next) later in
      let at = eqb-true place next (and_right (not (eqb next 0)) (eqb place next) later) in
      let same = eqb-true net (net_of file i) s in
      ⊎_elim
      (λ (p : is_point file i ≡ true).
      goes_on (sym same) p (and_left point (not (eqb next 0) && eqb place next) fine) (rw p at at))
      (λ (p : is_point file i ≡ false). absurd (true≢false (sym (rw p at some))))
      (bool_cases (is_point file i)))
      (λ (s : eqb net (net_of file i) ≡ false).
      let fine = rw s at (or_neither (eqb net 0 || ltb net (net_of file i)) _ right).1 in
      begins (ne_eqb (net_of file i) net (λ e. eqb-false net (net_of file i) s (sym e)))
      (λ (p : point ≡ true). eqb-true place 0 (not-false _ (rw p at fine))))
      (bool_cases (eqb net (net_of file i)))

-- ---- the routes from a record on begin with what it tells

-- a route of its net, whose first point it is if it is one
pub record Led (file : List ℕ) (n i : ℕ) (first : List Point) : Type 0 where
  pub more : List Point
  pub others : List Route
  pub led : routes_from file (suc n) i ≡ route (net_of file i) (first ++ more) ∷ others

-- a point before a route of its net, and before any other
module _ (file : List ℕ) (n i : ℕ) {r : Route} {rs : List Route} (p : is_point file i ≡ true) (e : routes_from file n (suc i) ≡ r ∷ rs) where
  pub point_joins : eqb (net_of file i) r.net ≡ true → routes_from file (suc n) i ≡ route (net_of file i) (point_of file i ∷ r.points) ∷ rs
  unfolding routes_from with_record with_point
  point_joins s = rw (p, e, s)

  pub point_begins : eqb (net_of file i) r.net ≡ false → routes_from file (suc n) i ≡ route (net_of file i) (point_of file i ∷ []) ∷ r ∷ rs
  unfolding routes_from with_record with_point
  point_begins s = rw (p, e, s)

pub point_leads : (file : List ℕ) (n i : ℕ) → is_point file i ≡ true → Led file n i (point_of file i ∷ [])
unfolding routes_from with_record with_point
point_leads file n i p = rest (routes_from file n (suc i)) refl
  where
    rest : (rs : List Route) → routes_from file n (suc i) ≡ rs → Led file n i (point_of file i ∷ [])
    rest [] e = record { more = []; others = []; led = rw (p, e) }
    rest (r ∷ rs) e =
        ⊎_elim
        (λ (s : eqb (net_of file i) r.net ≡ true). record { more = r.points; others = rs; led = point_joins file n i p e s })
        (λ (s : eqb (net_of file i) r.net ≡ false). record { more = []; others = r ∷ rs; led = point_begins file n i p e s })
        (bool_cases (eqb (net_of file i) r.net))

pub none_leads : (file : List ℕ) (n i : ℕ) → is_point file i ≡ false → routes_from file (suc n) i ≡ route (net_of file i) [] ∷ routes_from file n (suc i)
unfolding routes_from with_record
none_leads file n i p = rw p

pub some_leads : (file : List ℕ) (n i : ℕ) → Led file n i []
some_leads file n i =
    ⊎_elim
    (λ (p : is_point file i ≡ true).
    let l = point_leads file n i p in
    record { more = point_of file i ∷ l.more; others = l.others; led = l.led })
    (λ (p : is_point file i ≡ false). record { more = []; others = routes_from file n (suc i); led = none_leads file n i p })
    (bool_cases (is_point file i))

-- ---- the file from a record on, its first route begun at a place

abbrev tail_records : (net place : ℕ) → List Point → List ℕ
tail_records net place [] = none_record net
tail_records net place (p ∷ ps) = points_from net place (p ∷ ps)

abbrev file_from : (place : ℕ) → List Route → List ℕ
file_from place [] = []
file_from place (r ∷ rs) = tail_records r.net place r.points ++ file_of rs

from_start : (rs : List Route) → file_from 0 rs ≡ file_of rs
unfolding file_of
from_start [] = refl
from_start (r ∷ rs) = ap (λ (l : List ℕ). l ++ file_of rs) (same r.points)
  where
    same : (ps : List Point) → tail_records r.net 0 ps ≡ net_records r.net ps
    same [] = refl
    same (p ∷ ps) = refl

module _ (file : List ℕ) (all : in_order (records file) (record_rows file) ≡ passes) (whole : length file % record_bytes ≡ 0)
    (bytes : (k : ℕ) → get_or file k 0 < 256) where
  -- a record that begins a net begins the file of the routes from there on
  fresh : (m i : ℕ) → (is_point file i ≡ true → place_of file i ≡ 0)
      → file_from (place_of file i) (routes_from file m i) ≡ drop (i * 8) file → file_of (routes_from file m i) ≡ drop (i * 8) file
  unfolding routes_from file_of
  fresh zero i z e = e
  fresh (suc m) i z e =
      ⊎_elim
      (λ (p : is_point file i ≡ true). sym (from_start (routes_from file (suc m) i)) ∙ rw (z p) at e)
      (λ (p : is_point file i ≡ false). rw (none_leads file m i p) (rw (none_leads file m i p) at e))
      (bool_cases (is_point file i))

  -- the claim of the records from i on, and of those behind it
  abbrev Holds : (m i : ℕ) → Type 0
  Holds m i = file_from (place_of file i) (routes_from file m i) ≡ drop (i * 8) file

  abbrev Behind : (m i : ℕ) → Type 0
  Behind m i = file_of (routes_from file m (suc i)) ≡ drop (suc i * 8) file

  -- the record behind begins a net, if there is one
  begun : (i : ℕ) → (is_point file i ≡ false ⊎ eqb (net_of file i) (net_of file (suc i)) ≡ false) → After file i
      → is_point file (suc i) ≡ true → place_of file (suc i) ≡ 0
  begun i n (goes_on s p q t) h =
      absurd (⊎_elim (λ (k : is_point file i ≡ false). true≢false (sym p ∙ k))
      (λ (k : eqb (net_of file i) (net_of file (suc i)) ≡ false). eqb-false (net_of file i) (net_of file (suc i)) k s) n)
  begun i n (begins s z) h = z h

  behind : (m i : ℕ) → i + suc m ≡ records file → (is_point file i ≡ false ⊎ eqb (net_of file i) (net_of file (suc i)) ≡ false)
      → Holds m (suc i) → Behind m i
  unfolding routes_from file_of
  behind zero i e n r = r
  behind (suc m) i e n r = fresh (suc m) (suc i) (begun i n (after file all i (omega arith))) r

  -- a record's bytes, and the file behind it
  cut : (i : ℕ) → i < records file → {r : List ℕ} → bytes_of file i ≡ r → r ++ drop (suc i * 8) file ≡ drop (i * 8) file
  cut i l e = ap (λ (b : List ℕ). b ++ drop (suc i * 8) file) (sym e) ∙ sym (record_drop file i l)

  none : (m i : ℕ) → i < records file → is_point file i ≡ false → Behind m i → Holds (suc m) i
  none m i l p r =
      rw (none_leads file m i p)
      (ap (λ (t : List ℕ). none_record (net_of file i) ++ t) r ∙ cut i l (none_bytes file i (ok file all i l) p))

  -- a point that is a route by itself, as far as it goes
  alone : (m i : ℕ) → i < records file → is_point file i ≡ true → Behind m i
      → routes_from file (suc m) i ≡ route (net_of file i) (point_of file i ∷ []) ∷ routes_from file m (suc i) → Holds (suc m) i
  unfolding points_from
  alone m i l p r s =
      rw s
      (ap (λ (t : List ℕ). point_record (net_of file i) (place_of file i) (point_of file i) ++ t) r
      ∙ cut i l (point_bytes file i (ok file all i l) bytes p))

  -- a point before the next one of its net
  joined : (m i : ℕ) → i < records file → is_point file i ≡ true → net_of file i ≡ net_of file (suc i) → is_point file (suc i) ≡ true
      → place_of file (suc i) ≡ suc (place_of file i) → Holds (suc m) (suc i) → Holds (suc (suc m)) i
  unfolding routes_from with_record with_point points_from
  joined m i l p s t u r =
      let h = point_leads file m (suc i) t in
      let this = point_joins file (suc m) i p h.led (eq-eqb (net_of file i) (net_of file (suc i)) s) in
      let P : ℕ → Type 0 = λ n. file_from (suc (place_of file i)) (route n (point_of file (suc i) ∷ h.more) ∷ h.others) ≡ drop (suc i * 8) file in
      let rest : P (net_of file i) = subst P (sym s) (rw (h.led, u) at r) in
      rw this
      (ap (λ (t : List ℕ). point_record (net_of file i) (place_of file i) (point_of file i) ++ t) rest
      ∙ cut i l (point_bytes file i (ok file all i l) bytes p))

  point_by : (m i : ℕ) → i < records file → is_point file i ≡ true → i + suc (suc m) ≡ records file → After file i → Holds (suc m) (suc i)
      → Holds (suc (suc m)) i
  unfolding routes_from with_record with_point
  point_by m i l p e (begins s z) r =
      let h = some_leads file m (suc i) in
      alone (suc m) i l p (behind (suc m) i e (inr s) r) (rw (p, h.led, s))
  point_by m i l p e (goes_on s q t u) r = joined m i l p s t u r

  point : (m i : ℕ) → i < records file → is_point file i ≡ true → i + suc m ≡ records file → Holds m (suc i) → Holds (suc m) i
  unfolding routes_from file_of with_record with_point
  point zero i l p e r = alone zero i l p r (rw p)
  point (suc m) i l p e r = point_by m i l p e (after file all i (omega arith)) r

  file_from_lem : (m i : ℕ) → i + m ≡ records file → Holds m i
  unfolding routes_from
  file_from_lem zero i e = sym (drop_of_length-le file {i = i * 8} (omega arith))
  file_from_lem (suc m) i e =
      let l : i < records file = omega arith in
      let r : Holds m (suc i) = file_from_lem m (suc i) (omega arith) in
      ⊎_elim
      (λ (p : is_point file i ≡ true). point m i l p e r)
      (λ (p : is_point file i ≡ false). none m i l p (behind m i e (inl p) r))
      (bool_cases (is_point file i))

  -- record 0 begins a net
  first_after : (net place : ℕ) → wrong_after 0 0 net place true ≡ false → place ≡ 0
  unfolding wrong_after
  first_after net place e =
      let (n, rest) = or_neither (eqb net 0 || ltb net 0) _ e in
      eqb-true place 0 (not-false _ (rw (or_neither (eqb net 0) (ltb net 0) n).0 at rest))

  first : is_point file 0 ≡ true → place_of file 0 ≡ 0
  unfolding byte
  first p =
      ⊎_elim
      (λ (l : 0 < records file).
      let c = ok file all 0 l in
      first_after (net_of file 0) (place_of file 0) (rw p at (sym (wrong_is file 0 (none_yet (record_rows file)) c.known) ∙ c.right)))
      (λ (l : records file ≤ 0).
      let z = get_or-eq_default file 0 {n = 0} (omega arith) in
      absurd (true≢false (sym (rw z at p))))
      (order 0 (records file))

  -- the file of the routes in it
  pub file_back : file_of (routes_in file) ≡ file
  file_back = fresh (records file) 0 first (file_from_lem (records file) 0 (omega arith))

-- ---- the routes in the file of routes

-- the first of some routes is of another net
abbrev pub Apart : ℕ → List Route → Type 0
Apart net [] = Unit {0}
Apart net (r ∷ rs) = eqb net r.net ≡ false

-- no net follows itself
abbrev pub Distinct : List Route → Type 0
Distinct [] = Unit {0}
Distinct (r ∷ rs) = Apart r.net rs × Distinct rs

module _ (r : List ℕ) (eight : length r ≡ 8) (rest : List ℕ) where
  routes_shift : (m i : ℕ) → routes_from (r ++ rest) m (suc i) ≡ routes_from rest m i
  unfolding routes_from with_record
  routes_shift zero i = refl
  routes_shift (suc m) i =
      rw (byte_shift r eight rest i 0, byte_shift r eight rest i 1, byte_shift r eight rest i 4, byte_shift r eight rest i 5, routes_shift m (suc i))

  routes_more : routes_in (r ++ rest) ≡ with_record (r ++ rest) 0 (routes_in rest)
  unfolding routes_from
  routes_more = rw (records_shift r eight rest, routes_shift (records rest) 0)

module _ (net : ℕ) (rest : List ℕ) where
  point_back : (place : ℕ) (p : Point) → routes_in (point_record net place p ++ rest) ≡ with_point net p (routes_in rest)
  unfolding with_record byte
  point_back place p = routes_more (point_record net place p) refl rest

  none_back : routes_in (none_record net ++ rest) ≡ route net [] ∷ routes_in rest
  unfolding with_record byte
  none_back = routes_more (none_record net) refl rest

with_apart : (net : ℕ) (p : Point) (rs : List Route) → Apart net rs → with_point net p rs ≡ route net (p ∷ []) ∷ rs
unfolding with_point
with_apart net p [] a = refl
with_apart net p (r ∷ rs) a = rw a

points_back : (net place : ℕ) (p : Point) (ps : List Point) (rest : List ℕ) → Apart net (routes_in rest)
    → routes_in (points_from net place (p ∷ ps) ++ rest) ≡ route net (p ∷ ps) ∷ routes_in rest
unfolding points_from with_point
points_back net place p [] rest a = point_back net rest place p ∙ with_apart net p (routes_in rest) a
points_back net place p (q ∷ qs) rest a =
    point_back net (points_from net (suc place) (q ∷ qs) ++ rest) place p
    ∙ rw (points_back net (suc place) q qs rest a, eq-eqb net net refl)

pub routes_back : (rs : List Route) → Distinct rs → routes_in (file_of rs) ≡ rs
unfolding file_of routes_from
routes_back [] d = refl
routes_back (r ∷ rs) (a, d) = go r.points refl (routes_back rs d)
  where
    go : (ps : List Point) → r.points ≡ ps → routes_in (file_of rs) ≡ rs → routes_in (net_records r.net r.points ++ file_of rs) ≡ r ∷ rs
    go [] e back =
        ap (λ (qs : List Point). routes_in (net_records r.net qs ++ file_of rs)) e ∙ none_back r.net (file_of rs)
        ∙ ap₂ (λ (qs : List Point) (t : List Route). route r.net qs ∷ t) (sym e) back
    go (p ∷ ps) e back =
        ap (λ (qs : List Point). routes_in (net_records r.net qs ++ file_of rs)) e
        ∙ points_back r.net 0 p ps (file_of rs) (rw back a)
        ∙ ap₂ (λ (qs : List Point) (t : List Route). route r.net qs ∷ t) (sym e) back
