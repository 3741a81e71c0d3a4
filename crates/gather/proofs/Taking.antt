-- A record before the routes behind it, as the slices take it. Assumes nothing.
use Prim.Native.Nat.{ℕ, zero, suc, ◌+◌, ◌-◌, ◌^◌, ◌≤◌, ◌<◌}
use mathlib.Core.Path.{◌≡◌, refl, sym, ap, ◌∙◌}
use mathlib.Core.Logic.{⊎_elim}
use mathlib.Core.Bool.{Bool, true, false, ◌&&◌, cond, true≢false}
use mathlib.Core.List.{List, [], ◌∷◌}
use native.Mathlib.Omega.{arith}
use lib.Dec.{eqb}
use lib.ListN.{length, get_or, set, length-append}
use borrow.Author.Tests.{eqb-true, lt-ltb, le-ltb}
use Rattle.laws.specs.Below.{as_number}
use Rattle.laws.proofs.Tests.{bool_cases, and_left, and_false}
use Rattle.records.specs.Records.{records, byte}
use Rattle.tracks.specs.Tracks.{Point, Route, is_point, net_of, point_of, with_point, with_record, routes_from, routes_in}
use Rattle.tracks.specs.Layout.{Slices, slices, numbers_of, counts_of, each, all, xs_of, ys_of}
use Rattle.tracks.proofs.Laying.{each_length}
use Rattle.gather.specs.Inner.{goes_on, PointTaken, NetTaken, NetRoom, Room}
use Rattle.gather.proofs.Filling.{Filled, filled_none, filled_length, filled_put, filled_again, filled_first}

-- ---- points

module _ (get : Point → ℕ) (file : List ℕ) (i : ℕ) (rs : List Route) where
  point_first : (net : ℕ) (p : Point) → all get (with_point net p rs) ≡ get p ∷ all get rs
  unfolding with_point all each
  point_first net p = go rs
    where
      go : (qs : List Route) → all get (with_point net p qs) ≡ get p ∷ all get qs
      go [] = refl
      go (q ∷ qs) = ⊎_elim (λ (s : eqb net q.net ≡ true). rw s) (λ (s : eqb net q.net ≡ false). rw s) (bool_cases (eqb net q.net))

  pub all_taken : all get (with_record file i rs) ≡ cond (is_point file i) (get (point_of file i) ∷ all get rs) (all get rs)
  unfolding with_record all each
  all_taken =
      ⊎_elim (λ (p : is_point file i ≡ true). rw p (point_first (net_of file i) (point_of file i))) (λ (p : is_point file i ≡ false). rw p)
      (bool_cases (is_point file i))

-- a slice of one coordinate takes it
pub coordinate_taken : (get : Point → ℕ) (file : List ℕ) (i : ℕ) (rs : List Route) {before now : List ℕ} {j full r : ℕ} {point : Bool} {v : ℕ}
    → point ≡ is_point file i → v ≡ get (point_of file i) → as_number point ≤ j → r ≡ j - as_number point
    → Filled before now (all get rs) j full → Filled before (cond point (set now (j - 1) v) now) (all get (with_record file i rs)) r full
coordinate_taken get file i rs {before} {now} {j} {full} {r} {point} {v} p e l s f =
    ⊎_elim
    (λ (t : point ≡ true). rw (all_taken get file i rs, sym p, t, sym e) (put (rw t at l) (rw t at s)))
    (λ (t : point ≡ false). let z : r ≡ j = omega (arith, rw t at s) in rw (all_taken get file i rs, sym p, t, z) f)
    (bool_cases point)
  where
    put : 1 ≤ j → r ≡ j - 1 → Filled before (set now (j - 1) v) (v ∷ all get rs) r full
    put some q = let up : j ≡ suc (j - 1) = omega arith in rw q (filled_put v (rw up at f))

-- ---- nets

module _ (file : List ℕ) (i : ℕ) where
  -- what goes on is known by the first of the routes behind
  unfoldable pub going : List Route → Bool
  going [] = false
  going (r ∷ rs) = is_point file i && eqb (net_of file i) r.net

  numbers_taken : (rs : List Route) → numbers_of (with_record file i rs) ≡ cond (going rs) (numbers_of rs) (net_of file i ∷ numbers_of rs)
  unfolding with_record with_point numbers_of going
  numbers_taken [] = ⊎_elim (λ (p : is_point file i ≡ true). rw p) (λ (p : is_point file i ≡ false). rw p) (bool_cases (is_point file i))
  numbers_taken (r ∷ rs) =
      ⊎_elim
      (λ (p : is_point file i ≡ true).
      ⊎_elim
      (λ (s : eqb (net_of file i) r.net ≡ true). rw (p, s) (ap (λ (n : ℕ). n ∷ numbers_of rs) (eqb-true (net_of file i) r.net s)))
      (λ (s : eqb (net_of file i) r.net ≡ false). rw (p, s))
      (bool_cases (eqb (net_of file i) r.net)))
      (λ (p : is_point file i ≡ false). rw p)
      (bool_cases (is_point file i))

  -- one point more of the first, or a first one
  unfoldable more : List Route → List ℕ
  more [] = []
  more (r ∷ rs) = suc (length r.points) ∷ counts_of rs

  counts_taken : (rs : List Route) → counts_of (with_record file i rs) ≡ cond (going rs) (more rs) (as_number (is_point file i) ∷ counts_of rs)
  unfolding with_record with_point counts_of going more
  counts_taken [] = ⊎_elim (λ (p : is_point file i ≡ true). rw p) (λ (p : is_point file i ≡ false). rw p) (bool_cases (is_point file i))
  counts_taken (r ∷ rs) =
      ⊎_elim
      (λ (p : is_point file i ≡ true).
      ⊎_elim (λ (s : eqb (net_of file i) r.net ≡ true). rw (p, s)) (λ (s : eqb (net_of file i) r.net ≡ false). rw (p, s))
      (bool_cases (eqb (net_of file i) r.net)))
      (λ (p : is_point file i ≡ false). rw p)
      (bool_cases (is_point file i))

  -- the code tells it by the first number behind
  pub goes_is : (rs : List Route) {before now : List ℕ} {k count : ℕ} → Filled before now (numbers_of rs) k count
      → goes_on now count k (net_of file i) (is_point file i) ≡ going rs
  unfolding numbers_of going
  goes_is [] {k = k} {count = count} f =
      rw (le-ltb k count (omega (arith, f.ends))) (and_false (is_point file i) refl)
  goes_is (r ∷ rs) {k = k} {count = count} f = rw (lt-ltb k count (omega (arith, f.ends)), filled_first f)

  -- the nets and the counts take it
  nets_put : (rs : List Route) {before now : List ℕ} {k count net : ℕ} → net ≡ net_of file i → Filled before now (numbers_of rs) k count
      → (g : Bool) → going rs ≡ g → (g ≡ false → 1 ≤ k)
      → Filled before (cond g now (set now (k - 1) net)) (numbers_of (with_record file i rs)) (cond g k (k - 1)) count
  nets_put rs n f true e l = rw (numbers_taken rs, e) f
  nets_put rs {k = k} {net = net} n f false e l =
      let up : k ≡ suc (k - 1) = omega (arith, l refl) in
      rw (numbers_taken rs, e, sym n) (filled_put net (rw up at f))

  counts_put : (rs : List Route) {before now : List ℕ} {k count : ℕ} {point : Bool} → point ≡ is_point file i → Filled before now (counts_of rs) k count
      → (g : Bool) → going rs ≡ g → (g ≡ false → 1 ≤ k)
      → Filled before (cond g (set now k (get_or now k 0 + 1)) (set now (k - 1) (as_number point))) (counts_of (with_record file i rs)) (cond g k (k - 1)) count
  unfolding counts_of going more
  counts_put [] p f true e l = absurd (true≢false (sym e))
  counts_put (r ∷ rs) {now = now} {k = k} p f true e l =
      let v : get_or now k 0 + 1 ≡ suc (length r.points) = omega (arith, filled_first f) in
      rw (counts_taken (r ∷ rs), e, v) (filled_again f (suc (length r.points)))
  counts_put rs {k = k} {point = point} p f false e l =
      let up : k ≡ suc (k - 1) = omega (arith, l refl) in
      rw (counts_taken rs, e, sym p) (filled_put (as_number point) (rw up at f))

  -- ---- how much room it takes

  pub new_longer : (rs : List Route) → going rs ≡ false → length (numbers_of (with_record file i rs)) ≡ suc (length (numbers_of rs))
  new_longer rs e = rw (numbers_taken rs, e)

  -- a count that grows is that of points
  pub more_points : (get : Point → ℕ) (rs : List Route) {before now : List ℕ} {k count : ℕ} → Filled before now (counts_of rs) k count
      → going rs ≡ true → get_or now k 0 + 1 ≤ length (all get (with_record file i rs))
  unfolding going counts_of all
  more_points get [] f e = absurd (true≢false (sym e))
  more_points get (r ∷ rs) f e =
      let p = and_left (is_point file i) (eqb (net_of file i) r.net) e in
      rw (all_taken get file i (r ∷ rs), p)
      (omega (arith, filled_first f, length-append (each get r.points) (all get rs), each_length get r.points))

  numbers_grow : (rs : List Route) → length (numbers_of rs) ≤ length (numbers_of (with_record file i rs))
  numbers_grow rs =
      ⊎_elim (λ (g : going rs ≡ true). rw (numbers_taken rs, g) (omega arith)) (λ (g : going rs ≡ false). rw (numbers_taken rs, g) (omega arith))
      (bool_cases (going rs))

  all_grow : (get : Point → ℕ) (rs : List Route) → length (all get rs) ≤ length (all get (with_record file i rs))
  all_grow get rs =
      ⊎_elim
      (λ (p : is_point file i ≡ true). rw (all_taken get file i rs, p) (omega arith))
      (λ (p : is_point file i ≡ false). rw (all_taken get file i rs, p) (omega arith))
      (bool_cases (is_point file i))

-- ---- the routes from a record on are no more than all

module _ (file : List ℕ) (size : List Route → ℕ) (grow : (i : ℕ) (rs : List Route) → size rs ≤ size (with_record file i rs)) where
  from_grow : (d m i : ℕ) → size (routes_from file m (i + d)) ≤ size (routes_from file (d + m) i)
  unfolding routes_from
  from_grow zero m i = let e : i + 0 ≡ i = omega arith in let f : 0 + m ≡ m = omega arith in rw (e, f) (omega arith)
  from_grow (suc d) m i =
      let e : i + suc d ≡ suc i + d = omega arith in
      let f : suc d + m ≡ suc (d + m) = omega arith in
      rw (e, f) (omega (arith, from_grow d m (suc i), grow i (routes_from file (d + m) (suc i))))

  pub below_all : (i : ℕ) → i ≤ records file → size (routes_from file (records file - i) i) ≤ size (routes_in file)
  below_all i l =
      let e : 0 + i ≡ i = omega arith in
      let f : i + (records file - i) ≡ records file = omega arith in
      rw (e, f) at (from_grow i (records file - i) 0)

pub from_record : (file : List ℕ) (i : ℕ) → suc i ≤ records file
    → routes_from file (records file - i) i ≡ with_record file i (routes_from file (records file - suc i) (suc i))
unfolding routes_from
from_record file i l = let e : records file - i ≡ suc (records file - suc i) = omega arith in rw e

-- ---- all four slices

-- the records from i on are in the slices, from net k and from point j on
pub record Taken (file : List ℕ) (before now : Slices) (count points i k j : ℕ) : Type 0 where
  pub below : i ≤ records file
  pub nets : Filled before.nets now.nets (numbers_of (routes_from file (records file - i) i)) k count
  pub counts : Filled before.counts now.counts (counts_of (routes_from file (records file - i) i)) k count
  pub xs : Filled before.xs now.xs (xs_of (routes_from file (records file - i) i)) j points
  pub ys : Filled before.ys now.ys (ys_of (routes_from file (records file - i) i)) j points

module _ {file : List ℕ} {before : Slices} {count points : ℕ} (room : Room file before count points) where
  pub taken_none : Taken file before before count points (records file) count points
  unfolding routes_from numbers_of counts_of all
  taken_none =
      let e : records file - records file ≡ 0 = omega arith in
      record {
        below = omega arith;
        nets = rw e (filled_none before.nets count room.nets);
        counts = rw e (filled_none before.counts count room.counts);
        xs = rw e (filled_none before.xs points room.xs);
        ys = rw e (filled_none before.ys points room.ys);
      }

  -- one record: what room there is, and what it leaves
  module _ {nets counts xs ys : List ℕ} {i k j : ℕ} (t : Taken file before (slices nets counts xs ys) count points (suc i) k j) where
    abbrev behind : List Route
    behind = routes_from file (records file - suc i) (suc i)

    within : {size : List Route → ℕ} → ((l : ℕ) (rs : List Route) → size rs ≤ size (with_record file l rs))
        → size (with_record file i behind) ≤ size (routes_in file)
    within {size} grow = rw (from_record file i t.below) at (below_all file size grow i (omega (arith, t.below)))

    pub point_room : as_number (is_point file i) ≤ j
    point_room =
        let xof : Point → ℕ = λ p. p.x in
        let w = within {size = λ (rs : List Route). length (all xof rs)} (λ (l : ℕ) (rs : List Route). all_grow file l xof rs) in
        let n = one_point xof in
        omega (arith, w, n, t.xs.ends, room.points_are)
      where
        one_point : (get : Point → ℕ) → length (all get (with_record file i behind)) ≡ as_number (is_point file i) + length (all get behind)
        one_point get =
            ⊎_elim
            (λ (p : is_point file i ≡ true). rw (all_taken get file i behind, p) (omega arith))
            (λ (p : is_point file i ≡ false). rw (all_taken get file i behind, p) (omega arith))
            (bool_cases (is_point file i))

    pub net_room : length before.xs < 2 ^ 64 → NetRoom nets counts count k (net_of file i) (is_point file i)
    net_room fits = record {
      below = omega (arith, t.nets.ends);
      nets_fit = omega (arith, filled_length t.nets, room.nets);
      counts_fit = omega (arith, filled_length t.counts, room.counts);
      new = λ g. omega (
        arith,
        within {size = λ (rs : List Route). length (numbers_of rs)} (λ (l : ℕ) (rs : List Route). numbers_grow file l rs),
        new_longer file i behind (sym (goes_is file i behind t.nets) ∙ g),
        t.nets.ends,
        room.count_is,
      );
      more = λ g. omega (
        arith,
        more_points file i (λ (p : Point). p.x) behind t.counts (sym (goes_is file i behind t.nets) ∙ g),
        within {size = λ (rs : List Route). length (xs_of rs)} (λ (l : ℕ) (rs : List Route). all_grow file l (λ (p : Point). p.x) rs),
        room.points_are,
        room.xs,
      );
    }

    pub taken_one : {net k' j' : ℕ} {nets' counts' xs' ys' : List ℕ} {point : Bool} → point ≡ is_point file i → net ≡ net_of file i
        → PointTaken (byte file i 4) (byte file i 5) point j xs ys j' xs' ys' → NetTaken count k net point nets counts k' nets' counts'
        → length before.xs < 2 ^ 64 → Taken file before (slices nets' counts' xs' ys') count points i k' j'
    taken_one {point = point} p n P N fits =
        let here = from_record file i t.below in
        let r = net_room fits in
        let g : goes_on nets count k (net_of file i) (is_point file i) ≡ going file i behind = goes_is file i behind t.nets in
        let l : as_number point ≤ j = rw p point_room in
        record {
          below = omega (arith, t.below);
          nets = rw (here, N.nets_are, N.first, n, p) (nets_put file i behind refl t.nets (goes_on nets count k (net_of file i) (is_point file i)) (sym g) r.new);
          counts = rw (here, N.counts_are, N.first, n, p) (counts_put file i behind refl t.counts (goes_on nets count k (net_of file i) (is_point file i)) (sym g) r.new);
          xs = rw (here, P.xs_are) (coordinate_taken (λ (q : Point). q.x) file i behind p refl l P.first t.xs);
          ys = rw (here, P.ys_are) (coordinate_taken (λ (q : Point). q.y) file i behind p refl l P.first t.ys);
        }
