-- A slice into which a file is written record by record. Assumes nothing.
use Prim.Native.Nat.{ℕ, zero, suc, ◌+◌, ◌*◌, ◌-◌, ◌≤◌, ◌<◌, min}
use mathlib.Core.Path.{◌≡◌, refl, sym, ap, ap₂, ◌∙◌}
use mathlib.Core.List.{List, [], ◌∷◌, ◌++◌, append_assoc, append-nil}
use native.Mathlib.Numerals.{add-one}
use native.Mathlib.Omega.{arith}
use lib.ListN.{length, get_or, take, drop, length-append, length-drop, take-append-drop}
use lib.Seq.{take_at, drop-drop, drop-append-add, length-take-le}
use Rattle.std.specs.List.{enumerate_from, zip}
use Rattle.std.proofs.lemmas.List.{get_or_default, get_or-take, get_or-drop}
use Rattle.std.proofs.lemmas.List.FromFn.{length-enumerate_from, get_or-enumerate_from}
use Rattle.std.proofs.lemmas.Slice.Zip.{length-zip, get_or-zip}
use Rattle.tracks.specs.Tracks.{Point, point_record, none_record, points_from, net_records, file_of}
use Rattle.tracks.specs.Layout.{Slices, points_at, points_before, routes_up_to}
use Rattle.tracks.specs.Answers.{laid, file_for}
use Rattle.tracks.specs.Inner.{records_for}
use Rattle.tracks.proofs.Laying.{points_count}
use Rattle.tracks.proofs.Judged.{points_length}
use Rattle.tally.proofs.Parts.{nonzero, records_at, up_more, behind, part_within, records_length}
use Rattle.laying.specs.Inner.{bytes_for}

-- ---- the points of net k lie within those counted

module _ (s : Slices) where
  pub points_grow : (d k : ℕ) → points_before s.counts k ≤ points_before s.counts (k + d)
  unfolding points_before
  points_grow zero k = let e : k + 0 ≡ k = omega arith in rw e (omega arith)
  points_grow (suc d) k = let e : k + suc d ≡ suc (k + d) = omega arith in rw e (omega (arith, points_grow d k))

  pub points_within : (k : ℕ) → k < length s.nets → points_before s.counts k + get_or s.counts k 0 ≤ points_before s.counts (length s.nets)
  unfolding points_before
  points_within k l =
      let e : suc k + (length s.nets - suc k) ≡ length s.nets = omega arith in
      rw e at (points_grow (length s.nets - suc k) (suc k))

-- ---- writing on

module _ (done before : List ℕ) (n : ℕ) (long : length done ≡ n) where
  laid_front : take n (laid done before) ≡ done
  laid_front = take_at done (drop (length done) before) n long

  -- what is written behind what was written, in the slice as it was
  pub laid_on : (more : List ℕ) → laid (take n (laid done before) ++ more) (laid done before) ≡ laid (done ++ more) before
  laid_on more =
      let e : length (take n (laid done before) ++ more) ≡ length done + length more = rw laid_front (length-append done more) in
      let f : drop (length done + length more) (laid done before) ≡ drop (length more) (drop (length done) before) =
      drop-append-add done (drop (length done) before) (length more) in
      let g = drop-drop (length more) (length done) before in
      let h : length (done ++ more) ≡ length done + length more = length-append done more in
      ap₂ (λ (a b : List ℕ). (a ++ more) ++ b) laid_front (ap (λ (m : ℕ). drop m (laid done before)) e ∙ f ∙ g ∙ ap (λ (m : ℕ). drop m before) (sym h))

pub laid_length : (done before : List ℕ) → length done ≤ length before → length (laid done before) ≡ length before
laid_length done before l = length-append done (drop (length done) before) ∙ omega (arith, length-drop (length done) before)

-- nothing yet
pub laid_none : (before : List ℕ) (n : ℕ) → n ≤ length before → before ≡ laid (take n before ++ []) before
laid_none before n l =
    let e : length (take n before) ≡ n = length-take-le n before l in
    rw (append-nil (take n before), e) (sym (take-append-drop n before))

-- one record more, as `put_record` leaves it
pub laid_record : (front record-bytes before now : List ℕ) (i : ℕ) → length record-bytes ≡ 8 → length front ≡ i * 8 → i * 8 + 8 ≤ length before
    → now ≡ laid front before → take (i * 8) now ++ (record-bytes ++ drop (i * 8 + 8) now) ≡ laid (front ++ record-bytes) before
laid_record front r before now i eight long room e =
    let a : take (i * 8) now ≡ front = ap (λ (t : List ℕ). take (i * 8) t) e ∙ take_at front (drop (length front) before) (i * 8) long in
    let at-end : i * 8 + 8 ≡ length front + 8 = omega arith in
    let all : length front + 8 ≡ length (front ++ r) = omega (arith, length-append front r) in
    let b : drop (i * 8 + 8) now ≡ drop (length (front ++ r)) before =
    ap₂ (λ (m : ℕ) (t : List ℕ). drop m t) at-end e
    ∙ drop-append-add front (drop (length front) before) 8 ∙ drop-drop 8 (length front) before
    ∙ ap (λ (m : ℕ). drop m before) all in
    rw (a, b) (sym (append_assoc front r (drop (length (front ++ r)) before)))

-- a point more at the end
pub points_more : (net : ℕ) (p : Point) (ps : List Point) (place : ℕ)
    → points_from net place (ps ++ (p ∷ [])) ≡ points_from net place ps ++ point_record net (place + length ps) p
unfolding points_from
points_more net p [] place = let e : place + 0 ≡ place = omega arith in rw e
points_more net p (q ∷ ps) place =
    let e : place + suc (length ps) ≡ suc place + length ps = omega arith in
    rw e (ap (λ (t : List ℕ). point_record net place q ++ t) (points_more net p ps (suc place)))

-- ---- pairs of two lists, counted

pub pair_at : (xs ys : List ℕ) (k : ℕ) {place x y : ℕ}
    → (k < length (enumerate_from 0 (zip xs ys))) × ((place, (x, y)) ≡ get_or (enumerate_from 0 (zip xs ys)) k (place, (x, y)))
    → (k < length xs) × (k < length ys) × (place ≡ k) × (x ≡ get_or xs k 0) × (y ≡ get_or ys k 0)
pair_at xs ys k {place} {x} {y} t =
    let long : k < min (length xs) (length ys) = omega (arith, t.0, length-enumerate_from 0 (zip xs ys), length-zip xs ys) in
    let both : k < length (zip xs ys) = omega (arith, t.0, length-enumerate_from 0 (zip xs ys)) in
    let in-xs : k < length xs = omega arith in
    let in-ys : k < length ys = omega arith in
    let e = t.1 ∙ get_or-enumerate_from 0 (zip xs ys) k (place, (x, y)) both ∙ ap (λ (q : ℕ × ℕ). (0 + k, q)) (get_or-zip xs ys k (x, y) in-xs in-ys) in (
      in-xs,
      in-ys,
      ap (λ (q : ℕ × (ℕ × ℕ)). q.0) e ∙ omega arith,
      ap (λ (q : ℕ × (ℕ × ℕ)). q.1.0) e ∙ get_or_default xs k x 0 in-xs,
      ap (λ (q : ℕ × (ℕ × ℕ)). q.1.1) e ∙ get_or_default ys k y 0 in-ys,
    )

pub pairs_all : (xs ys : List ℕ) (k : ℕ) → length xs ≡ length ys → k ≡ length (enumerate_from 0 (zip xs ys)) → k ≡ length xs
pairs_all xs ys k same e = omega (arith, e, length-enumerate_from 0 (zip xs ys), length-zip xs ys)

-- ---- the part of a slice that one net has

module _ (from count : ℕ) where
  abbrev cut : List ℕ → List ℕ
  cut l = take (from + count - from) (drop from l)

  pub cut_length : (l : List ℕ) → from + count ≤ length l → length (cut l) ≡ count
  cut_length l h = length-take-le (from + count - from) (drop from l) (omega (arith, length-drop from l)) ∙ omega arith

  cut_at : (l : List ℕ) (n : ℕ) → n < count → get_or (cut l) (0 + n) 0 ≡ get_or l (from + n) 0
  cut_at l n h =
      let z : 0 + n ≡ n = omega arith in
      rw (z, get_or-take (from + count - from) (drop from l) n 0 (omega arith), get_or-drop from l n 0)

  pub points_cut : (xs ys : List ℕ) (n : ℕ) → n ≤ count → points_at (cut xs) (cut ys) 0 n ≡ points_at xs ys from n
  unfolding points_at
  points_cut xs ys zero h = refl
  points_cut xs ys (suc n) h = rw (points_cut xs ys n (omega arith), cut_at xs n (omega arith), cut_at ys n (omega arith))

-- ---- the records of one net, one after the other

points_are : (net : ℕ) (ps : List Point) → (length ps ≡ 0 → ⊥) → points_from net 0 ps ≡ net_records net ps
points_are net [] h = absurd (h refl)
points_are net (p ∷ ps) h = refl

module _ (net at count : ℕ) (xs ys before : List ℕ) (room : (at + records_for count) * 8 ≤ length before) where
  -- what stands before the net, and its first p points
  abbrev pub up_to : ℕ → List ℕ
  up_to p = take (at * 8) before ++ points_from net 0 (points_at xs ys 0 p)

  begun : length (take (at * 8) before) ≡ at * 8
  begun = length-take-le (at * 8) before (omega arith)

  up_length : (p : ℕ) → length (up_to p) ≡ (at + p) * 8
  up_length p =
      length-append (take (at * 8) before) (points_from net 0 (points_at xs ys 0 p))
      ∙ omega (arith, begun, points_length net (points_at xs ys 0 p) 0, points_count xs ys 0 p)

  -- no path
  pub net_none : count ≡ 0 → {left : List ℕ} → left ≡ take (at * 8) before ++ (bytes_for 5 net 0 0 0 ++ drop (at * 8 + 8) before)
      → left ≡ laid (take (at * 8) before ++ net_records net (points_at xs ys 0 count)) before
  unfolding points_at
  net_none z e =
      let whole : before ≡ laid (take (at * 8) before) before = rw begun (sym (take-append-drop (at * 8) before)) in
      let r : (at + 1) * 8 ≤ length before = rw z at room in
      rw z (e ∙ laid_record (take (at * 8) before) (none_record net) before before at refl begun (omega arith) whole)

  -- a path
  module _ (some : count ≡ 0 → ⊥) where
    wide : (at + count) * 8 ≤ length before
    wide = omega (arith, nonzero count some)

    pub net_begins : before ≡ laid (up_to 0) before
    unfolding points_at points_from
    net_begins = laid_none before (at * 8) (omega arith)

    module _ {p : ℕ} {now : List ℕ} (e : now ≡ laid (up_to p) before) where
      pub net_kept : p ≤ count → length now ≡ length before
      net_kept l = ap length e ∙ laid_length (up_to p) before (omega (arith, up_length p, wide))

      pub net_fits : p < count → (at + p) * 8 + 8 ≤ length now
      net_fits l = omega (arith, net_kept (omega arith), wide)

      pub net_goes : p < count → {left : List ℕ}
          → left ≡ take ((at + p) * 8) now ++ (bytes_for 4 net p (get_or xs p 0) (get_or ys p 0) ++ drop ((at + p) * 8 + 8) now)
          → left ≡ laid (up_to (p + 1)) before
      unfolding points_at
      net_goes l f =
          let z : 0 + p ≡ p = omega arith in
          let q : Point = record { x = get_or xs p 0; y = get_or ys p 0 } in
          let ps : List Point = points_at xs ys 0 p in
          let place : 0 + length ps ≡ p = omega (arith, points_count xs ys 0 p) in
          let more : points_from net 0 (ps ++ (q ∷ [])) ≡ points_from net 0 ps ++ point_record net p q =
          points_more net q ps 0 ∙ ap (λ (n : ℕ). points_from net 0 ps ++ point_record net n q) place in
          let next : up_to p ++ point_record net p q ≡ up_to (suc p) =
          append_assoc (take (at * 8) before) (points_from net 0 ps) (point_record net p q) ∙ ap (λ (t : List ℕ). take (at * 8) before ++ t) (sym more)
          ∙ rw z in
          f ∙ laid_record (up_to p) (point_record net p q) before now (at + p) refl (up_length p) (omega (arith, wide)) e
          ∙ ap (λ (t : List ℕ). laid t before) (next ∙ ap up_to (sym (add-one p)))

      pub net_ends : p ≡ count → now ≡ laid (take (at * 8) before ++ net_records net (points_at xs ys 0 count)) before
      net_ends z =
          let n : length (points_at xs ys 0 count) ≡ 0 → ⊥ = λ h. some (sym (points_count xs ys 0 count) ∙ h) in
          e ∙ ap (λ (m : ℕ). laid (up_to m) before) z
          ∙ ap (λ (t : List ℕ). laid (take (at * 8) before ++ t) before) (points_are net (points_at xs ys 0 count) n)

-- ---- net after net

pub record Laying (s : Slices) (before now : List ℕ) (k at from : ℕ) : Type 0 where
  pub from_is : from ≡ points_before s.counts k
  pub long : length (file_of (routes_up_to s k)) ≡ at * 8
  pub is : now ≡ laid (file_of (routes_up_to s k)) before

pub laying_none : (s : Slices) (before : List ℕ) → Laying s before before 0 0 0
unfolding points_before routes_up_to file_of
laying_none s before = record { from_is = refl; long = refl; is = refl }

module _ {s : Slices} {before now : List ℕ} {k at from : ℕ} (j : Laying s before now k at from) where
  abbrev count : ℕ
  count = get_or s.counts k 0

  next_long : length (file_of (routes_up_to s (suc k))) ≡ (at + records_for count) * 8
  next_long = ap length (up_more s k) ∙ length-append (file_of (routes_up_to s k)) (records_at s k) ∙ omega (arith, j.long, records_length s k)

  -- a slice that holds all points counted holds those of the next net
  pub points_fit : k < length s.nets → {n m : ℕ} → n ≡ count → points_before s.counts (length s.nets) ≤ m → from + n ≤ m
  points_fit l e h = omega (arith, points_within s k l, j.from_is)

  -- the slice keeps its length, as long as the file fits
  pub laying_kept : length (file_for s) ≤ length before → k ≤ length s.nets → length now ≡ length before
  laying_kept room l =
      let d : k + (length s.nets - k) ≡ length s.nets = omega arith in
      let b = behind s (length s.nets - k) k in
      let w : length (file_of (routes_up_to s k)) ≤ length (file_for s) =
      omega (arith, ap (λ (n : ℕ). length (file_of (routes_up_to s n))) (sym d), ap length b.made, length-append (file_of (routes_up_to s k)) b.back) in
      ap length j.is ∙ laid_length (file_of (routes_up_to s k)) before (omega arith)

  pub laying_room : k < length s.nets → length (file_for s) ≤ length before → (at + records_for count) * 8 ≤ length now
  laying_room l room = omega (arith, next_long, part_within s k l, laying_kept room (omega arith))

  pub laying_more : {left : List ℕ} {at' from' : ℕ} → left ≡ laid (take (at * 8) now ++ net_records (get_or s.nets k 0) (points_at s.xs s.ys from count)) now
      → at' ≡ at + records_for count → from' ≡ from + count → Laying s before left (k + 1) at' from'
  unfolding points_before
  laying_more {left} e a f =
      let up : k + 1 ≡ suc k = add-one k in
      let done : List ℕ = file_of (routes_up_to s k) in
      let here : left ≡ laid (take (at * 8) now ++ records_at s k) now = rw j.from_is at e in
      record {
        from_is = rw up (f ∙ ap (λ (n : ℕ). n + count) j.from_is);
        long = rw (up, a) next_long;
        is = rw up (here ∙ ap (λ (t : List ℕ). laid (take (at * 8) t ++ records_at s k) t) j.is ∙ laid_on done before (at * 8) j.long (records_at s k)
            ∙ ap (λ (t : List ℕ). laid t before) (sym (up_more s k)));
      }

  pub laying_all : k ≡ length s.nets → now ≡ laid (file_for s) before
  laying_all e = j.is ∙ ap (λ (n : ℕ). laid (file_of (routes_up_to s n)) before) e
