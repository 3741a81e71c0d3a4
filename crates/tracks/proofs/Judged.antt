-- The records of one net within a file, judged after records that pass. Assumes nothing.
use Prim.Native.Nat.{ℕ, zero, suc, ◌+◌, ◌*◌, ◌/◌, ◌%◌, ◌≤◌, ◌<◌}
use mathlib.Core.Path.{◌≡◌, refl, sym, ap, subst, ◌∙◌}
use mathlib.Core.Logic.{⊎_elim}
use mathlib.Core.Bool.{Bool, true, false, not, ◌&&◌, ◌||◌}
use mathlib.Core.List.{List, [], ◌∷◌, ◌++◌, append_assoc}
use native.Mathlib.Nat.{div-add-mod', mod-eq_of_lt}
use native.Mathlib.Omega.{arith}
use lib.Dec.{ltb, eqb, eqb-suc-zero}
use lib.ListN.{length, get_or, length-append, get_or-append}
use lib.Seq.{get_or-append-add}
use borrow.Author.Tests.{lt-ltb, le-ltb, eq-eqb, ne_eqb}
use Rattle.laws.specs.Below.{first_where}
use Rattle.laws.proofs.Tests.{order, or_right}
use Rattle.board.specs.Handed.{passes, refused, row}
use Rattle.records.specs.Records.{record_bytes, byte, in_order, is_in, is_stray_byte, stray_byte, unused_row}
use Rattle.records.proofs.InOrder.{one_more}
use Rattle.tracks.specs.Tracks.{Point, point_record, none_record, points_from, net_records, is_point, net_of, place_of}
use Rattle.tracks.specs.Faults.{is_unknown, used_by, net_before, record_rows}
use Rattle.tracks.specs.Inner.{next_place, wrong_after, records_for}
use Rattle.tracks.proofs.Before.{wrong_is}

-- ---- a record whose bytes are known

-- record i of the file has these bytes
abbrev Reads : (file : List ℕ) (i : ℕ) (r : List ℕ) → Type 0
Reads file i r = (k : ℕ) → k < 8 → byte file i k ≡ get_or r k 0

-- it stands where as many records come before it
reads_at : (a r b : List ℕ) (i : ℕ) → length a ≡ i * 8 → length r ≡ 8 → Reads (a ++ (r ++ b)) i r
unfolding byte
reads_at a r b i e eight k l =
    let s : i * 8 + k ≡ length a + k = omega arith in
    ap (λ (n : ℕ). get_or (a ++ (r ++ b)) n 0) s ∙ get_or-append-add a (r ++ b) k 0 ∙ get_or-append r b 0 k (omega arith)

first_same : (t s : ℕ → Bool) (n : ℕ) → ((i : ℕ) → i < n → t i ≡ s i) → first_where n t ≡ first_where n s
unfolding first_where
first_same t s zero h = refl
first_same t s (suc n) h = rw (first_same t s n (λ i l. h i (omega arith)), h n (omega arith))

module _ (file : List ℕ) (i : ℕ) (before : in_order i (record_rows file) ≡ passes) where
  -- no byte is stray if none of those known is
  tidy : (used r : List ℕ) → Reads file i r
      → first_where record_bytes (λ (k : ℕ). not (is_in k used) && not (eqb (get_or r k 0) 0)) ≡ record_bytes → unused_row file used i ≡ passes
  tidy used r reads e =
      let s : stray_byte file used i ≡ record_bytes =
      first_same (is_stray_byte file used i) (λ (k : ℕ). not (is_in k used) && not (eqb (get_or r k 0) 0)) record_bytes
      (λ (k : ℕ) (l : k < 8). ap (λ (b : ℕ). not (is_in k used) && not (eqb b 0)) (reads k l)) ∙ e in
      rw s

  judged_by : (type : ℕ) → byte file i 0 ≡ type → is_unknown file i ≡ false → unused_row file (used_by type) i ≡ passes
      → record_rows file i ≡ row (wrong_after (net_before file i) (next_place file i) (net_of file i) (place_of file i) (is_point file i)) 22 i
  unfolding record_rows
  judged_by type t known unused = rw (sym (wrong_is file i before known), known, t, unused)

  -- a point, and none
  pub point_judged : (net place : ℕ) (p : Point) → Reads file i (point_record net place p)
      → record_rows file i ≡ row (wrong_after (net_before file i) (next_place file i) net (place % 256 + place / 256 % 256 * 256) true) 22 i
  unfolding first_where used_by place_of
  point_judged net place p reads =
      let t : byte file i 0 ≡ 4 = reads 0 (omega arith) in
      let known : is_unknown file i ≡ false = rw t in
      let j = judged_by 4 t known (tidy (used_by 4) (point_record net place p) reads refl) in
      rw (t, reads 1 (omega arith), reads 2 (omega arith), reads 3 (omega arith)) at j

  pub none_judged : (net : ℕ) → Reads file i (none_record net)
      → record_rows file i ≡ row (wrong_after (net_before file i) (next_place file i) net 0 false) 22 i
  unfolding first_where used_by place_of
  none_judged net reads =
      let t : byte file i 0 ≡ 5 = reads 0 (omega arith) in
      let known : is_unknown file i ≡ false = rw t in
      let j = judged_by 5 t known (tidy (used_by 5) (none_record net) reads refl) in
      rw (t, reads 1 (omega arith), reads 2 (omega arith), reads 3 (omega arith)) at j

-- ---- the numbers by which it is judged

-- a place that two bytes hold
place_back : (p : ℕ) → p < 65536 → p % 256 + p / 256 % 256 * 256 ≡ p
place_back p l =
    let h : p / 256 < 256 = omega arith in
    rw (mod-eq_of_lt h) (omega (arith, div-add-mod' p 256))

module _ (last next net : ℕ) where
  -- a net that is not above the one before is wrong from place 0 on, and as none
  low_wrong : net ≤ last → (point : Bool) → wrong_after last next net 0 point ≡ true
  unfolding wrong_after
  low_wrong l point =
      ⊎_elim
      (λ (b : net < last). rw (lt-ltb net last b) (cond_either (eqb net 0) _))
      (λ (b : last ≤ net).
      let e : net ≡ last = omega arith in
      or_right (eqb net 0 || ltb net last) (rw (eq-eqb net last e) (refuses point (eqb next 0) (eqb 0 next) (zero_next next))))
      (order net last)
    where
      cond_either : (a c : Bool) → ((a || true) || c) ≡ true
      cond_either true c = refl
      cond_either false c = refl

      zero_next : (n : ℕ) → eqb 0 n ≡ eqb n 0
      zero_next zero = refl
      zero_next (suc n) = ne_eqb 0 (suc n) (λ e. omega arith) ∙ sym (eqb-suc-zero n)

      refuses : (p a b : Bool) → b ≡ a → not (p && (not a && b)) ≡ true
      refuses true true b e = refl
      refuses true false b e = rw e
      refuses false a b e = refl

  -- one above it is right
  high_right : last < net → (point : Bool) → wrong_after last next net 0 point ≡ false
  unfolding wrong_after
  high_right l true = rw (ne_eqb net 0 (λ e. omega arith), le-ltb net last (omega arith), ne_eqb net last (λ e. omega arith))
  high_right l false = rw (ne_eqb net 0 (λ e. omega arith), le-ltb net last (omega arith), ne_eqb net last (λ e. omega arith))

-- a further point is right at the next place, and wrong at another
further : (p place net : ℕ) → 0 < net → wrong_after net (suc p) net place true ≡ not (eqb place (suc p))
unfolding wrong_after
further p place net l =
    rw (ne_eqb net 0 (λ e. omega arith), le-ltb net net (omega arith), eq-eqb net net refl, eqb-suc-zero p)

-- ---- the records of one net: as many as points, or one

pub points_length : (net : ℕ) (ps : List Point) (place : ℕ) → length (points_from net place ps) ≡ length ps * 8
unfolding points_from
points_length net [] place = refl
points_length net (p ∷ ps) place = length-append (point_record net place p) (points_from net (suc place) ps) ∙ omega (arith, points_length net ps (suc place))

pub net_length : (net : ℕ) (ps : List Point) → length (net_records net ps) ≡ records_for (length ps) * 8
net_length net [] = refl
net_length net (p ∷ ps) = points_length net (p ∷ ps) 0

-- point number k stands k records on
points_at_lem : (net : ℕ) (b : List ℕ) (d : Point) (ps : List Point) (place i k j q : ℕ) (a : List ℕ) → length a ≡ i * 8 → k < length ps
    → j ≡ i + k → q ≡ place + k → Reads (a ++ (points_from net place ps ++ b)) j (point_record net q (get_or ps k d))
unfolding points_from
points_at_lem net b d [] place i k j q a e l s t = absurd (omega arith)
points_at_lem net b d (p ∷ ps) place i zero j q a e l s t =
    let u : q ≡ place = omega arith in
    subst (λ (w : ℕ). Reads (a ++ (point_record net place p ++ (points_from net (suc place) ps ++ b))) j (point_record net w p)) (sym u)
    (reads_at a (point_record net place p) (points_from net (suc place) ps ++ b) j (omega arith) refl)
points_at_lem net b d (p ∷ ps) place i (suc k) j q a e l s t =
    let r : List ℕ = point_record net place p in
    let m : length (a ++ r) ≡ suc i * 8 = length-append a r ∙ omega arith in
    subst (λ (f : List ℕ). Reads f j (point_record net q (get_or ps k d))) (append_assoc a r (points_from net (suc place) ps ++ b))
    (points_at_lem net b d ps (suc place) (suc i) k j q (a ++ r) m (omega arith) (omega arith) (omega arith))

-- ---- after records that pass

module _ (file : List ℕ) (net i : ℕ) (before : in_order i (record_rows file) ≡ passes) where
  -- no path
  none_refused : Reads file i (none_record net) → net ≤ net_before file i → record_rows file i ≡ refused 22 i 0
  none_refused r l = none_judged file i before net r ∙ rw (low_wrong (net_before file i) (next_place file i) net l false)

  none_passes : Reads file i (none_record net) → net_before file i < net → in_order (i + 1) (record_rows file) ≡ passes
  none_passes r l = one_more (record_rows file) i before (none_judged file i before net r ∙ rw (high_right (net_before file i) (next_place file i) net l false))

  -- points: `at k` is point number k
  module _ (p : ℕ → Point) (n : ℕ) (reads : (k : ℕ) → k < n → Reads file (i + k) (point_record net k (p k))) where
    first_read : 0 < n → Reads file i (point_record net 0 (p 0))
    first_read l = let s : i + 0 ≡ i = omega arith in rw s at (reads 0 l)

    points_refused : 0 < n → net ≤ net_before file i → record_rows file i ≡ refused 22 i 0
    points_refused s l =
        point_judged file i before net 0 (p 0) (first_read s) ∙ rw (low_wrong (net_before file i) (next_place file i) net l true)

    -- after k points the last is number k - 1
    record Passed (k : ℕ) : Type 0 where
      pass : in_order (i + suc k) (record_rows file) ≡ passes
      net_is : net_before file (i + suc k) ≡ net
      next_is : next_place file (i + suc k) ≡ suc k

    module _ (high : net_before file i < net) where
      points_pass : (k : ℕ) → k < n → k < 65536 → Passed k
      unfolding place_of
      points_pass k l m = known k l m (rowed k l m)
        where
          known : (k : ℕ) → k < n → k < 65536 → in_order (i + suc k) (record_rows file) ≡ passes → Passed k
          known k l m e =
              let s : i + suc k ≡ suc (i + k) = omega arith in
              let r = reads k l in
              let t : byte file (i + k) 0 ≡ 4 = r 0 (omega arith) in
              record {
                pass = e;
                net_is = rw s (r 1 (omega arith));
                next_is = rw (s, t) (ap suc (rw (r 2 (omega arith), r 3 (omega arith)) (place_back k m)));
              }

          rowed : (k : ℕ) → k < n → k < 65536 → in_order (i + suc k) (record_rows file) ≡ passes
          rowed zero l m = one_more (record_rows file) i before (point_judged file i before net 0 (p 0) (first_read l) ∙ rw (high_right (net_before file i) (next_place file i) net high true))
          rowed (suc k) l m =
              let s : i + suc (suc k) ≡ i + suc k + 1 = omega arith in
              let b = known k (omega arith) (omega arith) (rowed k (omega arith) (omega arith)) in
              let j = point_judged file (i + suc k) b.pass net (suc k) (p (suc k)) (reads (suc k) l) in
              rw s
              (one_more (record_rows file) (i + suc k) b.pass
              (j ∙ rw (b.net_is, b.next_is, place_back (suc k) m, further k (suc k) net (omega arith), eq-eqb (suc k) (suc k) refl)))

      -- the one whose place two bytes do not hold is refused
      too_many : 65536 < n → (in_order (i + 65536) (record_rows file) ≡ passes) × (record_rows file (i + 65536) ≡ refused 22 (i + 65536) 0)
      too_many l =
          let b = points_pass 65535 (omega arith) (omega arith) in
          let j = point_judged file (i + 65536) b.pass net 65536 (p 65536) (reads 65536 l) in
          (b.pass, j ∙ rw (b.net_is, b.next_is, further 65535 0 net (omega arith)))

-- ---- the same by what a file is made of: some records, those of the net, and some more

pub record Placed (file : List ℕ) (net : ℕ) (ps : List Point) (i : ℕ) : Type 0 where
  pub front : List ℕ
  pub back : List ℕ
  pub made : file ≡ front ++ (net_records net ps ++ back)
  pub long : length front ≡ i * 8

-- any point, to have something beyond the last one
origin : Point
origin = record { x = 0; y = 0 }

module _ {file : List ℕ} {net : ℕ} where
  none_read : {i : ℕ} → Placed file net [] i → Reads file i (none_record net)
  none_read {i} d = rw d.made (reads_at d.front (none_record net) d.back i d.long refl)

  points_read : {p : Point} {ps : List Point} {i : ℕ} → Placed file net (p ∷ ps) i → (k : ℕ) → k < length (p ∷ ps)
      → Reads file (i + k) (point_record net k (get_or (p ∷ ps) k origin))
  points_read {p} {ps} {i} d k l =
      rw d.made (points_at_lem net d.back origin (p ∷ ps) 0 i k (i + k) k d.front d.long l refl (omega arith))

module _ (file : List ℕ) (net i : ℕ) (before : in_order i (record_rows file) ≡ passes) where
  pub net_refused : (ps : List Point) → Placed file net ps i → net ≤ net_before file i → record_rows file i ≡ refused 22 i 0
  net_refused [] d l = none_refused file net i before (none_read d) l
  net_refused (p ∷ ps) d l =
      points_refused file net i before (λ (k : ℕ). get_or (p ∷ ps) k origin) (length (p ∷ ps)) (points_read d) (omega arith) l

  module _ (high : net_before file i < net) where
    pub net_passes : (ps : List Point) → Placed file net ps i → length ps ≤ 65536
        → (in_order (i + records_for (length ps)) (record_rows file) ≡ passes) × (net_before file (i + records_for (length ps)) ≡ net)
    net_passes [] d l =
        let s : i + 1 ≡ suc i = omega arith in
        (none_passes file net i before (none_read d) high, rw s (none_read d 1 (omega arith)))
    net_passes (p ∷ ps) d l =
        let b = points_pass file net i before (λ (k : ℕ). get_or (p ∷ ps) k origin) (length (p ∷ ps)) (points_read d) high (length ps) (omega arith) (omega arith) in
        (b.pass, b.net_is)

    pub net_long : (ps : List Point) → Placed file net ps i → 65536 < length ps
        → (in_order (i + 65536) (record_rows file) ≡ passes) × (record_rows file (i + 65536) ≡ refused 22 (i + 65536) 0)
    net_long [] d l = absurd (omega arith)
    net_long (p ∷ ps) d l =
        too_many file net i before (λ (k : ℕ). get_or (p ∷ ps) k origin) (length (p ∷ ps)) (points_read d) high l
