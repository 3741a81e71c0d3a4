-- What is wrong with a record after records that pass: only the one before it matters. Assumes nothing.
use Prim.Native.Nat.{ℕ, zero, suc, ◌+◌, ◌-◌, ◌≤◌, ◌<◌}
use mathlib.Core.Path.{◌≡◌, refl, sym, ◌∙◌}
use mathlib.Core.Logic.{⊎_elim}
use mathlib.Core.Bool.{Bool, true, false, not, ◌&&◌, ◌||◌}
use mathlib.Core.List.{List}
use native.Mathlib.Omega.{arith}
use lib.Dec.{ltb, eqb, eqb-suc-zero}
use borrow.Author.Tests.{not-false, ltb-false, eqb-true, eqb-false, eq-eqb, ne_eqb}
use Rattle.laws.specs.Below.{some}
use Rattle.laws.proofs.Tests.{bool_cases, or_neither, or_right, or_false}
use Rattle.laws.proofs.Below.{some_none}
use Rattle.board.specs.Handed.{Verdict, passes, row}
use Rattle.board.proofs.Verdicts.{row_passes, both_pass}
use Rattle.records.specs.Records.{record_bytes, byte, in_order, stray_byte, unused_row}
use Rattle.records.proofs.Stray.{unused_passes}
use Rattle.records.proofs.InOrder.{each_passes}
use Rattle.tracks.specs.Tracks.{is_point, is_none, net_of, place_of}
use Rattle.tracks.specs.Faults.{is_unknown, used_by, net_before, is_net_wrong, has_earlier, is_first_wrong, is_later_wrong}
use Rattle.tracks.specs.Faults.{is_none_wrong, is_wrong, record_rows}
use Rattle.tracks.specs.Inner.{next_place, wrong_after}

-- ---- a record that passes

pub record Clean (file : List ℕ) (i : ℕ) : Type 0 where
  pub known : is_unknown file i ≡ false
  pub tidy : ltb (stray_byte file (used_by (byte file i 0)) i) record_bytes ≡ false
  pub right : is_wrong file i ≡ false

pub clean : (file : List ℕ) (i : ℕ) → record_rows file i ≡ passes → Clean file i
unfolding record_rows
clean file i e =
    let (by-13, after-13) = both_pass (row (is_unknown file i) 13 i) _ e in
    let (by-23, by-22) = both_pass (unused_row file (used_by (byte file i 0)) i) _ after-13 in
    record {
      known = row_passes (is_unknown file i) 13 i by-13;
      tidy = unused_passes file (used_by (byte file i 0)) i by-23;
      right = row_passes (is_wrong file i) 22 i by-22;
    }

-- records that pass, pass up to each of them
pub prefix : (rows : ℕ → Verdict) (m d : ℕ) → in_order (m + d) rows ≡ passes → in_order m rows ≡ passes
unfolding in_order
prefix rows m zero e = let s : m + 0 ≡ m = omega arith in rw s at e
prefix rows m (suc d) e =
    let s : m + suc d ≡ suc (m + d) = omega arith in
    prefix rows m d (both_pass (in_order (m + d) rows) (rows (m + d)) (rw s at e)).0

-- a record of a known type that is no point is none
pub none_is : (file : List ℕ) (i : ℕ) → is_unknown file i ≡ false → is_none file i ≡ not (is_point file i)
none_is file i e = known (byte file i 0) (not-false _ e)
  where
    known : (t : ℕ) → (eqb t 4 || eqb t 5) ≡ true → eqb t 5 ≡ not (eqb t 4)
    known t k =
        ⊎_elim
        (λ (p : eqb t 4 ≡ true). let q = eqb-true t 4 p in rw q)
        (λ (p : eqb t 4 ≡ false). rw p (rw p at k))
        (bool_cases (eqb t 4))

module _ (file : List ℕ) where
  -- a number that is not wrong is above 0, and not below the one before
  net_right : (i : ℕ) → is_net_wrong file i ≡ false → (1 ≤ net_of file i) × (net_before file i ≤ net_of file i)
  net_right i e =
      let (z, l) = or_neither (eqb (net_of file i) 0) (ltb (net_of file i) (net_before file i)) e in
      let n = eqb-false (net_of file i) 0 z in
      (omega arith, ltb-false (net_of file i) (net_before file i) l)

  pub clean_net : (i : ℕ) → is_wrong file i ≡ false → (1 ≤ net_of file i) × (net_before file i ≤ net_of file i)
  unfolding is_wrong
  clean_net i e = net_right i (or_neither (is_net_wrong file i) (is_first_wrong file i || (is_later_wrong file i || is_none_wrong file i)) e).0

  -- ---- records in order that pass

  module _ (n : ℕ) (all : in_order n (record_rows file) ≡ passes) where
    pub passed : (i : ℕ) → i < n → Clean file i
    passed i l = clean file i (each_passes (record_rows file) n all i l)

    -- numbers do not fall
    pub rising : (d i : ℕ) → i + d < n → net_of file i ≤ net_of file (i + d)
    rising zero i l = let e : i + 0 ≡ i = omega arith in rw e (omega arith)
    rising (suc d) i l =
        let e : i + suc d ≡ suc (i + d) = omega arith in
        rw e (omega (arith, rising d i (omega arith), (clean_net (suc (i + d)) (passed (suc (i + d)) (omega arith)).right).1))

    -- so an earlier record of the net is the one before
    pub earlier_is : is_net_wrong file n ≡ false → has_earlier file n ≡ eqb (net_of file n) (net_before file n)
    unfolding has_earlier some
    earlier_is e = go n refl (net_right n e)
      where
        go : (m : ℕ) → m ≡ n → (1 ≤ net_of file m) × (net_before file m ≤ net_of file m) → has_earlier file m ≡ eqb (net_of file m) (net_before file m)
        go zero q (some-net, k) = sym (ne_eqb (net_of file 0) 0 (λ z. omega arith))
        go (suc i) q (some-net, k) =
            ⊎_elim
            (λ (h : eqb (net_of file i) (net_of file (suc i)) ≡ true).
            or_right (some i (λ (j : ℕ). eqb (net_of file j) (net_of file (suc i)))) h
            ∙ sym (eq-eqb (net_of file (suc i)) (net_of file i) (sym (eqb-true (net_of file i) (net_of file (suc i)) h))))
            (λ (h : eqb (net_of file i) (net_of file (suc i)) ≡ false).
            let apart = eqb-false (net_of file i) (net_of file (suc i)) h in
            some_none (λ (j : ℕ). eqb (net_of file j) (net_of file (suc i))) (suc i) (λ (j : ℕ) (l : j < suc i).
            ne_eqb (net_of file j) (net_of file (suc i)) (λ (s : net_of file j ≡ net_of file (suc i)).
            let d : j + (i - j) ≡ i = omega arith in
            let up = rising (i - j) j (omega arith) in
            omega (arith, rw d at up)))
            ∙ sym (ne_eqb (net_of file (suc i)) (net_of file i) (λ s. apart (sym s))))
            (bool_cases (eqb (net_of file i) (net_of file (suc i))))

    -- ---- so record n is judged by the one before it

    pub wrong_is : is_unknown file n ≡ false
        → is_wrong file n ≡ wrong_after (net_before file n) (next_place file n) (net_of file n) (place_of file n) (is_point file n)
    unfolding is_wrong wrong_after
    wrong_is known =
        ⊎_elim
        (λ (w : is_net_wrong file n ≡ true). rw w)
        (λ (w : is_net_wrong file n ≡ false).
        let h = earlier_is w in
        ⊎_elim
        (λ (s : eqb (net_of file n) (net_before file n) ≡ true). rw (w, h, s, none_is file n known) (again n refl w s))
        (λ (s : eqb (net_of file n) (net_before file n) ≡ false).
        rw (w, h, s) (or_false (is_point file n && not (eqb (place_of file n) 0))))
        (bool_cases (eqb (net_of file n) (net_before file n))))
        (bool_cases (is_net_wrong file n))
      where
        -- a point after a point, and anything after none
        after_point : (point right : Bool) → ((point && not right) || (not point || false)) ≡ not (point && right)
        after_point true right = or_false (not right)
        after_point false right = refl

        after_none : (point a : Bool) → (a || (not point || true)) ≡ not (point && false)
        after_none true a = or_right a refl
        after_none false a = or_right a refl

        again : (m : ℕ) → m ≡ n → is_net_wrong file m ≡ false → eqb (net_of file m) (net_before file m) ≡ true
            → ((is_point file m && not (eqb (place_of file m) (suc (place_of file (m - 1)))))
            || (not (is_point file m) || is_none file (m - 1)))
            ≡ not (is_point file m && (not (eqb (next_place file m) 0) && eqb (place_of file m) (next_place file m)))
        again zero q w s = let k = eqb-true (net_of file 0) 0 s in absurd (omega (arith, net_right 0 w))
        again (suc i) q w s =
            let e : suc i - 1 ≡ i = omega arith in
            ⊎_elim
            (λ (p : is_point file i ≡ true).
            rw (e, none_is file i (passed i (omega arith)).known, p, eqb-suc-zero (place_of file i))
            (after_point (is_point file (suc i)) (eqb (place_of file (suc i)) (suc (place_of file i)))))
            (λ (p : is_point file i ≡ false).
            rw (e, none_is file i (passed i (omega arith)).known, p)
            (after_none (is_point file (suc i)) (is_point file (suc i) && not (eqb (place_of file (suc i)) (suc (place_of file i))))))
            (bool_cases (is_point file i))
