-- Where the points of a net stand in a file that passes: its records come one after the other. Assumes nothing.
use Prim.Native.Nat.{ℕ, zero, suc, ◌+◌, ◌-◌, ◌≤◌, ◌<◌}
use mathlib.Core.Path.{◌≡◌, refl, sym, ap, ◌∙◌}
use mathlib.Core.Logic.{◌≢◌, ⊎_elim}
use mathlib.Core.Bool.{Bool, true, false, ◌||◌, not, cond, true≢false}
use mathlib.Core.List.{List, [], ◌∷◌}
use native.Mathlib.Omega.{arith}
use lib.Dec.{ltb, eqb}
use lib.ListN.{length}
use borrow.Author.Tests.{eqb-true, eqb-false, eq-eqb, ne_eqb, lt-ltb, ltb-true, not-true, not-false}
use Rattle.std.specs.Prelude.{Option, Some, None, MatchOption, is_some, unwrap_or}
use Rattle.laws.proofs.Tests.{order, bool_cases, or_left, or_right, or_cases, same_test}
use Rattle.laws.proofs.Below.{first_passes, first_before, some_none}
use Rattle.board.specs.Handed.{passes}
use Rattle.records.specs.Records.{records, in_order, is_in}
use Rattle.tracks.specs.Tracks.{Point, Route, is_point, net_of, place_of, point_of, with_point, with_record, routes_from, routes_in}
use Rattle.tracks.specs.Faults.{file_rows, record_rows, has_earlier, is_first_wrong, is_net_wrong, is_wrong}
use Rattle.tracks.specs.Layout.{numbers_of}
use Rattle.tracks.proofs.Before.{passed, rising}
use Rattle.tracks.proofs.Theorems.{all_records}
use Rattle.tracks.proofs.Trips as trips
use Rattle.tracks.proofs.Trips.{After, after, Led, some_leads}
use Rattle.bureau.specs.Paths.{point_at}
use Rattle.bureau.specs.Nets.{points_for, in_routes}
use Rattle.bureau.specs.Inner.{place_before, first_record, Run, Stretch, LastOf, PointsOf}
use Rattle.bureau.proofs.Finding.{place_some, place_none}

-- ---- which nets the routes of a file have

module _ (file : List ℕ) (number : ℕ) where
  or_again : (a c : Bool) → (a || c) ≡ (a || (a || c))
  or_again true c = refl
  or_again false c = refl

  point_in : (net : ℕ) (p : Point) (rs : List Route) → is_in number (numbers_of (with_point net p rs)) ≡ (eqb number net || is_in number (numbers_of rs))
  unfolding with_point numbers_of
  point_in net p [] = refl
  point_in net p (r ∷ rs) =
      ⊎_elim
      (λ (s : eqb net r.net ≡ true).
      let e : r.net ≡ net = sym (eqb-true net r.net s) in
      rw (s, e) (or_again (eqb number net) (is_in number (numbers_of rs))))
      (λ (s : eqb net r.net ≡ false). rw s)
      (bool_cases (eqb net r.net))

  record_in : (i : ℕ) (rs : List Route) → is_in number (numbers_of (with_record file i rs)) ≡ (eqb number (net_of file i) || is_in number (numbers_of rs))
  unfolding with_record numbers_of
  record_in i rs =
      ⊎_elim
      (λ (p : is_point file i ≡ true). rw p (point_in (net_of file i) (point_of file i) rs))
      (λ (p : is_point file i ≡ false). rw p)
      (bool_cases (is_point file i))

  -- a route has a record of its net, and a record a route
  in_some : (m i : ℕ) → is_in number (numbers_of (routes_from file m i)) ≡ true → (j : ℕ) × (j < i + m) × (eqb (net_of file j) number ≡ true)
  unfolding routes_from numbers_of
  in_some zero i h = absurd (true≢false (sym h))
  in_some (suc m) i h =
      ⊎_elim
      (λ (e : eqb number (net_of file i) ≡ true).
      (i, omega arith, eq-eqb (net_of file i) number (sym (eqb-true number (net_of file i) e))))
      (λ (e : is_in number (numbers_of (routes_from file m (suc i))) ≡ true).
      let (j, l, f) = in_some m (suc i) e in
      (j, omega arith, f))
      (or_cases (eqb number (net_of file i)) _ (sym (record_in i (routes_from file m (suc i))) ∙ h))

  some_in : (m i j : ℕ) → i ≤ j → j < i + m → net_of file j ≡ number → is_in number (numbers_of (routes_from file m i)) ≡ true
  unfolding routes_from numbers_of
  some_in zero i j l h e = absurd (omega arith)
  some_in (suc m) i j l h e =
      record_in i (routes_from file m (suc i))
      ∙ ⊎_elim
      (λ (b : i < j). or_right (eqb number (net_of file i)) (some_in m (suc i) j (omega arith) (omega arith) e))
      (λ (b : j ≤ i). let s : j ≡ i = omega arith in or_left _ (eq-eqb number (net_of file i) (sym (rw s at e))))
      (order i j)

  first_is : first_record file number < records file → net_of file (first_record file number) ≡ number
  unfolding first_record
  first_is l = eqb-true _ number (first_passes (λ (i : ℕ). eqb (net_of file i) number) (records file) l)

  -- the routes have the net exactly if a record is found
  pub routes_have : in_routes (routes_in file) number ≡ ltb (first_record file number) (records file)
  unfolding in_routes first_record
  routes_have =
      same_test _ _
      (λ (h : is_in number (numbers_of (routes_from file (records file) 0)) ≡ true).
      let (j, l, e) = in_some (records file) 0 h in
      ⊎_elim
      (λ (b : first_record file number < records file). lt-ltb (first_record file number) (records file) b)
      (λ (b : records file ≤ first_record file number).
      absurd (true≢false (sym e ∙ first_before (λ (i : ℕ). eqb (net_of file i) number) (records file) j (omega arith))))
      (order (first_record file number) (records file)))
      (λ (h : ltb (first_record file number) (records file) ≡ true).
      let l = ltb-true (first_record file number) (records file) h in
      some_in (records file) 0 (first_record file number) (omega arith) (omega arith) (first_is l))

-- the code looks for a record
pub record_told : (file : List ℕ) (number : ℕ) {r : Option ℕ} → r ≡ place_before (first_record file number) (records file)
    → is_some r ≡ in_routes (routes_in file) number
record_told file number e = ap is_some e ∙ told (ltb (first_record file number) (records file)) (first_record file number) ∙ sym (routes_have file number)
  where
    told : (t : Bool) (i : ℕ) → is_some (cond t (Some i) None) ≡ t
    told true i = refl
    told false i = refl

-- ---- the points of a net, record by record

-- what a choice gives
taken : (a b : List Point) {t : Bool} {r : List Point} → t ≡ true → cond t a b ≡ r → a ≡ r
taken a b e h = sym (ap (λ (t : Bool). cond t a b) e) ∙ h

left : (a b : List Point) {t : Bool} {r : List Point} → t ≡ false → cond t a b ≡ r → b ≡ r
left a b e h = sym (ap (λ (t : Bool). cond t a b) e) ∙ h

module _ (file : List ℕ) (number : ℕ) where
  -- the points of the records of the net among m from record i on, up to one that says there are none
  gathered : (m i : ℕ) → List Point
  gathered zero i = []
  gathered (suc m) i =
      cond (eqb (net_of file i) number) (cond (is_point file i) (point_of file i ∷ gathered m (suc i)) []) (gathered m (suc i))

  -- no record of the net, no point
  none_gathered : (m i : ℕ) → ((j : ℕ) → i ≤ j → j < i + m → net_of file j ≢ number) → gathered m i ≡ []
  unfolding gathered
  none_gathered zero i h = refl
  none_gathered (suc m) i h =
      rw (ne_eqb (net_of file i) number (h i (omega arith) (omega arith)))
      (none_gathered m (suc i) (λ (j : ℕ) (l : suc i ≤ j) (b : j < suc i + m). h j (omega arith) (omega arith)))

  -- records of other nets before it do not matter
  skipped : (d m i : ℕ) → ((j : ℕ) → i ≤ j → j < i + d → net_of file j ≢ number) → gathered (d + m) i ≡ gathered m (i + d)
  unfolding gathered
  skipped zero m i h = let e : i + 0 ≡ i = omega arith in let z : 0 + m ≡ m = omega arith in rw (e, z)
  skipped (suc d) m i h =
      let e : i + suc d ≡ suc i + d = omega arith in
      let z : suc d + m ≡ suc (d + m) = omega arith in
      rw (e, z, ne_eqb (net_of file i) number (h i (omega arith) (omega arith)))
      (skipped d m (suc i) (λ (j : ℕ) (l : suc i ≤ j) (b : j < suc i + d). h j (omega arith) (omega arith)))

  -- the points of n records
  point_list : (n i : ℕ) → List Point
  point_list zero i = []
  point_list (suc n) i = point_of file i ∷ point_list n (suc i)

  list_length : (n i : ℕ) → length (point_list n i) ≡ n
  unfolding point_list
  list_length zero i = refl
  list_length (suc n) i = ap suc (list_length n (suc i))

  list_at : (n i k : ℕ) → k < n → point_at (point_list n i) k ≡ point_of file (i + k)
  unfolding point_list
  list_at zero i k l = absurd (omega arith)
  list_at (suc n) i zero l = let e : i + 0 ≡ i = omega arith in rw e
  list_at (suc n) i (suc k) l = let e : i + suc k ≡ suc i + k = omega arith in rw e (list_at n (suc i) k (omega arith))

  run_gathered : (n m i : ℕ) → ((j : ℕ) → i ≤ j → j < i + n → (is_point file j ≡ true) × (net_of file j ≡ number)) → gathered m (i + n) ≡ []
      → gathered (n + m) i ≡ point_list n i
  unfolding gathered point_list
  run_gathered zero m i h e = let s : i + 0 ≡ i = omega arith in let z : 0 + m ≡ m = omega arith in rw z (rw s at e)
  run_gathered (suc n) m i h e =
      let s : i + suc n ≡ suc i + n = omega arith in
      let z : suc n + m ≡ suc (n + m) = omega arith in
      let (p, q) = h i (omega arith) (omega arith) in
      rw (z, eq-eqb (net_of file i) number q, p)
      (ap (λ (l : List Point). point_of file i ∷ l)
      (run_gathered n m (suc i) (λ (j : ℕ) (l : suc i ≤ j) (b : j < suc i + n). h j (omega arith) (omega arith)) (rw s at e)))

  -- ---- in a file that passes they are those of its route

  module _ (all : in_order (records file) (record_rows file) ≡ passes) where
    -- numbers rise, so that behind another net a net does not come back
    behind : (i : ℕ) → suc i < records file → net_of file i ≢ net_of file (suc i) → (j : ℕ) → suc i ≤ j → j < records file → net_of file j ≢ net_of file i
    behind i l apart j b h e =
        let d : suc i + (j - suc i) ≡ j = omega arith in
        let f : i + 1 ≡ suc i = omega arith in
        let one = rw f at (rising file (records file) all 1 i (omega arith)) in
        let up = rw d at (rising file (records file) all (j - suc i) (suc i) (omega arith)) in
        apart (omega arith)

    gathered_is : (m i : ℕ) → i + m ≡ records file → points_for (routes_from file m i) number ≡ gathered m i
    unfolding routes_from with_record with_point points_for gathered
    gathered_is zero i e = refl
    gathered_is (suc m) i e =
        ⊎_elim
        (λ (p : is_point file i ≡ true). rw p (pointed m e (gathered_is m (suc i) (omega arith))))
        (λ (p : is_point file i ≡ false).
        rw p (ap (λ (t : List Point). cond (eqb (net_of file i) number) [] t) (gathered_is m (suc i) (omega arith))))
        (bool_cases (is_point file i))
      where
        pointed : (m : ℕ) → i + suc m ≡ records file → points_for (routes_from file m (suc i)) number ≡ gathered m (suc i)
            → points_for (with_point (net_of file i) (point_of file i) (routes_from file m (suc i))) number
            ≡ cond (eqb (net_of file i) number) (point_of file i ∷ gathered m (suc i)) (gathered m (suc i))
        pointed zero e rest = refl
        pointed (suc m) e rest =
            let L = some_leads file m (suc i) in
            let later = rw L.led at rest in
            ⊎_elim
            (λ (s : eqb (net_of file i) (net_of file (suc i)) ≡ true).
            let t = eqb-true (net_of file i) (net_of file (suc i)) s in
            ⊎_elim
            (λ (h : eqb (net_of file i) number ≡ true).
            let next : eqb (net_of file (suc i)) number ≡ true = rw (← t) h in
            rw (L.led, s, h) (ap (λ (l : List Point). point_of file i ∷ l) (taken L.more (points_for L.others number) next later)))
            (λ (h : eqb (net_of file i) number ≡ false).
            let next : eqb (net_of file (suc i)) number ≡ false = rw (← t) h in
            rw (L.led, s, h) (left L.more (points_for L.others number) next later))
            (bool_cases (eqb (net_of file i) number)))
            (λ (s : eqb (net_of file i) (net_of file (suc i)) ≡ false).
            ⊎_elim
            (λ (h : eqb (net_of file i) number ≡ true).
            let n = eqb-true (net_of file i) number h in
            let none : gathered (suc m) (suc i) ≡ [] =
            none_gathered (suc m) (suc i) (λ (j : ℕ) (l : suc i ≤ j) (b : j < suc i + suc m) (q : net_of file j ≡ number).
            behind i (omega arith) (eqb-false (net_of file i) (net_of file (suc i)) s) j l (omega arith) (q ∙ sym n)) in
            rw (L.led, s, h) (ap (λ (l : List Point). point_of file i ∷ l) (sym none)))
            (λ (h : eqb (net_of file i) number ≡ false). rw (L.led, s, h) later)
            (bool_cases (eqb (net_of file i) number)))
            (bool_cases (eqb (net_of file i) (net_of file (suc i))))

    -- no record of the net, no point
    pub none_there : records file ≤ first_record file number → points_for (routes_in file) number ≡ []
    unfolding first_record
    none_there l =
        gathered_is (records file) 0 (omega arith)
        ∙ none_gathered (records file) 0 (λ (j : ℕ) (a : 0 ≤ j) (b : j < 0 + records file) (e : net_of file j ≡ number).
        true≢false (sym (eq-eqb (net_of file j) number e) ∙ first_before (λ (i : ℕ). eqb (net_of file i) number) (records file) j (omega arith)))

    -- ---- the net's first record says how it goes on

    module _ (first : ℕ) (is : first ≡ first_record file number) (l : first < records file) where
      first_net : net_of file first ≡ number
      first_net = rw is (first_is file number (rw is at l))

      none_before : (j : ℕ) → j < first → net_of file j ≢ number
      unfolding first_record
      none_before j b e =
          true≢false (sym (eq-eqb (net_of file j) number e) ∙ first_before (λ (i : ℕ). eqb (net_of file i) number) (records file) j (rw is at b))

      from_first : points_for (routes_in file) number ≡ gathered (records file - first) first
      from_first =
          let d : first + (records file - first) ≡ records file = omega arith in
          let z : 0 + first ≡ first = omega arith in
          gathered_is (records file) 0 (omega arith)
          ∙ rw (d, z) at (skipped first (records file - first) 0 (λ (j : ℕ) (a : 0 ≤ j) (b : j < 0 + first). none_before j (omega arith)))

      -- it has no point: no path is claimed
      pub none_given : is_point file first ≡ false → points_for (routes_in file) number ≡ []
      unfolding gathered
      none_given p =
          let d : records file - first ≡ suc (records file - first - 1) = omega arith in
          from_first ∙ rw (d, eq-eqb (net_of file first) number first_net, p)

      -- it is at place 0
      pub first_place : is_point file first ≡ true → place_of file first ≡ 0
      unfolding is_wrong has_earlier
      first_place p =
          let right = (passed file (records file) all first l).right in
          let earlier : has_earlier file first ≡ false =
          some_none (λ (j : ℕ). eqb (net_of file j) (net_of file first)) first
          (λ (j : ℕ) (b : j < first). ne_eqb (net_of file j) (net_of file first) (λ (e : net_of file j ≡ net_of file first). none_before j b (e ∙ first_net))) in
          let wrong = first_wrong (is_net_wrong file first) (is_first_wrong file first) _ right in
          eqb-true (place_of file first) 0 (not-false _ (rw (earlier, p) at wrong))
        where
          first_wrong : (a b c : Bool) → (a || (b || c)) ≡ false → b ≡ false
          first_wrong false false c h = refl
          first_wrong false true c h = h
          first_wrong true b c h = absurd (true≢false h)

      -- its points are those of its run
      module _ (n : ℕ) (r : Run file first n) where
        run_list : points_for (routes_in file) number ≡ point_list n first
        run_list =
            let rest : ℕ = records file - first - n in
            let d : n + rest ≡ records file - first = omega (arith, r.within) in
            let nothing : gathered rest (first + n) ≡ [] =
            none_gathered rest (first + n) (λ (j : ℕ) (a : first + n ≤ j) (b : j < first + n + rest) (e : net_of file j ≡ number).
            past j a (omega (arith, r.within)) e) in
            from_first
            ∙ rw d at (run_gathered n rest first (λ (j : ℕ) (a : first ≤ j) (b : j < first + n).
            let k : first + (j - first) ≡ j = omega arith in
            (rw k at (r.points (j - first) (omega arith)), rw k at (r.same (j - first) (omega arith)) ∙ first_net)) nothing)
          where
            past : (j : ℕ) → first + n ≤ j → j < records file → net_of file j ≡ number → ⊥
            past j a b e =
                let d : first + n + (j - (first + n)) ≡ j = omega arith in
                let up = rw d at (rising file (records file) all (j - (first + n)) (first + n) (omega arith)) in
                let high = rising file (records file) all n first (omega arith) in
                r.ends (omega arith) (omega (arith, first_net))

        pub run_length : length (points_for (routes_in file) number) ≡ n
        run_length = ap length run_list ∙ list_length n first

        pub run_at : (k : ℕ) → k < n → point_at (points_for (routes_in file) number) k ≡ point_of file (first + k)
        run_at k b = ap (λ (ps : List Point). point_at ps k) run_list ∙ list_at n first k b

-- ---- a run is found record by record

-- record k is of another net than this one
abbrev pub is_other : List ℕ → (number : ℕ) → ℕ → Bool
is_other file number k = not (eqb (net_of file k) number)

module _ (file : List ℕ) (all : in_order (records file) (record_rows file) ≡ passes) (first : ℕ) where
  pub stretch_begins : first < records file → is_point file first ≡ true → place_of file first ≡ 0 → Stretch file first first
  stretch_begins l p z = record {
    order = omega arith;
    within = l;
    points = λ i a b. let e : i ≡ first = omega arith in rw e p;
    same = λ i a b. let e : i ≡ first = omega arith in rw e;
    place = z ∙ omega arith;
  }

  pub stretch_more : (last : ℕ) → Stretch file first last → suc last < records file → net_of file (suc last) ≡ net_of file first → Stretch file first (suc last)
  stretch_more last s l e = more (after file all last l)
    where
      same : net_of file last ≡ net_of file (suc last)
      same = s.same last s.order (omega arith) ∙ sym e

      more : After file last → Stretch file first (suc last)
      more (trips.begins d z) = absurd (eqb-false (net_of file last) (net_of file (suc last)) d same)
      more (trips.goes_on t p q u) = record {
        order = omega (arith, s.order);
        within = l;
        points = λ i a b.
            ⊎_elim (λ (h : i < suc last). s.points i a (omega arith)) (λ (h : suc last ≤ i). let k : i ≡ suc last = omega arith in rw k q) (order i (suc last));
        same = λ i a b.
            ⊎_elim (λ (h : i < suc last). s.same i a (omega arith)) (λ (h : suc last ≤ i). let k : i ≡ suc last = omega arith in rw k e) (order i (suc last));
        place = u ∙ omega (arith, s.place, s.order);
      }

  -- the last one's place tells how many there are
  pub last_run : (last n : ℕ) → LastOf file first last → n ≡ place_of file last + 1 → Run file first n
  last_run last n L e =
      let s = L.stretch in
      let d : n ≡ last - first + 1 = omega (arith, s.place) in
      let f : first + n ≡ suc last = omega (arith, s.order) in
      record {
        some = omega arith;
        within = omega (arith, s.within);
        points = λ k b. s.points (first + k) (omega arith) (omega arith);
        same = λ k b. s.same (first + k) (omega arith) (omega arith);
        ends = rw f L.ends;
      }

  -- records of one net, one after the other, are its points
  module _ (l : first < records file) (p : is_point file first ≡ true) (z : place_of file first ≡ 0) where
    stretch_to : (d : ℕ) → first + d < records file → ((k : ℕ) → first ≤ k → k < suc (first + d) → net_of file k ≡ net_of file first)
        → Stretch file first (first + d)
    stretch_to zero m same = let e : first + 0 ≡ first = omega arith in rw e (stretch_begins l p z)
    stretch_to (suc d) m same =
        let e : first + suc d ≡ suc (first + d) = omega arith in
        rw e (stretch_more (first + d) (stretch_to d (omega arith) (λ k a b. same k a (omega arith))) (omega arith)
        (same (suc (first + d)) (omega arith) (omega arith)))

    last_before : (end : ℕ) → first < end → end ≤ records file → ((k : ℕ) → first ≤ k → k < end → net_of file k ≡ net_of file first)
        → (end < records file → net_of file end ≢ net_of file first) → LastOf file first (end - 1)
    last_before end a b same h =
        let e : first + (end - 1 - first) ≡ end - 1 = omega arith in
        let s : suc (end - 1) ≡ end = omega arith in
        record { stretch = rw e at (stretch_to (end - 1 - first) (omega arith) (λ k x y. same k x (omega arith))); ends = rw s h }

    -- the code looks for a record of another net
    module _ {number : ℕ} (is : number ≡ net_of file first) where
      one_net : (k : ℕ) → is_other file number k ≡ false → net_of file k ≡ net_of file first
      one_net k h = eqb-true (net_of file k) number (not-false (eqb (net_of file k) number) h) ∙ is

      other_net : (k : ℕ) → is_other file number k ≡ true → net_of file k ≢ net_of file first
      other_net k h e = eqb-false (net_of file k) number (not-true (eqb (net_of file k) number) h) (e ∙ sym is)

      pub last_told : (r : Option ℕ) → MatchOption r ((k : ℕ) → first ≤ k → k < records file → is_other file number k ≡ false)
          (λ i. (first ≤ i) × (i < records file) × (is_other file number i ≡ true)
          × ((k : ℕ) → first ≤ k → k < i → is_other file number k ≡ false))
          → (1 ≤ unwrap_or r (records file)) × LastOf file first (unwrap_or r (records file) - 1)
      last_told None h = (omega (arith, l), last_before (records file) l (omega arith) (λ k a b. one_net k (h k a b)) (λ b. absurd (omega arith)))
      last_told (Some i) h =
          let other = other_net i h.2 in
          let above : first < i =
          ⊎_elim (λ (b : first < i). b) (λ (b : i ≤ first). let e : i ≡ first = omega (arith, h.0) in absurd (other (ap (net_of file) e))) (order first i) in
          (omega (arith, above), last_before i above (omega (arith, h.1)) (λ k a b. one_net k (h.3 k a b)) (λ b. other))

-- ---- what the code asks: the net's first record, if there is one, and whether it is a point

module _ (file : List ℕ) (number : ℕ) (clean : file_rows file ≡ passes) where
  pub no_record : None ≡ place_before (first_record file number) (records file) → points_for (routes_in file) number ≡ []
  no_record e = none_there file number (all_records file clean) (place_none (first_record file number) (records file) e)

  module _ {first : ℕ} (found : Some first ≡ place_before (first_record file number) (records file)) where
    there : (first < records file) × (first ≡ first_record file number)
    there = place_some (first_record file number) (records file) found

    pub no_point : is_point file first ≡ false → points_for (routes_in file) number ≡ []
    no_point p = none_given file number (all_records file clean) first there.1 there.0 p

    module _ (p : is_point file first ≡ true) where
      pub begins : (first < records file) × (is_point file first ≡ true) × (place_of file first ≡ 0)
      begins = (there.0, p, first_place file number (all_records file clean) first there.1 there.0 p)

      pub points_are : {n : ℕ} → Run file first n × (n ≤ 65536)
          → (first ≡ first_record file number) × PointsOf file number (record { first = first; count = n })
      points_are {n} r = (
        there.1,
        record {
          some = r.0.some;
          few = r.1;
          within = r.0.within;
          length_is = run_length file number (all_records file clean) first there.1 there.0 n r.0;
          point_is = run_at file number (all_records file clean) first there.1 there.0 n r.0;
        },
      )
