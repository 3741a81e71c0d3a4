-- A search on longer lists: it is the search, and what lies beyond the vertices is kept. Assumes nothing.
use mathlib.Core.Path.{◌≡◌, refl, sym, ap, ◌∙◌}
use mathlib.Core.Bool.{Bool, true, false}
use mathlib.Core.List.{List, ◌++◌}
use Prim.Native.Nat.{ℕ, zero, suc, ◌+◌, ◌≤◌, ◌<◌}
use native.Mathlib.Omega.{arith}
use native.Mathlib.Decide.{ℕ_discrete}
use lib.Dec.{eqb}
use lib.ListN.{drop, get_or-append}
use lib.Seq.{set-append_left}
use Rattle.reach.specs.Turns.{at, Result, turns}
use Rattle.reach.proofs.Carried.{Carries, turns_carried}
use Rattle.theta.specs.Order.{ranked}
use Rattle.theta.specs.Search.{
  Problem,
  State,
  initial,
  contest_of,
  choice_of,
  choose,
  due,
  via,
  cost,
  legs_by,
  wins,
  store,
  relax,
  around,
  close,
  expand,
  basic,
  search,
  trail,
  path,
}
use Rattle.theta.specs.Fair.{Fair}
use Rattle.theta.specs.Lent.{Searched}
use Rattle.theta.proofs.Least.{least_same}
use Rattle.theta.proofs.Wins.{wins_same}
use Rattle.theta.proofs.Choosing.{choose_vertex}
use Rattle.theta.proofs.Begins.{beyond, begins_initial}
use Rattle.theta.proofs.Completeness.{search_keep}
use Rattle.theta.proofs.Trails.{trail_start, trail_back}
use Rattle.theta.proofs.Tidy.{Tidy, tidy_start, tidy_kept, via_below, relax_tidy, close_tidy, expand_tidy, around_keep}

module _ (gs ps ms ls : List ℕ) where
  long : State → State
  long s = beyond s gs ps ms ls

  -- ---- the entries of the vertices are the same

  module _ {p : Problem} {s : State} (T : Tidy p s) where
    g_same : (v : ℕ) → v < p.size → at (long s).g v ≡ at s.g v
    unfolding long beyond
    g_same v l = get_or-append s.g gs 0 v (omega (arith, T.room_g))

    parent_same : (v : ℕ) → v < p.size → at (long s).parent v ≡ at s.parent v
    unfolding long beyond
    parent_same v l = get_or-append s.parent ps 0 v (omega (arith, T.room_p))

    mark_same : (v : ℕ) → v < p.size → at (long s).mark v ≡ at s.mark v
    unfolding long beyond
    mark_same v l = get_or-append s.mark ms 0 v (omega (arith, T.room_m))

    legs_same : (v : ℕ) → v < p.size → at (long s).legs v ≡ at s.legs v
    unfolding long beyond
    legs_same v l = get_or-append s.legs ls 0 v (omega (arith, T.room_l))

    -- the choice reads only these
    choose_beyond : choose p (long s) ≡ choose p s
    unfolding choose
    choose_beyond =
        ap (λ (u : ℕ). choice_of (eqb u p.size) (eqb u p.goal) u)
        (least_same (contest_of p s) (contest_of p (long s)) refl (λ v l. ap (λ (x : ℕ). eqb x 1) (mark_same v l))
        (λ v l. rank_same v (g_same v l) (legs_same v l)) p.size (omega arith))
      where
        rank_same : (v : ℕ) {g g' k k' : ℕ} → g ≡ g' → k ≡ k' → ranked (g + p.len v p.goal) g k v ≡ ranked (g' + p.len v p.goal) g' k' v
        rank_same v e f = rw (e, f) refl

    -- ---- so is what one neighbour gets

    store_beyond : (d : Bool) (w c g : ℕ) → w < p.size → c < p.size → store d w c g (long s) ≡ long (store d w c g s)
    unfolding long beyond
    store_beyond true w c g l k =
        rw (
          set-append_left s.g gs w g (omega (arith, T.room_g)),
          set-append_left s.parent ps w c (omega (arith, T.room_p)),
          set-append_left s.mark ms w 1 (omega (arith, T.room_m)),
          legs_same c k,
          set-append_left s.legs ls w (legs_by s c) (omega (arith, T.room_l)),
        ) refl
    store_beyond false w c g l k = refl

    relax_beyond : (x : Bool) (u w : ℕ) → u < p.size → w < p.size → relax x p u w (long s) ≡ long (relax x p u w s)
    relax_beyond true u w l h =
        let b = via_below T u w l in
        let c = g_same (via p s u w) b in
        rw (parent_same u l, c, wins_same p s (via p s u w) w (long s) (mark_same w h) (g_same w h) c (legs_same w h) (legs_same (via p s u w) b))
        (store_beyond (wins p s (via p s u w) w) w (via p s u w) (cost p s (via p s u w) w) h b)
    relax_beyond false u w l h = refl

    close_beyond : (u : ℕ) → u < p.size → close u (long s) ≡ long (close u s)
    unfolding long beyond close
    close_beyond u l = rw (set-append_left s.mark ms u 2 (omega (arith, T.room_m))) refl

  module _ {p : Problem} where
    around_beyond : (u : ℕ) → u < p.size → {s : State} → Tidy p s → (k : ℕ) → k ≤ p.size → around p u k (long s) ≡ long (around p u k s)
    unfolding around
    around_beyond u l T zero h = refl
    around_beyond u l {s} T (suc k) h =
        let R = around_keep p u (Tidy p) (λ w r m Q. relax_tidy u l (due p u w r) w m Q) s T k (omega arith) in
        rw (around_beyond u l T k (omega arith), mark_same R k (omega arith)) (relax_beyond R (due p u k (around p u k s)) u k l (omega arith))

    expand_beyond : (u : ℕ) → u < p.size → {s : State} → Tidy p s → expand p u (long s) ≡ long (expand p u s)
    unfolding expand
    expand_beyond u l {s} T = rw (close_beyond T u l) (around_beyond u l (close_tidy u l T) p.size (omega arith))

    carries : Carries (basic p) (basic p) long (Tidy p)
    carries = record {
      picks = λ s T. choose_beyond T;
      takes = λ u s e T. expand_beyond u (choose_vertex p s u e).0 T;
      stops = λ s e T. refl;
      keeps = λ u s e T. expand_tidy u (choose_vertex p s u e).0 T;
    }

    -- the search on longer lists is the search, with what lies beyond
    pub search_beyond : Fair p
        → turns (basic p) (suc p.size) (beyond (initial p) gs ps ms ls)
        ≡ record { found = (search p).found; state = beyond (search p).state gs ps ms ls }
    unfolding search long
    search_beyond F = turns_carried carries (suc p.size) (initial p) (tidy_start F (begins_initial F))

-- the path is the same
trail_beyond : {p : Problem} {s : State} → Tidy p s → (ps : List ℕ) (k v : ℕ) → v < p.size
    → trail p.start (s.parent ++ ps) k v ≡ trail p.start s.parent k v
unfolding trail
trail_beyond T ps zero v l = refl
trail_beyond {p} {s} T ps (suc k) v l = go (ℕ_discrete v p.start) (λ l'. trail_beyond T ps k (at s.parent v) l')
  where
    go : Dec (v ≡ p.start)
        → (at s.parent v < p.size → trail p.start (s.parent ++ ps) k (at s.parent v) ≡ trail p.start s.parent k (at s.parent v))
        → trail p.start (s.parent ++ ps) (suc k) v ≡ trail p.start s.parent (suc k) v
    go (yes e) ih = rw e (trail_start p.start (s.parent ++ ps) (suc k) ∙ sym (trail_start p.start s.parent (suc k)))
    go (no d) ih =
        trail_back p.start (s.parent ++ ps) k v d
        ∙ rw (get_or-append s.parent ps 0 v (omega (arith, T.room_p)), ih (T.parents v l)) (sym (trail_back p.start s.parent k v d))

-- ---- what a loop over the lent slices has in the end

-- the path read from the lent parents is the search's path
pub path_beyond : {p : Problem} → Fair p → p.goal < p.size → (ps : List ℕ)
    → trail p.start ((search p).state.parent ++ ps) p.size p.goal ≡ path p (search p).state
path_beyond {p} F l ps = trail_beyond (search_keep F (tidy_kept F) (tidy_start F (begins_initial F))) ps p.size p.goal l

-- the whole that the loop's invariant speaks of is the search
pub searched : {p : Problem} → Fair p → (before : State) {found : Bool} {after : State}
    → turns (basic p) (suc p.size)
    (beyond (initial p) (drop p.size before.g) (drop p.size before.parent) (drop p.size before.mark) (drop p.size before.legs))
    ≡ record { found = found; state = after }
    → Searched p before after found
unfolding beyond
searched {p} F before e =
    let q = sym e ∙ search_beyond (drop p.size before.g) (drop p.size before.parent) (drop p.size before.mark) (drop p.size before.legs) F in
    record {
      found_is = ap (λ (r : Result State). r.found) q;
      expansions_is = ap (λ (r : Result State). r.state.expansions) q;
      tests_is = ap (λ (r : Result State). r.state.tests) q;
      g_is = ap (λ (r : Result State). r.state.g) q;
      parent_is = ap (λ (r : Result State). r.state.parent) q;
      mark_is = ap (λ (r : Result State). r.state.mark) q;
      legs_is = ap (λ (r : Result State). r.state.legs) q;
    }
