-- The path that the parents give is a route: from the start to the goal, each leg with sight and two ends, as long as the goal's g.
-- Assumes nothing.
use mathlib.Core.Path.{◌≡◌, refl, sym, ap, ◌∙◌}
use mathlib.Core.Logic.{◌≢◌}
use mathlib.Core.Bool.{true, true≢false}
use mathlib.Core.List.{List, [], ◌∷◌, ◌++◌}
use Prim.Native.Nat.{ℕ, zero, suc, ◌+◌, ◌-◌, ◌≤◌, ◌<◌}
use native.Mathlib.Omega.{arith}
use native.Mathlib.Numerals.{add-one}
use lib.ListN.{length}
use Rattle.reach.specs.Reach.{Reach}
use Rattle.reach.specs.Turns.{at, seen_in, done_in}
use Rattle.reach.proofs.Taken.{open_room}
use Rattle.theta.specs.Search.{Problem, State, search, trail, path}
use Rattle.theta.specs.Demands.{units_along, IsRoute}
use Rattle.theta.specs.Fair.{Fair, FairLegs}
use Rattle.theta.specs.Back.{Back, root, leg, Traced}
use Rattle.theta.proofs.Completeness.{Good, search_stopped}
use Rattle.theta.proofs.Links.{Link, Linked, legs_back}
use Rattle.theta.proofs.Held.{search_held}
use Rattle.theta.proofs.Trails.{
  trail_start,
  trail_back,
  trail_length,
  trail_last,
  trail_first,
  trail_prev,
  trail_all,
  trail_on,
  trail_leaves,
}

-- v is reached from the start by single moves, and is neither the start nor the goal
pub record Between (p : Problem) (v : ℕ) : Type 0 where
  pub reached : Reach p.near p.start v
  pub not_start : v ≢ p.start
  pub not_goal : v ≢ p.goal

-- one leg more
units_more : (p : Problem) (l : List ℕ) (k v : ℕ) → length l ≡ suc k → units_along p (l ++ (v ∷ [])) ≡ units_along p l + p.len (at l k) v
units_more p [] k v e = absurd (omega arith)
units_more p (a ∷ []) zero v e = omega arith
units_more p (a ∷ []) (suc k) v e = absurd (omega arith)
units_more p (a ∷ (b ∷ l)) zero v e = absurd (omega arith)
units_more p (a ∷ (b ∷ l)) (suc k) v e = omega (arith, units_more p (b ∷ l) k v (omega arith))

module _ {p : Problem} (F : Fair p) {longest : ℕ} {s : State} (G : Good p s) (K : Linked p longest s) where
  -- the parent of a seen vertex is seen
  seen_parent : (v : ℕ) → v < p.size → v ≢ p.start → seen_in s.mark v ≡ true → seen_in s.mark (at s.parent v) ≡ true
  seen_parent v l d h =
      let a = K.links v l h d in
      G.inv.within (at s.parent v) a.below a.behind

  trail_units : {v k : ℕ} → Back p.size p.start s.parent v k → (f : ℕ) → k ≤ f → seen_in s.mark v ≡ true
      → units_along p (trail p.start s.parent f v) ≡ at s.g v
  trail_units root f l h = rw (trail_start p.start s.parent f) (sym K.root_g)
  trail_units (leg {v} {k} m d r) zero l h = absurd (omega arith)
  trail_units (leg {v} {k} m d r) (suc f) l h =
      let T = trail p.start s.parent f (at s.parent v) in
      rw (trail_back p.start s.parent f v d, units_more p T k v (trail_length r f (omega arith)), trail_last r f (omega arith))
      (omega (arith, trail_units r f (omega arith) (seen_parent v m d h), (K.links v m h d).adds))

  -- the chain of an open vertex has fewer legs than there are vertices
  open_traced : (v : ℕ) → v < p.size → at s.mark v ≡ 1 → Traced p.size p.start s.parent v
  open_traced v l o =
      let q = K.depth v l (rw o refl) in
      record { legs = q.0; back = q.1; few = omega (arith, q.2, open_room F.ground G.inv v l (rw o refl)) }

  -- the path to the goal, which is open
  module _ (on : p.goal < p.size) (o : at s.mark p.goal ≡ 1) where
    R : Traced p.size p.start s.parent p.goal
    R = open_traced p.goal on o

    fits : R.legs ≤ p.size
    fits = omega (arith, R.few)

    size : length (path p s) ≡ suc R.legs
    size = trail_length R.back p.size fits

    goal_seen : seen_in s.mark p.goal ≡ true
    goal_seen = rw o refl

    leaves : (i : ℕ) → suc i ≤ R.legs → at (path p s) (suc i) ≢ p.start
    leaves i j = trail_leaves R.back p.size fits i j

    -- it has one vertex more than the goal has legs
    goal_legs : length (path p s) ≡ at s.legs p.goal + 1
    goal_legs = omega (arith, size, legs_back G K R.back goal_seen)

    links : (i : ℕ) → suc i ≤ R.legs → Link p s (at (path p s) (suc i))
    links i j =
        K.links (at (path p s) (suc i)) (trail_on R.back p.size fits F.ground.start_on (suc i) j)
        (trail_all (λ x. seen_in s.mark x ≡ true) G.inv.first R.back (λ x m d q. seen_parent x m d q) goal_seen
        p.size fits (suc i) j)
        (leaves i j)

    prev : (i : ℕ) → suc i ≤ R.legs → at s.parent (at (path p s) (suc i)) ≡ at (path p s) i
    prev i j = trail_prev R.back p.size fits i j

    goal_route : IsRoute p (path p s) (at s.g p.goal)
    goal_route = record {
      some = omega (arith, size);
      first = trail_first R.back p.size fits;
      last = let z : length (path p s) - 1 ≡ R.legs = omega (arith, size) in rw z (trail_last R.back p.size fits);
      on = λ i j. trail_on R.back p.size fits F.ground.start_on i (omega (arith, size));
      differ = λ i j e.
          let m : suc i ≤ R.legs = omega (arith, size) in
          (links i m).apart (prev i m ∙ e ∙ ap (at (path p s)) (add-one i));
      sight = λ i j.
          let m : suc i ≤ R.legs = omega (arith, size) in
          rw (add-one i) (rw (prev i m) at (links i m).sight);
      total = sym (trail_units R.back p.size fits goal_seen);
    }

    -- a vertex between the ends is expanded: so it is reached, and is neither of them
    goal_between : (i : ℕ) → 0 < i → i + 1 < length (path p s) → Between p (at (path p s) i)
    goal_between zero l m = absurd (omega arith)
    goal_between (suc i) l m =
        let j : suc (suc i) ≤ R.legs = omega (arith, size) in
        let v = at (path p s) (suc i) in
        let below : v < p.size = trail_on R.back p.size fits F.ground.start_on (suc i) (omega arith) in
        let done : done_in s.mark v ≡ true = rw (prev (suc i) j) at (links (suc i) j).behind in
        record {
          reached = G.inv.sound v below (G.inv.within v below done);
          not_start = leaves i (omega arith);
          not_goal = λ e. true≢false (sym done ∙ ap (done_in s.mark) e ∙ G.goal_waits on);
        }

-- ---- the search

module _ {p : Problem} (F : Fair p) where
  -- the goal is not expanded and stays marked open
  pub goal_open : (search p).found ≡ true → (p.goal < p.size) × (at (search p).state.mark p.goal ≡ 1)
  goal_open = (search_stopped F).at_goal

  module _ {longest : ℕ} (W : FairLegs p longest) (f : (search p).found ≡ true) where
    pub search_traced : Traced p.size p.start (search p).state.parent p.goal
    search_traced = open_traced F (search_stopped F).sane (search_held F W).linked p.goal (goal_open f).0 (goal_open f).1

    -- a path that is found is a route, as long as the goal's g
    pub search_route : IsRoute p (path p (search p).state) (at (search p).state.g p.goal)
    search_route = goal_route F (search_stopped F).sane (search_held F W).linked (goal_open f).0 (goal_open f).1

    -- and has one vertex more than the goal has legs
    pub search_vertices : length (path p (search p).state) ≡ at (search p).state.legs p.goal + 1
    search_vertices = goal_legs F (search_stopped F).sane (search_held F W).linked (goal_open f).0 (goal_open f).1

    -- and passes only vertices that are reached
    pub search_between : (i : ℕ) → 0 < i → i + 1 < length (path p (search p).state)
        → Between p (at (path p (search p).state) i)
    search_between = goal_between F (search_stopped F).sane (search_held F W).linked (goal_open f).0 (goal_open f).1
