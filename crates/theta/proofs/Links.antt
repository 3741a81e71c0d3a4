-- The links of the parents: each seen vertex but the start hangs on an expanded parent, with sight, its g the parent's g and the leg,
-- and its legs one more than the parent's.
-- A chain has at most as many legs as there were expansions, and g stays within expansions × the longest leg. Assumes nothing.
use mathlib.Core.Path.{◌≡◌, refl, sym, ap, ◌∙◌}
use mathlib.Core.Logic.{◌⊎◌, inl, inr, ◌≢◌}
use mathlib.Core.Bool.{Bool, true, false, not, ◌||◌, cond, true≢false, false≢true}
use Prim.Native.Nat.{ℕ, suc, ◌+◌, ◌*◌, ◌≤◌, ◌<◌}
use native.Mathlib.Omega.{arith}
use native.Mathlib.Decide.{ℕ_discrete}
use lib.Dec.{eqb}
use lib.ListN.{set}
use borrow.Author.Tests.{eqb-true, eq-eqb, ne_eqb, not-true, not-false}
use Rattle.laws.proofs.Tests.{bool_cases, and_left, and_right, or_cases, or_left, or_right, false_of}
use Rattle.reach.specs.Turns.{at, seen_in, done_in}
use Rattle.reach.proofs.Taken.{Step}
use Rattle.reach.proofs.Marks.{Marks, marks_set, marks_step, set_done, set_seen}
use Rattle.theta.specs.Search.{Problem, State, due, via, wins, close, expand}
use Rattle.theta.specs.Lent.{Begins, Better}
use Rattle.theta.specs.Fair.{Fair, FairLegs}
use Rattle.theta.specs.Back.{Back, root, leg}
use Rattle.theta.proofs.Wins.{wins_unseen, wins_better}
use Rattle.theta.proofs.Taking.{expand_mark, expand_expansions}
use Rattle.theta.proofs.Completeness.{Good}
use Rattle.theta.proofs.Tidy.{Tidy}
use Rattle.theta.proofs.Entries.{Entry, entry_of, won, cond_of, kept, entry}

-- v hangs on its parent
pub record Link (p : Problem) (s : State) (v : ℕ) : Type 0 where
  pub below : at s.parent v < p.size
  pub behind : done_in s.mark (at s.parent v) ≡ true
  pub apart : at s.parent v ≢ v
  pub sight : p.sees (at s.parent v) v ≡ true
  pub adds : at s.g v ≡ at s.g (at s.parent v) + p.len (at s.parent v) v
  pub counts : at s.legs v ≡ at s.legs (at s.parent v) + 1

-- every seen vertex hangs on the start, by chains, and the longest leg is `longest`
pub record Linked (p : Problem) (longest : ℕ) (s : State) : Type 0 where
  pub root : at s.parent p.start ≡ p.start
  pub root_g : at s.g p.start ≡ 0
  pub root_legs : at s.legs p.start ≡ 0
  pub links : (v : ℕ) → v < p.size → seen_in s.mark v ≡ true → v ≢ p.start → Link p s v
  pub bound : (v : ℕ) → v < p.size → seen_in s.mark v ≡ true → at s.g v ≤ s.expansions * longest
  pub depth : (v : ℕ) → v < p.size → seen_in s.mark v ≡ true → (k : ℕ) × Back p.size p.start s.parent v k × (k ≤ s.expansions)

-- x is on the board, was seen, and is expanded now that u is
pub record Upstream (p : Problem) (s : State) (u x : ℕ) : Type 0 where
  pub on : x < p.size
  pub seen : seen_in s.mark x ≡ true
  pub done : done_in (set s.mark u 2) x ≡ true

-- ---- at the beginning the start alone is seen

pub linked_start : {p : Problem} {s : State} (longest : ℕ) → Fair p → Begins p s → Linked p longest s
linked_start {p} {s} longest F B = record {
  root = B.parent_at p.start F.ground.start_on ∙ rw (eq-eqb p.start p.start refl) refl;
  root_g = B.g_at p.start F.ground.start_on;
  root_legs = B.legs_at p.start F.ground.start_on;
  links = λ v l h n. absurd (n (only v l h));
  bound = λ v l h. omega (arith, B.g_at v l);
  depth = λ v l h. (0, rw (only v l h) root, omega arith);
}
  where
    only : (v : ℕ) → v < p.size → seen_in s.mark v ≡ true → v ≡ p.start
    only v l h = go (ℕ_discrete v p.start)
      where
        go : Dec (v ≡ p.start) → v ≡ p.start
        go (yes e) = e
        go (no e) = absurd (false≢true (sym (rw (B.mark_at v l, ne_eqb v p.start e) refl) ∙ h))

-- ---- taking u keeps it

module _ {p : Problem} (F : Fair p) {longest : ℕ} (W : FairLegs p longest) (u : ℕ) {s : State} (G : Good p s) (T : Tidy p s) (K : Linked p longest s)
    (l : u < p.size) (o : at s.mark u ≡ 1) where
  done₁ : (v : ℕ) → done_in (set s.mark u 2) v ≡ (eqb v u || done_in s.mark v)
  done₁ = set_done p.size p.near u s.mark l G.room o

  seen₁ : (v : ℕ) → seen_in (set s.mark u 2) v ≡ seen_in s.mark v
  seen₁ = set_seen p.size p.near u s.mark l G.room o

  -- the taken vertex and its parent
  pub taken_upstream : Upstream p s u u
  taken_upstream = record { on = l; seen = rw o refl; done = done₁ u ∙ or_left (done_in s.mark u) (eq-eqb u u refl) }

  pub parent_upstream : Upstream p s u (at s.parent u)
  parent_upstream = go (ℕ_discrete u p.start)
    where
      go : Dec (u ≡ p.start) → Upstream p s u (at s.parent u)
      go (yes e) = rw (ap (at s.parent) e ∙ K.root ∙ sym e) taken_upstream
      go (no e) =
          let k = K.links u l (rw o refl) e in
          record {
            on = k.below;
            seen = G.inv.within (at s.parent u) k.below k.behind;
            done = done₁ (at s.parent u) ∙ or_right (eqb (at s.parent u) u) k.behind;
          }

  s' : State
  s' = expand p u s

  -- the candidate parent of v
  c : ℕ → ℕ
  c v = via p s u v

  up : (v : ℕ) → Upstream p s u (c v)
  unfolding c
  up v = cond_of (p.sees (at s.parent u) v) (at s.parent u) u (Upstream p s u) parent_upstream taken_upstream

  c_sees : (v : ℕ) → p.near u v ≡ true → p.sees (c v) v ≡ true
  unfolding c
  c_sees v n = go (p.sees (at s.parent u) v) refl
    where
      go : (x : Bool) → p.sees (at s.parent u) v ≡ x → p.sees (cond x (at s.parent u) u) v ≡ true
      go true e = e
      go false e = W.near_sees u v n

  -- ---- marks and entries after

  step : Step p.size p.near u (seen_in s.mark) (done_in s.mark) (seen_in s'.mark) (done_in s'.mark)
  unfolding s'
  step = rw (expand_mark p u s G.room l G.marks) (marks_step p.size p.near u s.mark l G.room o)

  marks₁ : Marks p.size (set s.mark u 2)
  marks₁ = marks_set p.size u s.mark (omega (arith, G.room)) G.marks

  won₁ : ℕ → Bool
  won₁ v = won p u (close u s) v

  -- each vertex has what it was offered, if it won, and else what it had
  after : (v : ℕ) → v < p.size → entry_of s' v ≡ cond (won₁ v) (record { g = at s.g (c v) + p.len (c v) v; parent = c v; legs = at s.legs (c v) + 1 }) (entry_of s v)
  unfolding s' expand won₁ c close
  after v k = entry p u (close u s) marks₁ T.room_g T.room_p T.room_l taken_upstream.done parent_upstream.done p.size v k (omega arith)

  -- an expanded vertex keeps its entry
  fixed : (v : ℕ) → done_in (set s.mark u 2) v ≡ true → entry_of s' v ≡ entry_of s v
  unfolding s' expand close
  fixed v d = kept p u (close u s) marks₁ T.room_g T.room_p T.room_l taken_upstream.done parent_upstream.done p.size v (omega arith) d

  fixed_g : (v : ℕ) → done_in (set s.mark u 2) v ≡ true → at s'.g v ≡ at s.g v
  fixed_g v d = ap (λ (x : Entry). x.g) (fixed v d)

  fixed_legs : (v : ℕ) → done_in (set s.mark u 2) v ≡ true → at s'.legs v ≡ at s.legs v
  fixed_legs v d = ap (λ (x : Entry). x.legs) (fixed v d)

  fixed_parent : (v : ℕ) → done_in (set s.mark u 2) v ≡ true → at s'.parent v ≡ at s.parent v
  fixed_parent v d = ap (λ (x : Entry). x.parent) (fixed v d)

  module _ (v : ℕ) (k : v < p.size) (w : won₁ v ≡ true) where
    new_g : at s'.g v ≡ at s.g (c v) + p.len (c v) v
    new_g = ap (λ (x : Entry). x.g) (rw w at (after v k))

    new_parent : at s'.parent v ≡ c v
    new_parent = ap (λ (x : Entry). x.parent) (rw w at (after v k))

    new_legs : at s'.legs v ≡ at s.legs (c v) + 1
    new_legs = ap (λ (x : Entry). x.legs) (rw w at (after v k))

  module _ (v : ℕ) (k : v < p.size) (w : won₁ v ≡ false) where
    old_g : at s'.g v ≡ at s.g v
    old_g = ap (λ (x : Entry). x.g) (rw w at (after v k))

    old_parent : at s'.parent v ≡ at s.parent v
    old_parent = ap (λ (x : Entry). x.parent) (rw w at (after v k))

    old_legs : at s'.legs v ≡ at s.legs v
    old_legs = ap (λ (x : Entry). x.legs) (rw w at (after v k))

  -- ---- who won

  won_due : (v : ℕ) → won₁ v ≡ true → due p u v (close u s) ≡ true
  unfolding won₁
  won_due v h = and_left (due p u v (close u s)) (wins p (close u s) (via p (close u s) u v) v) h

  won_near : (v : ℕ) → won₁ v ≡ true → p.near u v ≡ true
  unfolding close
  won_near v h = and_left (p.near u v) (not (done_in (set s.mark u 2) v)) (won_due v h)

  won_fresh : (v : ℕ) → won₁ v ≡ true → done_in (set s.mark u 2) v ≡ false
  unfolding close
  won_fresh v h = not-true (done_in (set s.mark u 2) v) (and_right (p.near u v) (not (done_in (set s.mark u 2) v)) (won_due v h))

  -- the start keeps its entry: no g is below 0, and no legs are fewer than none
  start_lost : won₁ p.start ≡ true → ⊥
  unfolding won₁ close
  start_lost h =
      go
      (wins_better p (close u s) (via p (close u s) u p.start) p.start (seen₁ p.start ∙ G.inv.first)
      (and_right (due p u p.start (close u s)) (wins p (close u s) (via p (close u s) u p.start) p.start) h))
    where
      go : {g legs : ℕ} → Better g legs (at s.g p.start) (at s.legs p.start) → ⊥
      go (inl x) = omega (arith, x, K.root_g)
      go (inr x) = omega (arith, x.1, K.root_legs)

  start_kept : won₁ p.start ≡ false
  start_kept = false_of (won₁ p.start) start_lost

  -- a vertex that is seen now and did not win was seen before
  seen_before : (v : ℕ) → v < p.size → won₁ v ≡ false → seen_in s'.mark v ≡ true → seen_in s.mark v ≡ true
  unfolding won₁ close
  seen_before v k w h = go (bool_cases (seen_in s.mark v)) (or_cases (p.near u v) (seen_in s.mark v) (sym (step.seen_now v k) ∙ h))
    where
      unseen : p.near u v ≡ true → seen_in s.mark v ≡ false → won₁ v ≡ true
      unseen n e =
          let z : at (set s.mark u 2) v ≡ 0 = eqb-true (at (set s.mark u 2) v) 0 (not-false (eqb (at (set s.mark u 2) v) 0) (seen₁ v ∙ e)) in
          rw (wins_unseen p (close u s) (via p (close u s) u v) v z, z, n) refl

      go : (seen_in s.mark v ≡ true) ⊎ (seen_in s.mark v ≡ false) → (p.near u v ≡ true) ⊎ (seen_in s.mark v ≡ true) → seen_in s.mark v ≡ true
      go (inl e) q = e
      go (inr e) (inl n) = absurd (true≢false (sym (unseen n e) ∙ w))
      go (inr e) (inr q) = q

  -- ---- the links

  done_stays : (v : ℕ) → v < p.size → done_in (set s.mark u 2) v ≡ true → done_in s'.mark v ≡ true
  done_stays v k d = step.done_now v k ∙ sym (done₁ v) ∙ d

  old_stays : (v : ℕ) → done_in s.mark v ≡ true → done_in (set s.mark u 2) v ≡ true
  old_stays v d = done₁ v ∙ or_right (eqb v u) d

  link_won : (v : ℕ) → v < p.size → won₁ v ≡ true → Link p s' v
  link_won v k w =
      let a = up v in
      let q = new_parent v k w in
      record {
        below = rw q a.on;
        behind = rw q (done_stays (c v) a.on a.done);
        apart = λ e. true≢false (sym a.done ∙ ap (done_in (set s.mark u 2)) (sym q ∙ e) ∙ won_fresh v w);
        sight = rw q (c_sees v (won_near v w));
        adds = rw q (rw (fixed_g (c v) a.done) (new_g v k w));
        counts = rw q (rw (fixed_legs (c v) a.done) (new_legs v k w));
      }

  link_kept : (v : ℕ) → v < p.size → won₁ v ≡ false → Link p s v → Link p s' v
  link_kept v k w a =
      let q = old_parent v k w in
      let d = old_stays (at s.parent v) a.behind in
      record {
        below = rw q a.below;
        behind = rw q (done_stays (at s.parent v) a.below d);
        apart = rw q a.apart;
        sight = rw q a.sight;
        adds = rw q (rw (fixed_g (at s.parent v) d) (old_g v k w ∙ a.adds));
        counts = rw q (rw (fixed_legs (at s.parent v) d) (old_legs v k w ∙ a.counts));
      }

  links_after : (v : ℕ) → v < p.size → seen_in s'.mark v ≡ true → v ≢ p.start → (won₁ v ≡ true) ⊎ (won₁ v ≡ false) → Link p s' v
  links_after v k h d (inl w) = link_won v k w
  links_after v k h d (inr w) = link_kept v k w (K.links v k (seen_before v k w h) d)

  -- ---- g

  one_more : s'.expansions ≡ s.expansions + 1
  unfolding s'
  one_more = expand_expansions p u s

  bound_after : (v : ℕ) → v < p.size → seen_in s'.mark v ≡ true → (won₁ v ≡ true) ⊎ (won₁ v ≡ false) → at s'.g v ≤ s'.expansions * longest
  bound_after v k h (inl w) = omega (
    arith,
    new_g v k w,
    K.bound (c v) (up v).on (up v).seen,
    W.at_most (c v) v (up v).on k,
    ap (λ (x : ℕ). x * longest) one_more,
  )
  bound_after v k h (inr w) =
      omega (arith, old_g v k w, K.bound v k (seen_before v k w h), ap (λ (x : ℕ). x * longest) one_more)

  -- ---- the chains

  seen_of : (v : ℕ) → v < p.size → done_in (set s.mark u 2) v ≡ true → seen_in s.mark v ≡ true
  seen_of v k d = go (or_cases (eqb v u) (done_in s.mark v) (sym (done₁ v) ∙ d))
    where
      go : (eqb v u ≡ true) ⊎ (done_in s.mark v ≡ true) → seen_in s.mark v ≡ true
      go (inl e) = rw (eqb-true v u e, o) refl
      go (inr e) = G.inv.within v k e

  -- the chain of a vertex whose parent stays, stays
  back_same : {v k : ℕ} → Back p.size p.start s.parent v k → v < p.size → seen_in s.mark v ≡ true → at s'.parent v ≡ at s.parent v
      → Back p.size p.start s'.parent v k
  back_same root m h e = root
  back_same (leg {v} {k} q n r) m h e =
      let a = K.links v m h n in
      let d = old_stays (at s.parent v) a.behind in
      leg {v = v} {k = k} m n (rw e (back_same r a.below (seen_of (at s.parent v) a.below d) (fixed_parent (at s.parent v) d)))

  depth_after : (v : ℕ) → v < p.size → seen_in s'.mark v ≡ true → (won₁ v ≡ true) ⊎ (won₁ v ≡ false)
      → (k : ℕ) × Back p.size p.start s'.parent v k × (k ≤ s'.expansions)
  depth_after v m h (inl w) =
      let a = up v in
      let q = K.depth (c v) a.on a.seen in
      let n : v ≢ p.start = λ e. start_lost (rw e at w) in (
        suc q.0,
        leg {v = v} {k = q.0} m n (rw (new_parent v m w) (back_same q.1 a.on a.seen (fixed_parent (c v) a.done))),
        omega (arith, q.2, one_more),
      )
  depth_after v m h (inr w) =
      let e = seen_before v m w h in
      let q = K.depth v m e in
      (q.0, back_same q.1 m e (old_parent v m w), omega (arith, q.2, one_more))

  pub linked_step : Linked p longest (expand p u s)
  unfolding s'
  linked_step = record {
    root = old_parent p.start F.ground.start_on start_kept ∙ K.root;
    root_g = old_g p.start F.ground.start_on start_kept ∙ K.root_g;
    root_legs = old_legs p.start F.ground.start_on start_kept ∙ K.root_legs;
    links = λ v k h d. links_after v k h d (bool_cases (won₁ v));
    bound = λ v k h. bound_after v k h (bool_cases (won₁ v));
    depth = λ v k h. depth_after v k h (bool_cases (won₁ v));
  }

-- as many parents lead from a seen vertex back to the start as it has legs
pub legs_back : {p : Problem} {longest : ℕ} {s : State} → Good p s → Linked p longest s → {v k : ℕ} → Back p.size p.start s.parent v k
    → seen_in s.mark v ≡ true → at s.legs v ≡ k
legs_back G K root h = K.root_legs
legs_back {s = s} G K (leg {v} {k} m d r) h =
    let a = K.links v m h d in
    omega (arith, a.counts, legs_back G K r (G.inv.within (at s.parent v) a.below a.behind))
