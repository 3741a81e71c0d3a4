-- What each turn keeps without further thought: the lists' lengths, parents on the board, and the entries of unseen vertices.
-- Assumes nothing.
use mathlib.Core.Path.{◌≡◌, refl, sym, ◌∙◌}
use mathlib.Core.Bool.{Bool, true, false, cond}
use Prim.Native.Nat.{ℕ, zero, suc, ◌≤◌, ◌<◌}
use native.Mathlib.Omega.{arith}
use native.Mathlib.Decide.{ℕ_discrete}
use lib.Dec.{eqb}
use lib.ListN.{length, set, length-set, length-replicate}
use lib.Seq.{get_or-set_same, get_or-set_other}
use Rattle.reach.specs.Turns.{at}
use Rattle.theta.specs.Search.{Problem, State, initial, due, via, cost, legs_by, wins, store, relax, around, close, expand, search}
use Rattle.theta.specs.Lent.{Begins}
use Rattle.theta.specs.Demands.{Work}
use Rattle.theta.specs.Fair.{Fair}
use Rattle.theta.proofs.Choosing.{choose_vertex}
use Rattle.theta.proofs.Begins.{begins_initial}
use Rattle.theta.proofs.Completeness.{Kept, search_keep, search_stopped}

-- ---- whatever looking at one vertex keeps, looking at all keeps

pub around_keep : (p : Problem) (u : ℕ) (I : State → Type 0) → ((w : ℕ) (r : State) → w < p.size → I r → I (relax (due p u w r) p u w r))
    → (s : State) → I s → (k : ℕ) → k ≤ p.size → I (around p u k s)
unfolding around
around_keep p u I step s i zero l = i
around_keep p u I step s i (suc k) l = step k (around p u k s) (omega arith) (around_keep p u I step s i k (omega arith))

-- ---- lengths

-- the lists of r are as long as those of s
pub record SameSizes (s r : State) : Type 0 where
  pub g_same : length r.g ≡ length s.g
  pub parent_same : length r.parent ≡ length s.parent
  pub mark_same : length r.mark ≡ length s.mark
  pub legs_same : length r.legs ≡ length s.legs

store_sizes : (s : State) (d : Bool) (w c g : ℕ) (r : State) → SameSizes s r → SameSizes s (store d w c g r)
store_sizes s true w c g r h = record {
  g_same = length-set r.g w g ∙ h.g_same;
  parent_same = length-set r.parent w c ∙ h.parent_same;
  mark_same = length-set r.mark w 1 ∙ h.mark_same;
  legs_same = length-set r.legs w (legs_by r c) ∙ h.legs_same;
}
store_sizes s false w c g r h = record { g_same = h.g_same; parent_same = h.parent_same; mark_same = h.mark_same; legs_same = h.legs_same }

relax_sizes : (p : Problem) (u : ℕ) (s : State) (x : Bool) (w : ℕ) (r : State) → SameSizes s r → SameSizes s (relax x p u w r)
relax_sizes p u s true w r h = store_sizes s (wins p r (via p r u w) w) w (via p r u w) (cost p r (via p r u w) w) r h
relax_sizes p u s false w r h = h

pub around_sizes : (p : Problem) (u : ℕ) (s : State) (k : ℕ) → k ≤ p.size → SameSizes s (around p u k s)
around_sizes p u s k l =
    around_keep p u (SameSizes s) (λ w r h i. relax_sizes p u s (due p u w r) w r i) s
    (record { g_same = refl; parent_same = refl; mark_same = refl; legs_same = refl }) k l

expand_sizes : (p : Problem) (u : ℕ) (s : State) → SameSizes s (expand p u s)
unfolding expand close
expand_sizes p u s =
    let h = around_sizes p u (close u s) p.size (omega arith) in
    record { g_same = h.g_same; parent_same = h.parent_same; mark_same = h.mark_same ∙ length-set s.mark u 2; legs_same = h.legs_same }

-- ---- parents and unseen vertices

-- the lists hold the vertices, a parent is a vertex, and an unseen vertex has g 0, parent 0 and no legs
pub record Tidy (p : Problem) (s : State) : Type 0 where
  pub room_g : p.size ≤ length s.g
  pub room_p : p.size ≤ length s.parent
  pub room_m : p.size ≤ length s.mark
  pub room_l : p.size ≤ length s.legs
  pub parents : (v : ℕ) → v < p.size → at s.parent v < p.size
  pub unseen_g : (v : ℕ) → v < p.size → at s.mark v ≡ 0 → at s.g v ≡ 0
  pub unseen_parent : (v : ℕ) → v < p.size → at s.mark v ≡ 0 → at s.parent v ≡ 0
  pub unseen_legs : (v : ℕ) → v < p.size → at s.mark v ≡ 0 → at s.legs v ≡ 0

pub via_below : {p : Problem} {s : State} → Tidy p s → (u w : ℕ) → u < p.size → via p s u w < p.size
via_below {p} {s} T u w l = go (p.sees (at s.parent u) w)
  where
    go : (x : Bool) → cond x (at s.parent u) u < p.size
    go true = T.parents u l
    go false = l

store_tidy : {p : Problem} {s : State} (d : Bool) (w c g : ℕ) → w < p.size → c < p.size → Tidy p s → Tidy p (store d w c g s)
store_tidy false w c g lw lc T = record {
  room_g = T.room_g;
  room_p = T.room_p;
  room_m = T.room_m;
  room_l = T.room_l;
  parents = T.parents;
  unseen_g = T.unseen_g;
  unseen_parent = T.unseen_parent;
  unseen_legs = T.unseen_legs;
}
store_tidy {p} {s} true w c g lw lc T = record {
  room_g = rw length-set T.room_g;
  room_p = rw length-set T.room_p;
  room_m = rw length-set T.room_m;
  room_l = rw length-set T.room_l;
  parents = λ v l. parents v l (ℕ_discrete v w);
  unseen_g = λ v l e. unseen_g v l e (ℕ_discrete v w);
  unseen_parent = λ v l e. unseen_parent v l e (ℕ_discrete v w);
  unseen_legs = λ v l e. unseen_legs v l e (ℕ_discrete v w);
}
  where
    parents : (v : ℕ) → v < p.size → Dec (v ≡ w) → at (set s.parent w c) v < p.size
    parents v l (yes e) = rw (e, get_or-set_same s.parent w c 0 (omega (arith, T.room_p))) lc
    parents v l (no e) = rw (get_or-set_other s.parent w v c 0 e) (T.parents v l)

    seen : (v : ℕ) → at (set s.mark w 1) v ≡ 0 → v ≡ w → ⊥
    seen v e q = omega (arith, rw (q, get_or-set_same s.mark w 1 0 (omega (arith, T.room_m))) at e)

    unseen_g : (v : ℕ) → v < p.size → at (set s.mark w 1) v ≡ 0 → Dec (v ≡ w) → at (set s.g w g) v ≡ 0
    unseen_g v l e (yes q) = absurd (seen v e q)
    unseen_g v l e (no q) = get_or-set_other s.g w v g 0 q ∙ T.unseen_g v l (sym (get_or-set_other s.mark w v 1 0 q) ∙ e)

    unseen_parent : (v : ℕ) → v < p.size → at (set s.mark w 1) v ≡ 0 → Dec (v ≡ w) → at (set s.parent w c) v ≡ 0
    unseen_parent v l e (yes q) = absurd (seen v e q)
    unseen_parent v l e (no q) = get_or-set_other s.parent w v c 0 q ∙ T.unseen_parent v l (sym (get_or-set_other s.mark w v 1 0 q) ∙ e)

    unseen_legs : (v : ℕ) → v < p.size → at (set s.mark w 1) v ≡ 0 → Dec (v ≡ w) → at (set s.legs w (legs_by s c)) v ≡ 0
    unseen_legs v l e (yes q) = absurd (seen v e q)
    unseen_legs v l e (no q) = get_or-set_other s.legs w v (legs_by s c) 0 q ∙ T.unseen_legs v l (sym (get_or-set_other s.mark w v 1 0 q) ∙ e)

pub relax_tidy : {p : Problem} {s : State} (u : ℕ) → u < p.size → (x : Bool) (w : ℕ) → w < p.size → Tidy p s → Tidy p (relax x p u w s)
relax_tidy {p} {s} u l true w lw T =
    store_tidy (wins p s (via p s u w) w) w (via p s u w) (cost p s (via p s u w) w) lw (via_below T u w l) T
relax_tidy u l false w lw T = T

pub close_tidy : {p : Problem} {s : State} (u : ℕ) → u < p.size → Tidy p s → Tidy p (close u s)
unfolding close
close_tidy {p} {s} u l T = record {
  room_g = T.room_g;
  room_p = T.room_p;
  room_m = rw length-set T.room_m;
  room_l = T.room_l;
  parents = T.parents;
  unseen_g = λ v k e. T.unseen_g v k (was v e (ℕ_discrete v u));
  unseen_parent = λ v k e. T.unseen_parent v k (was v e (ℕ_discrete v u));
  unseen_legs = λ v k e. T.unseen_legs v k (was v e (ℕ_discrete v u));
}
  where
    was : (v : ℕ) → at (set s.mark u 2) v ≡ 0 → Dec (v ≡ u) → at s.mark v ≡ 0
    was v e (yes q) = absurd (omega (arith, rw (q, get_or-set_same s.mark u 2 0 (omega (arith, T.room_m))) at e))
    was v e (no q) = sym (get_or-set_other s.mark u v 2 0 q) ∙ e

pub expand_tidy : {p : Problem} {s : State} (u : ℕ) → u < p.size → Tidy p s → Tidy p (expand p u s)
unfolding expand
expand_tidy {p} {s} u l T =
    around_keep p u (Tidy p) (λ w r lw R. relax_tidy u l (due p u w r) w lw R) (close u s) (close_tidy u l T) p.size (omega arith)

cond_below : (x : Bool) (a n : ℕ) → a < n → cond x a 0 < n
cond_below true a n l = l
cond_below false a n l = omega arith

cond_unseen : (x : Bool) (a : ℕ) → cond {A = ℕ} x 1 0 ≡ 0 → cond x a 0 ≡ 0
cond_unseen true a e = absurd (omega arith)
cond_unseen false a e = refl

module _ {p : Problem} (F : Fair p) where
  pub tidy_start : {s : State} → Begins p s → Tidy p s
  tidy_start {s} B = record {
    room_g = B.room_g;
    room_p = B.room_p;
    room_m = B.room_m;
    room_l = B.room_l;
    parents = λ v l. rw (B.parent_at v l) (cond_below (eqb v p.start) p.start p.size F.ground.start_on);
    unseen_g = λ v l e. B.g_at v l;
    unseen_parent = λ v l e. B.parent_at v l ∙ cond_unseen (eqb v p.start) p.start (sym (B.mark_at v l) ∙ e);
    unseen_legs = λ v l e. B.legs_at v l;
  }

  pub tidy_kept : Kept p (Tidy p)
  tidy_kept = record { on_take = λ u s G e T. expand_tidy u (choose_vertex p s u e).0 T; on_stop = λ s G T. T }

  -- ---- what the search leaves in the work slices

  sizes_kept : Kept p (SameSizes (initial p))
  sizes_kept = record {
    on_take = λ u s G e h.
        let q = expand_sizes p u s in
        record {
          g_same = q.g_same ∙ h.g_same;
          parent_same = q.parent_same ∙ h.parent_same;
          mark_same = q.mark_same ∙ h.mark_same;
          legs_same = q.legs_same ∙ h.legs_same;
        };
    on_stop = λ s G h. h;
  }

  pub search_work : Work p (search p).state
  unfolding initial
  search_work =
      let T = search_keep F tidy_kept (tidy_start (begins_initial F)) in
      let h = search_keep F sizes_kept (record { g_same = refl; parent_same = refl; mark_same = refl; legs_same = refl }) in
      record {
        g_size = h.g_same ∙ length-replicate p.size 0;
        parent_size = h.parent_same ∙ simp (length-set, length-replicate);
        mark_size = h.mark_same ∙ simp (length-set, length-replicate);
        legs_size = h.legs_same ∙ length-replicate p.size 0;
        marks = (search_stopped F).sane.marks;
        unseen_g = T.unseen_g;
        unseen_parent = T.unseen_parent;
        unseen_legs = T.unseen_legs;
      }
