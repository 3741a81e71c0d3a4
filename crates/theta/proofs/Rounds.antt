-- The inner loop: the neighbours of a taken vertex are looked at one after another, and then the outer loop goes on. Assumes nothing.
use mathlib.Core.Path.{◌≡◌, refl, sym, ap, ◌∙◌}
use mathlib.Core.Logic.{◌⊎◌, inl, inr, ◌≢◌}
use mathlib.Core.Bool.{Bool, true, false, ◌||◌, cond}
use mathlib.Core.List.{List}
use Prim.Native.Nat.{ℕ, zero, suc, ◌+◌, ◌*◌, ◌≤◌, ◌<◌}
use native.Mathlib.Omega.{arith}
use native.Mathlib.Numerals.{add-one}
use lib.Dec.{eqb, ltb}
use lib.ListN.{length-set}
use borrow.Author.Tests.{eqb-true, eq-eqb, ne_eqb}
use Rattle.laws.proofs.Tests.{and_false}
use Rattle.reach.specs.Reach.{Reach, move}
use Rattle.reach.specs.Turns.{at, done_in, vertex, Result}
use Rattle.laws.proofs.Below.{many_le}
use Rattle.reach.proofs.Taken.{unmet}
use Rattle.reach.proofs.Marks.{turned, turned_done, turned_le, turned_seen, marks_set, set_seen}
use Rattle.theta.specs.Order.{less_or}
use Rattle.theta.specs.Search.{Problem, State, choose, via, cost, wins, store, due, relax, around, close, expand}
use Rattle.theta.specs.Fair.{Fair, FairLegs}
use Rattle.theta.specs.Lent.{counting, marked, Ready, Better, Looked, Rounded}
use Rattle.theta.proofs.Wins.{better, wins_test}
use Rattle.theta.proofs.Choosing.{choose_vertex}
use Rattle.theta.proofs.Taking.{around_mark, around_tests, around_skip}
use Rattle.theta.proofs.Tidy.{SameSizes, around_sizes}
use Rattle.theta.proofs.Entries.{Entry, entry_of, cond_of, kept}
use Rattle.theta.proofs.Links.{taken_upstream, parent_upstream}
use Rattle.theta.proofs.Held.{Going, g_bound, legs_bound, going_room, going_step}

-- ---- one vertex

module _ (p : Problem) (u w : ℕ) (s : State) where
  -- it is not near
  pub look_far : p.near u w ≡ false → Looked p u w s s
  look_far h = record { is = rw h refl }

  -- it is expanded
  pub look_done : at s.mark w ≡ 2 → Looked p u w s s
  look_done h = record { is = rw (h, and_false (p.near u w) refl) refl }

  -- it is due: c is the candidate parent, a the candidate g, j the candidate legs
  module _ (h : p.near u w ≡ true) (d : at s.mark w ≢ 2) (c a j : ℕ)
      (ec : c ≡ cond (p.sees (at s.parent u) w) (at s.parent u) u) (ea : a ≡ at s.g c + p.len c w) (ej : j ≡ at s.legs c + 1) where
    pub look_due : (b : Bool) → (eqb (at s.mark w) 0 || less_or a (at s.g w) (ltb j (at s.legs w))) ≡ b → Looked p u w s (store b w c a s)
    look_due b x = record { is = rw (h, ne_eqb (at s.mark w) 2 d, ← ec, wins_test p s c w, ← ea, ← ej, x) refl }

-- an open vertex wins by a smaller g, or by the same and fewer legs
pub fell : (m c k old few : ℕ) → (eqb m 0 || less_or c old (ltb k few)) ≡ true → m ≡ 1 → Better c k old few
fell m c k old few h e = better c k old few (rw e at h)

-- the candidate parent is on the board, its g is bounded, and it has fewer legs than there are vertices
pub ready_candidate : {p : Problem} {most u : ℕ} {s : State} → Ready p most u s → (w c : ℕ)
    → c ≡ cond (p.sees (at s.parent u) w) (at s.parent u) u → (c < p.size) × (at s.g c ≤ most) × (at s.legs c < p.size)
ready_candidate {p} {most} {u} {s} R w c e =
    rw e
    (cond_of (p.sees (at s.parent u) w) (at s.parent u) u (λ x. (x < p.size) × (at s.g x ≤ most) × (at s.legs x < p.size))
    (R.on_parent, R.g_most_parent, R.few_legs_parent) (R.on, R.g_most, R.few_legs))

-- ---- one after another

pub rounded_none : (p : Problem) (u : ℕ) (s : State) → Rounded p u 0 s s
unfolding around
rounded_none p u s = record { is = refl }

module _ {p : Problem} {u k : ℕ} {s r : State} (R : Rounded p u k s r) where
  -- one more vertex
  pub rounded_more : {q : State} → Looked p u k r q → Rounded p u (k + 1) s q
  unfolding around
  rounded_more L = record { is = rw add-one (L.is ∙ ap (λ (x : State). relax (due p u k x) p u k x) R.is) }

  -- vertices that are not near are passed over
  pub rounded_skip : (j : ℕ) → k ≤ j → ((v : ℕ) → k ≤ v → v < j → p.near u v ≡ false) → Rounded p u j s r
  rounded_skip j l h = record { is = R.is ∙ sym (around_skip p u s k j l h) }

  module _ {most : ℕ} (D : Ready p most u s) (l : k ≤ p.size) where
    mark_is : r.mark ≡ turned p.near u k s.mark
    mark_is = ap (λ (x : State). x.mark) R.is ∙ around_mark p u s k (λ v h. D.marks v (omega arith))

    pub rounded_sizes : SameSizes s r
    rounded_sizes = rw R.is (around_sizes p u s k l)

    pub rounded_tests : r.tests ≤ s.tests + k
    rounded_tests = omega (
      arith,
      ap (λ (x : State). x.tests) R.is,
      around_tests p u s k (λ v h. D.marks v (omega arith)),
      many_le (unmet p.near (done_in s.mark) u) k,
    )

    fixed : (v : ℕ) → at s.mark v ≡ 2 → entry_of r v ≡ entry_of s v
    fixed v d =
        ap (λ (x : State). entry_of x v) R.is
        ∙ kept p u s D.marks D.room_g D.room_p D.room_l (eq-eqb (at s.mark u) 2 D.done)
        (eq-eqb (at s.mark (at s.parent u)) 2 D.done_parent) k v l (eq-eqb (at s.mark v) 2 d)

    done_stays : (v : ℕ) → at s.mark v ≡ 2 → at r.mark v ≡ 2
    done_stays v d =
        eqb-true (at r.mark v) 2
        (ap (λ (x : List ℕ). done_in x v) mark_is ∙ turned_done p.near u s.mark k v (omega (arith, D.room_m)) ∙ eq-eqb (at s.mark v) 2 d)

    -- the taken vertex keeps its parent
    pub rounded_parent : at r.parent u ≡ at s.parent u
    rounded_parent = ap (λ (x : Entry). x.parent) (fixed u D.done)

    -- what is seen stays reached
    still_reached : (v : ℕ) → v < p.size → at r.mark v ≢ 0 → Reach p.near p.start v
    still_reached v h q =
        go (turned_seen p.near u s.mark k v (omega (arith, D.room_m)) (λ e. q (ap (λ (x : List ℕ). at x v) mark_is ∙ e)))
      where
        go : (at s.mark v ≢ 0) ⊎ (p.near u v ≡ true) → Reach p.near p.start v
        go (inl a) = D.reached v h a
        go (inr n) = move (D.reached u D.on (λ e. omega (arith, D.done))) n

    -- the taken vertex stays ready
    pub rounded_ready : Ready p most u r
    rounded_ready =
        let a = fixed u D.done in
        let q = rounded_parent in
        let c = fixed (at s.parent u) D.done_parent in
        let size = rounded_sizes in
        record {
          room_g = omega (arith, D.room_g, size.g_same);
          room_p = omega (arith, D.room_p, size.parent_same);
          room_m = omega (arith, D.room_m, size.mark_same);
          room_l = omega (arith, D.room_l, size.legs_same);
          marks = λ v h. rw mark_is (turned_le p.near u s.mark k v (omega (arith, D.room_m)) (D.marks v h));
          reached = still_reached;
          on = D.on;
          on_parent = rw q D.on_parent;
          done = done_stays u D.done;
          done_parent = rw q (done_stays (at s.parent u) D.done_parent);
          g_most = rw (ap (λ (x : Entry). x.g) a) D.g_most;
          g_most_parent = rw (q, ap (λ (x : Entry). x.g) c) D.g_most_parent;
          few_legs = rw (ap (λ (x : Entry). x.legs) a) D.few_legs;
          few_legs_parent = rw (q, ap (λ (x : Entry). x.legs) c) D.few_legs_parent;
        }

-- ---- the expansions do not matter to a round

store_counting : (e : ℕ) (b : Bool) (w c a : ℕ) (s : State) → store b w c a (counting e s) ≡ counting e (store b w c a s)
store_counting e true w c a s = refl
store_counting e false w c a s = refl

relax_counting : (e : ℕ) (b : Bool) (p : Problem) (u w : ℕ) (s : State) → relax b p u w (counting e s) ≡ counting e (relax b p u w s)
unfolding wins
relax_counting e true p u w s = store_counting e (wins p s (via p s u w) w) w (via p s u w) (cost p s (via p s u w) w) s
relax_counting e false p u w s = refl

around_counting : (e : ℕ) (p : Problem) (u k : ℕ) (s : State) → around p u k (counting e s) ≡ counting e (around p u k s)
unfolding around
around_counting e p u zero s = refl
around_counting e p u (suc k) s =
    let r = around p u k s in
    ap (λ (x : State). relax (due p u k x) p u k x) (around_counting e p u k s) ∙ relax_counting e (due p u k r) p u k r

-- ---- within the outer loop

module _ {p : Problem} (F : Fair p) {longest : ℕ} (L : FairLegs p longest) {whole : Result State} {s : State} (W : Going p longest whole s)
    (u : ℕ) (c : choose p s ≡ vertex u) where
  -- a vertex that is taken is ready, once it is marked expanded
  pub going_ready : Ready p (p.size * longest) u (marked u (counting 0 s))
  going_ready =
      let o = choose_vertex p s u c in
      let H = W.kept in
      let a = taken_upstream F L u W.sane H.tidy H.linked o.0 o.1 in
      let b = parent_upstream F L u W.sane H.tidy H.linked o.0 o.1 in
      record {
        room_g = H.tidy.room_g;
        room_p = H.tidy.room_p;
        room_m = rw length-set H.tidy.room_m;
        room_l = H.tidy.room_l;
        marks = marks_set p.size u s.mark (omega (arith, H.tidy.room_m, o.0)) W.sane.marks;
        reached = λ v h q.
            W.sane.inv.sound v h
            (sym (set_seen p.size p.near u s.mark o.0 W.sane.room o.1 v)
            ∙ rw (ne_eqb (at (marked u s).mark v) 0 q) refl);
        on = a.on;
        on_parent = b.on;
        done = eqb-true (at (marked u s).mark u) 2 a.done;
        done_parent = eqb-true (at (marked u s).mark (at s.parent u)) 2 b.done;
        g_most = g_bound F W.sane H u a.on a.seen;
        g_most_parent = g_bound F W.sane H (at s.parent u) b.on b.seen;
        few_legs = omega (arith, legs_bound F W.sane H u a.on a.seen, going_room F W u c);
        few_legs_parent = omega (arith, legs_bound F W.sane H (at s.parent u) b.on b.seen, going_room F W u c);
      }

  -- after its round the loop goes on
  pub going_round : {r : State} → Rounded p u p.size (marked u (counting 0 s)) r → Going p longest whole (counting (s.expansions + 1) r)
  unfolding expand close
  going_round R =
      rw (ap (counting (s.expansions + 1)) R.is ∙ sym (around_counting (s.expansions + 1) p u p.size (marked u (counting 0 s))))
      (going_step F W L u c)
