-- What every mode of search shares. A mode shows the discipline below; then its turns end as they should, find a path exactly if the goal
-- is reachable, and count what they should. Assumes nothing.
use mathlib.Core.Path.{◌≡◌, refl, sym, ◌∙◌}
use mathlib.Core.Logic.{◌⊎◌, inl, inr, ◌≢◌}
use mathlib.Core.Bool.{Bool, true, false, not, cond, true≢false, false≢true}
use Prim.Native.Nat.{ℕ, zero, suc, ◌+◌, ◌≤◌, ◌<◌}
use native.Mathlib.Omega.{arith}
use lib.Dec.{eqb}
use lib.ListN.{length}
use borrow.Author.Tests.{ne_eqb}
use Rattle.laws.proofs.Tests.{bool_cases}
use Rattle.laws.specs.Below.{how_many}
use Rattle.laws.proofs.Below.{many_le}
use Rattle.reach.specs.Number.{Number, Number²}
use Rattle.reach.specs.Reach.{Reach, NearPair, Ground}
use Rattle.reach.specs.Turns.{at, seen_in, done_in, Choice, nothing, arrived, vertex, Mode, Result, turns}
use Rattle.reach.proofs.Taken.{Step, Inv, Idle, Tested, unmet, reach_below, inv_start, inv_step, tested_start, tested_step, all_done, idle_number, idle_pairs, open_fewer, open_room, tests_at_most}
use Rattle.reach.proofs.Marks.{Marks, taking, marks_step, marks_kept, length_taking}

-- ---- one turn

module _ {S : Type 0} (M : Mode S) (k : ℕ) (s : S) where
  pub turns_nothing : M.pick s ≡ nothing → turns M (suc k) s ≡ record { found = false; state = s }
  unfolding turns
  turns_nothing e = rw (e, turns)

  pub turns_arrived : M.pick s ≡ arrived → turns M (suc k) s ≡ record { found = true; state = M.stop s }
  unfolding turns
  turns_arrived e = rw (e, turns)

  pub turns_vertex : (u : ℕ) → M.pick s ≡ vertex u → turns M (suc k) s ≡ turns M k (M.take u s)
  unfolding turns
  turns_vertex u e = rw (e, turns)

-- ---- the discipline

-- a mode picks what is open, and its marks and expansions go as they should
pub record Disciplined {S : Type 0} (M : Mode S) (n : ℕ) (near : ℕ → ℕ → Bool) (goal : ℕ) : Type 0 where
  pub pick_nothing : (s : S) → M.pick s ≡ nothing → (v : ℕ) → v < n → at (M.mark s) v ≡ 1 → ⊥
  pub pick_arrived : (s : S) → M.pick s ≡ arrived → (goal < n) × (at (M.mark s) goal ≡ 1)
  pub pick_vertex : (u : ℕ) (s : S) → M.pick s ≡ vertex u → (u < n) × (at (M.mark s) u ≡ 1) × (u ≢ goal)
  pub take_mark : (u : ℕ) (s : S) → n ≤ length (M.mark s) → u < n → Marks n (M.mark s)
      → M.mark (M.take u s) ≡ taking near n u (M.mark s)
  pub take_expansions : (u : ℕ) (s : S) → M.expansions (M.take u s) ≡ M.expansions s + 1
  pub stop_mark : (s : S) → M.mark (M.stop s) ≡ M.mark s
  pub stop_expansions : (s : S) → M.expansions (M.stop s) ≡ M.expansions s

-- a mode that makes one test for each near neighbour not yet expanded of the vertex that it takes, and no other
pub record OneTestEach {S : Type 0} (M : Mode S) (tests : S → ℕ) (n : ℕ) (near : ℕ → ℕ → Bool) : Type 0 where
  pub take_tests : (u : ℕ) (s : S) → n ≤ length (M.mark s) → u < n → Marks n (M.mark s)
      → tests (M.take u s) ≡ tests s + how_many n (unmet near (done_in (M.mark s)) u)
  pub stop_tests : (s : S) → tests (M.stop s) ≡ tests s

-- where every mode begins: the start alone is open, and nothing is expanded
pub record Started {S : Type 0} (M : Mode S) (n start : ℕ) (s : S) : Type 0 where
  pub room : n ≤ length (M.mark s)
  pub alone : (v : ℕ) → v < n → at (M.mark s) v ≡ cond (eqb v start) 1 0
  pub fresh : M.expansions s ≡ 0

-- what holds between the turns of every mode
pub record Sane {S : Type 0} (M : Mode S) (n : ℕ) (near : ℕ → ℕ → Bool) (start goal : ℕ) (s : S) : Type 0 where
  pub room : n ≤ length (M.mark s)
  pub marks : Marks n (M.mark s)
  pub inv : Inv n near start (seen_in (M.mark s)) (done_in (M.mark s)) (M.expansions s)
  pub goal_waits : goal < n → done_in (M.mark s) goal ≡ false

-- how the turns of every mode end
pub record Stopped {S : Type 0} (M : Mode S) (n : ℕ) (near : ℕ → ℕ → Bool) (start goal : ℕ) (r : Result S) : Type 0 where
  pub sane : Sane M n near start goal r.state
  pub at_goal : r.found ≡ true → (goal < n) × (at (M.mark r.state) goal ≡ 1)
  pub idle : r.found ≡ false → Idle n (seen_in (M.mark r.state)) (done_in (M.mark r.state))

-- each turn, and arriving, keeps I
pub record Keeps {S : Type 0} (M : Mode S) (n : ℕ) (near : ℕ → ℕ → Bool) (start goal : ℕ) (I : S → Type 0) : Type 0 where
  pub on_take : (u : ℕ) (s : S) → Sane M n near start goal s → M.pick s ≡ vertex u → I s → I (M.take u s)
  pub on_stop : (s : S) → Sane M n near start goal s → I s → I (M.stop s)

mark_cases : (a : ℕ) → a ≤ 2 → (a ≡ 1 → ⊥) → not (eqb a 0) ≡ true → eqb a 2 ≡ true
mark_cases zero l h e = e
mark_cases (suc zero) l h e = absurd (h refl)
mark_cases (suc (suc zero)) l h e = refl
mark_cases (suc (suc (suc a))) l h e = absurd (omega arith)

begun_seen : (c : Bool) → not (eqb (cond c 1 0) 0) ≡ c
begun_seen true = refl
begun_seen false = refl

begun_done : (c : Bool) → eqb (cond c 1 0) 2 ≡ false
begun_done true = refl
begun_done false = refl

begun_le : (c : Bool) → cond c 1 0 ≤ 2
begun_le true = omega arith
begun_le false = omega arith

-- ---- the beginning

module _ {S : Type 0} {M : Mode S} {n start : ℕ} {s : S} (B : Started M n start s) where
  none_done : (v : ℕ) → v < n → done_in (M.mark s) v ≡ false
  none_done v l = rw (B.alone v l) (begun_done (eqb v start))

  -- no test has been made
  pub untested : {near : ℕ → ℕ → Bool} → Ground n near start → Tested n near (done_in (M.mark s)) 0
  untested F = tested_start F (done_in (M.mark s)) none_done

  pub sane_start : {near : ℕ → ℕ → Bool} {goal : ℕ} → Ground n near start → Sane M n near start goal s
  sane_start {goal = goal} F = record {
    room = B.room;
    marks = λ v l. rw (B.alone v l) (begun_le (eqb v start));
    inv = rw B.fresh
        (inv_start F (seen_in (M.mark s)) (done_in (M.mark s)) (λ v l. rw (B.alone v l) (begun_seen (eqb v start))) none_done);
    goal_waits = λ on. none_done goal on;
  }

module _ {S : Type 0} {M : Mode S} {n : ℕ} {near : ℕ → ℕ → Bool} {start goal : ℕ} (F : Ground n near start) where
  pub expansions_le : {s : S} → Sane M n near start goal s → M.expansions s ≤ n
  expansions_le {s} G = omega (arith, G.inv.taken, many_le (done_in (M.mark s)) n)

  module _ (D : Disciplined M n near goal) where
    -- ---- one turn keeps it

    step_of : (u : ℕ) (s : S) → Sane M n near start goal s → M.pick s ≡ vertex u
        → Step n near u (seen_in (M.mark s)) (done_in (M.mark s)) (seen_in (M.mark (M.take u s))) (done_in (M.mark (M.take u s)))
    step_of u s G e =
        let c = D.pick_vertex u s e in
        rw (D.take_mark u s G.room c.0 G.marks) (marks_step n near u (M.mark s) c.0 G.room c.1)

    pub sane_take : (u : ℕ) (s : S) → Sane M n near start goal s → M.pick s ≡ vertex u → Sane M n near start goal (M.take u s)
    sane_take u s G e =
        let c = D.pick_vertex u s e in
        let m = D.take_mark u s G.room c.0 G.marks in
        let st = step_of u s G e in
        record {
          room = rw m (omega (arith, length_taking n near u (M.mark s) c.0 G.room c.1, G.room));
          marks = rw m (marks_kept n near u (M.mark s) c.0 G.room c.1 G.marks);
          inv = rw (D.take_expansions u s) (inv_step F st G.inv);
          goal_waits = λ on. st.done_now goal on ∙ rw (ne_eqb goal u (omega (arith, c.2))) (G.goal_waits on);
        }

    sane_stop : (s : S) → Sane M n near start goal s → Sane M n near start goal (M.stop s)
    sane_stop s G = record {
      room = rw (D.stop_mark s) G.room;
      marks = rw (D.stop_mark s) G.marks;
      inv = rw (D.stop_mark s, D.stop_expansions s) G.inv;
      goal_waits = rw (D.stop_mark s) G.goal_waits;
    }

    -- a vertex is picked only where one more expansion has room
    pub pick_room : (u : ℕ) (s : S) → Sane M n near start goal s → M.pick s ≡ vertex u → M.expansions s < n
    pick_room u s G e =
        let c = D.pick_vertex u s e in
        open_room F G.inv u c.0 (rw c.1 refl)

    -- ---- all turns

    -- the fuel is enough, and the turns end as they should
    pub turns_stopped : (k : ℕ) (s : S) → Sane M n near start goal s → n < k + M.expansions s → Stopped M n near start goal (turns M k s)
    turns_stopped zero s G l = absurd (omega (arith, expansions_le G))
    turns_stopped (suc k) s G l = go (M.pick s) refl (λ u G' l'. turns_stopped k (M.take u s) G' l')
      where
        go : (c : Choice) → M.pick s ≡ c
            → ((u : ℕ) → Sane M n near start goal (M.take u s) → n < k + M.expansions (M.take u s)
            → Stopped M n near start goal (turns M k (M.take u s)))
            → Stopped M n near start goal (turns M (suc k) s)
        go nothing e ih =
            rw (turns_nothing M k s e)
            (record {
              sane = G;
              at_goal = λ f. absurd (false≢true f);
              idle = λ f v m h. mark_cases (at (M.mark s) v) (G.marks v m) (D.pick_nothing s e v m) h;
            })
        go arrived e ih =
            rw (turns_arrived M k s e)
            (record { sane = sane_stop s G; at_goal = λ f. rw (D.stop_mark s) (D.pick_arrived s e); idle = λ f. absurd (true≢false f) })
        go (vertex u) e ih = rw (turns_vertex M k s u e) (ih u (sane_take u s G e) (omega (arith, D.take_expansions u s)))

    -- as many turns as there are vertices, and one more, are enough
    pub started_stopped : {s : S} → Started M n start s → Stopped M n near start goal (turns M (suc n) s)
    started_stopped {s} B = turns_stopped (suc n) s (sane_start B F) (omega (arith, B.fresh))

    -- whatever each turn keeps, the turns keep
    pub turns_keep : {I : S → Type 0} → Keeps M n near start goal I → (k : ℕ) (s : S) → Sane M n near start goal s → I s → I (turns M k s).state
    unfolding turns
    turns_keep K zero s G i = i
    turns_keep {I} K (suc k) s G i = go (M.pick s) refl (λ u G' i'. turns_keep K k (M.take u s) G' i')
      where
        go : (c : Choice) → M.pick s ≡ c
            → ((u : ℕ) → Sane M n near start goal (M.take u s) → I (M.take u s) → I (turns M k (M.take u s)).state)
            → I (turns M (suc k) s).state
        go nothing e ih = rw (turns_nothing M k s e) i
        go arrived e ih = rw (turns_arrived M k s e) (K.on_stop s G i)
        go (vertex u) e ih = rw (turns_vertex M k s u e) (ih u (sane_take u s G e) (K.on_take u s G e i))

    -- the tests are kept equal to the near pairs with an end expanded
    pub keeps_tested : {tests : S → ℕ} → OneTestEach M tests n near → Keeps M n near start goal (λ s. Tested n near (done_in (M.mark s)) (tests s))
    keeps_tested {tests} T = record {
      on_take = λ u s G e i. rw (T.take_tests u s G.room (D.pick_vertex u s e).0 G.marks) (tested_step F (step_of u s G e) (tests s) i);
      on_stop = λ s G i. rw (D.stop_mark s, T.stop_tests s) i;
    }

  -- ---- what the end says

  module _ {r : Result S} (E : Stopped M n near start goal r) where
    pub found_reach : r.found ≡ true → Reach near start goal
    found_reach f = E.sane.inv.sound goal (E.at_goal f).0 (rw (E.at_goal f).1 refl)

    pub reach_found : Reach near start goal → r.found ≡ true
    reach_found R = go (bool_cases r.found)
      where
        go : (r.found ≡ true) ⊎ (r.found ≡ false) → r.found ≡ true
        go (inl e) = e
        go (inr e) = absurd (true≢false (sym (all_done F E.sane.inv (E.idle e) R) ∙ E.sane.goal_waits (reach_below F R)))

    pub none_expansions : r.found ≡ false → Number n (Reach near start) (M.expansions r.state)
    none_expansions f = idle_number F E.sane.inv (E.idle f)

    pub found_expansions : r.found ≡ true → {k : ℕ} → Number n (Reach near start) k → M.expansions r.state < k
    found_expansions f {k} K =
        let g = E.at_goal f in
        open_fewer F E.sane.inv goal k g.0 (rw g.1 refl) (rw g.1 refl) K

    -- for a mode with one test for each near pair
    module _ {t : ℕ} (T : Tested n near (done_in (M.mark r.state)) t) where
      pub none_tests : r.found ≡ false → Number² n (NearPair near start) t
      none_tests f = idle_pairs F E.sane.inv t T (E.idle f)

      pub most_tests : {k : ℕ} → Number² n (NearPair near start) k → t ≤ k
      most_tests {k} K = tests_at_most F E.sane.inv t k T K
