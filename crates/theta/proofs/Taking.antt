-- Taking a vertex: its marks and its counts go as `reach` asks, so the search is a disciplined mode with one test for each near neighbour
-- not yet expanded. Assumes nothing.
use mathlib.Core.Path.{◌≡◌, refl, ap, ◌∙◌}
use mathlib.Core.Bool.{Bool, true, false, not, ◌&&◌}
use mathlib.Core.List.{List}
use Prim.Native.Nat.{ℕ, zero, suc, ◌+◌, ◌≤◌, ◌<◌}
use native.Mathlib.Omega.{arith}
use native.Mathlib.Decide.{ℕ_discrete}
use lib.Dec.{eqb}
use lib.ListN.{length, set}
use lib.Seq.{get_or-set_other, set-get_or}
use Rattle.laws.specs.Below.{as_number, how_many}
use Rattle.laws.proofs.Below.{many_same}
use Rattle.reach.specs.Reach.{Near}
use Rattle.reach.specs.Turns.{at, done_in}
use Rattle.reach.proofs.Taken.{unmet}
use Rattle.reach.proofs.Marks.{Marks, opened, turned, turned_later, taking, marks_set}
use Rattle.reach.proofs.Turns.{Disciplined, OneTestEach}
use Rattle.theta.specs.Search.{Problem, State, due, via, cost, wins, store, relax, around, close, expand, basic}
use Rattle.theta.proofs.Wins.{wins_unseen}
use Rattle.theta.proofs.Choosing.{choose_nothing, choose_arrived, choose_vertex}

-- ---- one neighbour

store_open : (d : Bool) (w c g : ℕ) (s : State) → at s.mark w ≡ 1 → (store d w c g s).mark ≡ s.mark
store_open true w c g s e = rw e at (set-get_or s.mark w 0)
store_open false w c g s e = refl

store_tests : (d : Bool) (w c g : ℕ) (s : State) → (store d w c g s).tests ≡ s.tests + 1
store_tests true w c g s = refl
store_tests false w c g s = refl

store_expansions : (d : Bool) (w c g : ℕ) (s : State) → (store d w c g s).expansions ≡ s.expansions
store_expansions true w c g s = refl
store_expansions false w c g s = refl

module _ (p : Problem) (u w : ℕ) (s : State) where
  relax_mark : (x : Bool) (a : ℕ) → at s.mark w ≡ a → a ≤ 2 → (relax (x && not (eqb a 2)) p u w s).mark ≡ opened (x && eqb a 0) w s.mark
  relax_mark false a e h = refl
  relax_mark true zero e h = rw (wins_unseen p s (via p s u w) w e) refl
  relax_mark true (suc zero) e h = store_open (wins p s (via p s u w) w) w (via p s u w) (cost p s (via p s u w) w) s e
  relax_mark true (suc (suc zero)) e h = refl
  relax_mark true (suc (suc (suc a))) e h = absurd (omega arith)

  relax_tests : (c : Bool) → (relax c p u w s).tests ≡ s.tests + as_number c
  relax_tests true = store_tests (wins p s (via p s u w) w) w (via p s u w) (cost p s (via p s u w) w) s
  relax_tests false = omega arith

  relax_expansions : (c : Bool) → (relax c p u w s).expansions ≡ s.expansions
  relax_expansions true = store_expansions (wins p s (via p s u w) w) w (via p s u w) (cost p s (via p s u w) w) s
  relax_expansions false = refl

-- ---- all of them

module _ (p : Problem) (u : ℕ) (s : State) where
  pub around_mark : (k : ℕ) → Marks k s.mark → (around p u k s).mark ≡ turned p.near u k s.mark
  unfolding around turned
  around_mark zero h = refl
  around_mark (suc k) h =
      let ih = around_mark k (λ v l. h v (omega arith)) in
      relax_mark p u k (around p u k s) (p.near u k) (at (around p u k s).mark k) refl
      (rw (ih, turned_later p.near u s.mark k k (omega arith)) (h k (omega arith)))
      ∙ ap (λ (m : List ℕ). opened (p.near u k && eqb (at m k) 0) k m) ih

  pub around_tests : (k : ℕ) → Marks k s.mark → (around p u k s).tests ≡ s.tests + how_many k (unmet p.near (done_in s.mark) u)
  unfolding around how_many
  around_tests zero h = omega arith
  around_tests (suc k) h =
      let ih = around_tests k (λ v l. h v (omega arith)) in
      let same : as_number (due p u k (around p u k s)) ≡ as_number (unmet p.near (done_in s.mark) u k) =
      rw (around_mark k (λ v l. h v (omega arith)), turned_later p.near u s.mark k k (omega arith)) refl in
      omega (arith, relax_tests p u k (around p u k s) (due p u k (around p u k s)))

  around_expansions : (k : ℕ) → (around p u k s).expansions ≡ s.expansions
  unfolding around
  around_expansions zero = refl
  around_expansions (suc k) = relax_expansions p u k (around p u k s) (due p u k (around p u k s)) ∙ around_expansions k

  -- vertices that are not near are passed over
  pub around_skip : (k j : ℕ) → k ≤ j → ((v : ℕ) → k ≤ v → v < j → p.near u v ≡ false) → around p u j s ≡ around p u k s
  unfolding around
  around_skip k zero l h = let z : k ≡ 0 = omega arith in rw z
  around_skip k (suc j) l h = go (ℕ_discrete k (suc j)) (λ m. around_skip k j m (λ v a b. h v a (omega arith)))
    where
      go : Dec (k ≡ suc j) → (k ≤ j → around p u j s ≡ around p u k s) → around p u (suc j) s ≡ around p u k s
      go (yes e) ih = rw e
      go (no e) ih = rw (h j (omega arith) (omega arith)) (ih (omega arith))

-- ---- one turn

module _ (p : Problem) (u : ℕ) (s : State) (room : p.size ≤ length s.mark) (l : u < p.size) (h : Marks p.size s.mark) where
  marks_close : Marks p.size (set s.mark u 2)
  marks_close = marks_set p.size u s.mark (omega arith) h

  pub expand_mark : (expand p u s).mark ≡ taking p.near p.size u s.mark
  unfolding expand close
  expand_mark = around_mark p u (close u s) p.size marks_close

  expand_tests : Near p.size p.near → (expand p u s).tests ≡ s.tests + how_many p.size (unmet p.near (done_in s.mark) u)
  unfolding expand close
  expand_tests N =
      around_tests p u (close u s) p.size marks_close
      ∙ ap (λ (x : ℕ). s.tests + x)
      (many_same (unmet p.near (done_in (set s.mark u 2)) u) (unmet p.near (done_in s.mark) u) p.size (λ v k. go v (ℕ_discrete v u)))
    where
      go : (v : ℕ) → Dec (v ≡ u) → unmet p.near (done_in (set s.mark u 2)) u v ≡ unmet p.near (done_in s.mark) u v
      go v (yes e) = rw (e, N.irreflexive u) refl
      go v (no e) = rw (get_or-set_other s.mark u v 2 0 e) refl

pub expand_expansions : (p : Problem) (u : ℕ) (s : State) → (expand p u s).expansions ≡ s.expansions + 1
unfolding expand close
expand_expansions p u s = around_expansions p u (close u s) p.size

-- ---- the search is a mode in the sense of `reach`

pub basic_disciplined : (p : Problem) → Disciplined (basic p) p.size p.near p.goal
basic_disciplined p = record {
  pick_nothing = choose_nothing p;
  pick_arrived = choose_arrived p;
  pick_vertex = λ u s. choose_vertex p s u;
  take_mark = expand_mark p;
  take_expansions = expand_expansions p;
  stop_mark = λ s. refl;
  stop_expansions = λ s. refl;
}

pub basic_tests : (p : Problem) → Near p.size p.near → OneTestEach (basic p) (λ s. s.tests) p.size p.near
basic_tests p N = record { take_tests = λ u s room l h. expand_tests p u s room l h N; stop_tests = λ s. refl }
