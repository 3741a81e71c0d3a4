-- Demand 3: the search finds a path exactly if there is one, and its counts are what they should be; and what is marked where it finds
-- none. Assumes nothing.
use mathlib.Core.Path.{◌≡◌, refl, sym, ◌∙◌}
use mathlib.Core.Logic.{◌↔◌, ◌≢◌}
use mathlib.Core.Bool.{true, false, false≢true}
use Prim.Native.Nat.{ℕ, suc, ◌<◌}
use borrow.Author.Tests.{eqb-true}
use Rattle.reach.specs.Complete.{Complete, PairsTested}
use Rattle.reach.specs.Reach.{Reach}
use Rattle.reach.specs.Turns.{at, seen_in, done_in}
use Rattle.reach.proofs.Taken.{Tested, all_done}
use Rattle.reach.proofs.Turns.{Started, Sane, Stopped, Keeps, sane_start, untested, started_stopped, turns_keep, keeps_tested}
use Rattle.reach.proofs.Complete.{mode_complete, mode_tested}
use Rattle.theta.specs.Search.{Problem, State, initial, basic, search}
use Rattle.theta.specs.Lent.{Begins}
use Rattle.theta.specs.Fair.{Fair}
use Rattle.theta.proofs.Taking.{basic_disciplined, basic_tests}
use Rattle.theta.proofs.Begins.{begins_initial}

-- what holds of the marks and expansions between the turns
abbrev pub Good : Problem → State → Type 0
Good p s = Sane (basic p) p.size p.near p.start p.goal s

-- one test for each near pair with an end expanded
abbrev pub Counted : Problem → State → Type 0
Counted p s = Tested p.size p.near (done_in s.mark) s.tests

-- what the turns of the search keep
abbrev pub Kept : Problem → (State → Type 0) → Type 0
Kept p I = Keeps (basic p) p.size p.near p.start p.goal I

module _ {p : Problem} (F : Fair p) where
  started : {s : State} → Begins p s → Started (basic p) p.size p.start s
  started B = record { room = B.room_m; alone = B.mark_at; fresh = B.expansions_none }

  pub good_start : {s : State} → Begins p s → Good p s
  good_start B = sane_start (started B) F.ground

  pub counted_start : {s : State} → Begins p s → Counted p s
  counted_start B = rw B.tests_none (untested (started B) F.ground)

  pub counted_kept : Kept p (Counted p)
  counted_kept = keeps_tested F.ground (basic_disciplined p) (basic_tests p F.ground.near_laws)

  pub search_stopped : Stopped (basic p) p.size p.near p.start p.goal (search p)
  unfolding search
  search_stopped = started_stopped F.ground (basic_disciplined p) (started (begins_initial F))

  -- whatever each turn keeps and the beginning has, the search has in the end
  pub search_keep : {I : State → Type 0} → Kept p I → I (initial p) → I (search p).state
  unfolding search
  search_keep K i = turns_keep F.ground (basic_disciplined p) K (suc p.size) (initial p) (good_start (begins_initial F)) i

  -- what is found
  pub search_complete : Complete p.size p.near p.start p.goal (search p).found (search p).state.expansions
  unfolding search
  search_complete = mode_complete F.ground (basic_disciplined p) (started (begins_initial F))

  -- what is tested
  pub search_tested : PairsTested p.size p.near p.start (search p).found (search p).state.tests
  unfolding search
  search_tested =
      let B = begins_initial F in
      mode_tested F.ground (basic_disciplined p) (started B) (basic_tests p F.ground.near_laws) B.tests_none

  -- ---- with no path: nothing is open, and the vertices that are reached from the start are expanded, and they alone

  module _ (f : (search p).found ≡ false) (v : ℕ) (l : v < p.size) where
    pub none_open : at (search p).state.mark v ≢ 1
    none_open e =
        let seen : seen_in (search p).state.mark v ≡ true = rw e refl in
        let undone : done_in (search p).state.mark v ≡ false = rw e refl in
        false≢true (sym undone ∙ search_stopped.idle f v l seen)

    pub none_expanded : (at (search p).state.mark v ≡ 2) ↔ Reach p.near p.start v
    none_expanded = (
      (λ e. let done : done_in (search p).state.mark v ≡ true = rw e refl in
          search_stopped.sane.inv.sound v l (search_stopped.sane.inv.within v l done)),
      (λ r. eqb-true (at (search p).state.mark v) 2 (all_done F.ground search_stopped.sane.inv (search_stopped.idle f) r)),
    )
