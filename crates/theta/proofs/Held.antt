-- All that the turns of the search keep, in one record, and the loop rule with it. Assumes nothing.
use mathlib.Core.Path.{◌≡◌, refl}
use mathlib.Core.Bool.{true, false}
use Prim.Native.Nat.{ℕ, suc, ◌*◌, ◌≤◌, ◌<◌}
use native.Mathlib.Nat.{le_trans, mul-le-mul_right}
use native.Mathlib.Omega.{arith}
use borrow.Author.Tests.{ne_eqb}
use Rattle.reach.specs.Turns.{at, seen_in, done_in, nothing, arrived, vertex, Result, turns}
use Rattle.reach.proofs.Counting.{pairs_le}
use Rattle.reach.proofs.Taken.{touched}
use Rattle.reach.proofs.Turns.{expansions_le}
use Rattle.reach.proofs.Going as Loop
use Rattle.theta.specs.Search.{Problem, State, choose, expand, basic, search}
use Rattle.theta.specs.Demands.{LegsCounted}
use Rattle.theta.specs.Lent.{Begins}
use Rattle.theta.specs.Fair.{Fair, FairLegs}
use Rattle.theta.proofs.Choosing.{choose_vertex}
use Rattle.theta.proofs.Taking.{basic_disciplined}
use Rattle.theta.proofs.Begins.{begins_initial}
use Rattle.theta.proofs.Completeness.{Good, Counted, Kept, good_start, counted_start, counted_kept, search_keep}
use Rattle.theta.proofs.Tidy.{Tidy, tidy_start, tidy_kept}
use Rattle.theta.proofs.Links.{Linked, linked_start, linked_step, legs_back}

-- the tests are counted, the lists are tidy, the seen vertices hang on the start
pub record Held (p : Problem) (longest : ℕ) (s : State) : Type 0 where
  pub counted : Counted p s
  pub tidy : Tidy p s
  pub linked : Linked p longest s

-- a loop is at the state s of the search that gives the whole
abbrev pub Going : (p : Problem) (longest : ℕ) (whole : Result State) (s : State) → Type 0
Going p longest whole s = Loop.Going (basic p) p.size p.near p.start p.goal (Held p longest) whole s

module _ {p : Problem} (F : Fair p) {longest : ℕ} where
  held_start : {s : State} → Begins p s → Held p longest s
  held_start B = record { counted = counted_start F B; tidy = tidy_start F B; linked = linked_start longest F B }

  held_kept : FairLegs p longest → Kept p (Held p longest)
  held_kept W = record {
    on_take = λ u s G e H.
        let o = choose_vertex p s u e in
        record {
          counted = (counted_kept F).on_take u s G e H.counted;
          tidy = (tidy_kept F).on_take u s G e H.tidy;
          linked = linked_step F W u G H.tidy H.linked o.0 o.1;
        };
    on_stop = λ s G H. H;
  }

  pub search_held : FairLegs p longest → Held p longest (search p).state
  search_held W = search_keep F (held_kept W) (held_start (begins_initial F))

  -- the legs are counted from the start
  pub search_legs : FairLegs p longest → LegsCounted p (search p).state
  search_legs W =
      let K = (search_held W).linked in
      record {
        start_legs = K.root_legs;
        seen_legs = λ v l h d. (K.links v l (rw (ne_eqb (at (search p).state.mark v) 0 h) refl) d).counts;
      }

  -- every parent is a vertex
  pub search_parents : FairLegs p longest → (v : ℕ) → v < p.size → at (search p).state.parent v < p.size
  search_parents W = (search_held W).tidy.parents

  -- ---- bounds, for numbers that have to fit

  -- no vertex has more legs than there were expansions
  pub legs_bound : {s : State} → Good p s → Held p longest s → (v : ℕ) → v < p.size → seen_in s.mark v ≡ true → at s.legs v ≤ s.expansions
  legs_bound G H v l h =
      let q = H.linked.depth v l h in
      omega (arith, legs_back G H.linked q.1 h, q.2)

  pub g_bound : {s : State} → Good p s → Held p longest s → (v : ℕ) → v < p.size → seen_in s.mark v ≡ true → at s.g v ≤ p.size * longest
  g_bound G H v l h = le_trans (H.linked.bound v l h) (mul-le-mul_right longest (expansions_le F.ground G))

  pub tests_bound : {s : State} → Held p longest s → s.tests ≤ p.size * p.size
  tests_bound {s} H = omega (arith, H.counted, pairs_le p.size (touched p.near (done_in s.mark)))

  -- ---- a loop that runs the search

  pub going_start : {s : State} → Begins p s → Going p longest (turns (basic p) (suc p.size) s) s
  going_start {s} B = Loop.going_start s (good_start F B) (held_start B) B.expansions_none

  module _ {whole : Result State} {s : State} (W : Going p longest whole s) where
    pub going_nothing : choose p s ≡ nothing → whole ≡ record { found = false; state = s }
    going_nothing e = Loop.going_nothing F.ground W e

    pub going_arrived : choose p s ≡ arrived → whole ≡ record { found = true; state = s }
    going_arrived e = Loop.going_arrived F.ground W e

    pub going_room : (u : ℕ) → choose p s ≡ vertex u → s.expansions < p.size
    going_room u e = Loop.going_room F.ground W (basic_disciplined p) u e

    pub going_step : FairLegs p longest → (u : ℕ) → choose p s ≡ vertex u → Going p longest whole (expand p u s)
    going_step L u e = Loop.going_step F.ground W (basic_disciplined p) u e (held_kept L)
