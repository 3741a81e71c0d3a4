-- What a search that found a path has left in lent slices: the parents that lead back, the path that they give, and its units.
-- Assumes nothing.
use mathlib.Core.Path.{◌≡◌, refl, sym, ap, ◌∙◌}
use mathlib.Core.Bool.{true}
use mathlib.Core.List.{List, ◌++◌}
use Prim.Native.Nat.{ℕ, ◌*◌, ◌≤◌, ◌<◌}
use native.Mathlib.Omega.{arith}
use lib.ListN.{length, drop, length-append, get_or-append}
use Rattle.reach.specs.Turns.{at}
use Rattle.theta.specs.Search.{Problem, State, search, trail, path}
use Rattle.theta.specs.Demands.{Work}
use Rattle.theta.specs.Fair.{Fair, FairLegs}
use Rattle.theta.specs.Back.{Traced}
use Rattle.theta.specs.Lent.{Searched}
use Rattle.theta.proofs.Completeness.{search_stopped}
use Rattle.theta.proofs.Tidy.{search_work}
use Rattle.theta.proofs.Held.{search_held, g_bound}
use Rattle.theta.proofs.Trails.{trail_fuel, back_longer, traced_longer}
use Rattle.theta.proofs.Routes.{goal_open, search_traced}
use Rattle.theta.proofs.Beyond.{path_beyond}

module _ {p : Problem} (F : Fair p) {longest : ℕ} (W : FairLegs p longest) {before after : State}
    (S : Searched p before after true) where
  goal_now : (p.goal < p.size) × (at (search p).state.mark p.goal ≡ 1)
  goal_now = goal_open F (sym S.found_is)

  sizes : Work p (search p).state
  sizes = search_work F

  short : Traced p.size p.start (search p).state.parent p.goal
  short = search_traced F W (sym S.found_is)

  -- the parents lead from the goal back to the start
  pub lent_traced : Traced (length after.parent) p.start after.parent p.goal
  lent_traced = traced_longer (drop p.size before.parent) after.parent S.parent_is (omega (arith, sizes.parent_size)) short

  -- and what is read from them is the search's path
  pub lent_path : trail p.start after.parent (length after.parent) p.goal ≡ path p (search p).state
  lent_path =
      let own = (search p).state.parent in
      let rest = drop p.size before.parent in
      let h : p.size ≤ length own = omega (arith, sizes.parent_size) in
      let l : p.size ≤ length (own ++ rest) = rw length-append (omega arith) in
      ap (λ (x : List ℕ). trail p.start x (length x) p.goal) S.parent_is
      ∙ trail_fuel (back_longer (length (own ++ rest)) rest l h short.back) (length (own ++ rest)) p.size (omega (arith, short.few))
      (omega (arith, short.few))
      ∙ path_beyond F goal_now.0 rest

  -- its units stand at the goal's place
  pub lent_units : at after.g p.goal ≡ at (search p).state.g p.goal
  lent_units =
      ap (λ (x : List ℕ). at x p.goal) S.g_is
      ∙ get_or-append (search p).state.g (drop p.size before.g) 0 p.goal (omega (arith, sizes.g_size, goal_now.0))

  -- and are no more than a longest leg for each vertex
  pub lent_bound : at after.g p.goal ≤ p.size * longest
  lent_bound = rw lent_units (g_bound F (search_stopped F).sane (search_held F W) p.goal goal_now.0 (rw goal_now.1 refl))

  -- its legs stand at the goal's place too
  pub lent_legs : at after.legs p.goal ≡ at (search p).state.legs p.goal
  lent_legs =
      ap (λ (x : List ℕ). at x p.goal) S.legs_is
      ∙ get_or-append (search p).state.legs (drop p.size before.legs) 0 p.goal (omega (arith, sizes.legs_size, goal_now.0))
