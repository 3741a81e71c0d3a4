-- What the search promises on document 01's board, and what the crate above may rely on. Assumes nothing.
use mathlib.Core.Path.{◌≡◌}
use mathlib.Core.Bool.{true}
use Prim.Native.Nat.{ℕ, ◌+◌, ◌^◌, ◌<◌}
use native.Mathlib.Omega.{arith}
use lib.ListN.{length}
use Rattle.laws.proofs.Tests.{false_of}
use Rattle.board.specs.Board.{Board, vertices, number, column, row}
use Rattle.board.specs.Inner.{Sound, OnBoard}
use Rattle.reach.specs.Complete.{Complete, PairsTested}
use Rattle.reach.specs.Turns.{at}
use Rattle.legs.specs.Pinched.{pinched}
use Rattle.legs.specs.Neighbours.{visible}
use Rattle.legs.proofs.Seen.{inside_unpinched}
use Rattle.theta.specs.Search.{State, search, trail, path}
use Rattle.theta.specs.Demands.{IsRoute, Work, LegsCounted}
use Rattle.theta.specs.Lent.{Searched}
use Rattle.theta.specs.Back.{Traced}
use Rattle.theta.proofs.Completeness.{search_complete, search_tested}
use Rattle.theta.proofs.Tidy.{search_work}
use Rattle.theta.proofs.Held.{search_legs, search_parents}
use Rattle.theta.proofs.Routes.{search_route, search_vertices, search_between}
use Rattle.theta.proofs.Found.{lent_traced, lent_path, lent_units, lent_bound, lent_legs}
use Rattle.problem.specs.Problem.{problem, Unpinched, RoundedDown}
use Rattle.problem.proofs.Sizes.{largest_exact}
use Rattle.problem.proofs.Fair.{board_fair, board_legs}
use Rattle.problem.proofs.Admitted.{reached_unpinched}
use Rattle.problem.proofs.Rounding.{path_rounded}

-- ---- the demands

module _ (b : Board) (sx sy gx gy : ℕ) (S : OnBoard b sx sy) where
  -- demand 3: what is found
  pub board_complete : Complete (vertices b) (visible b (number b sx sy) (number b gx gy)) (number b sx sy) (number b gx gy)
      (search (problem b sx sy gx gy)).found (search (problem b sx sy gx gy)).state.expansions
  unfolding problem
  board_complete = search_complete (board_fair b sx sy gx gy S)

  -- and what is tested
  pub board_tested : PairsTested (vertices b) (visible b (number b sx sy) (number b gx gy)) (number b sx sy)
      (search (problem b sx sy gx gy)).found (search (problem b sx sy gx gy)).state.tests
  unfolding problem
  board_tested = search_tested (board_fair b sx sy gx gy S)

  -- the work slices
  pub board_work : Work (problem b sx sy gx gy) (search (problem b sx sy gx gy)).state
  board_work = search_work (board_fair b sx sy gx gy S)

  -- the legs are counted from the start
  pub board_counted : LegsCounted (problem b sx sy gx gy) (search (problem b sx sy gx gy)).state
  board_counted = search_legs (board_fair b sx sy gx gy S) (board_legs b sx sy gx gy)

  -- every parent is a vertex
  pub board_parents : (v : ℕ) → v < vertices b → at (search (problem b sx sy gx gy)).state.parent v < vertices b
  unfolding problem
  board_parents = search_parents (board_fair b sx sy gx gy S) (board_legs b sx sy gx gy)

  module _ (f : (search (problem b sx sy gx gy)).found ≡ true) where
    -- a path that is found is a route, as long as the goal's g
    pub board_route : IsRoute (problem b sx sy gx gy) (path (problem b sx sy gx gy) (search (problem b sx sy gx gy)).state)
        (at (search (problem b sx sy gx gy)).state.g (number b gx gy))
    unfolding problem
    board_route = search_route (board_fair b sx sy gx gy S) (board_legs b sx sy gx gy) f

    -- and that is its length, each leg rounded down
    pub board_measured : RoundedDown b (path (problem b sx sy gx gy) (search (problem b sx sy gx gy)).state)
        (at (search (problem b sx sy gx gy)).state.g (number b gx gy))
    unfolding problem
    board_measured =
        rw board_route.total (path_rounded b sx sy gx gy (path (problem b sx sy gx gy) (search (problem b sx sy gx gy)).state))

    -- it has one vertex more than the goal has legs
    pub board_vertices : length (path (problem b sx sy gx gy) (search (problem b sx sy gx gy)).state)
        ≡ at (search (problem b sx sy gx gy)).state.legs (number b gx gy) + 1
    unfolding problem
    board_vertices = search_vertices (board_fair b sx sy gx gy S) (board_legs b sx sy gx gy) f

    -- and it squeezes through no pinched vertex
    pub board_unpinched : Unpinched b (path (problem b sx sy gx gy) (search (problem b sx sy gx gy)).state)
    unfolding problem
    board_unpinched =
        let p = problem b sx sy gx gy in
        let l = path p (search p).state in
        record {
          between = λ i h j.
              -- the vertex is neither the first nor the last
              let inner : (0 < i) × (i + 1 < length l) = (h, j) in
              let B = search_between (board_fair b sx sy gx gy S) (board_legs b sx sy gx gy) f i inner.0 inner.1 in
              reached_unpinched b (number b sx sy) (number b gx gy) (at l i) B.reached B.not_start B.not_goal;
          legs = λ i j x y w. false_of (pinched b x y) (inside_unpinched b (column b (at l i)) (row b (at l i)) (column b (at l (i + 1)))
              (row b (at l (i + 1))) (board_route.sight i j) x y w);
        }

-- ---- after a call of `find` that found a path

module _ {b : Board} {sx sy : ℕ} (S : OnBoard b sx sy) (gx gy : ℕ) {before after : State}
    (F : Searched (problem b sx sy gx gy) before after true) where
  -- `count_path` and `write_path` may be called
  pub found_traced : Traced (length after.parent) (number b sx sy) after.parent (number b gx gy)
  unfolding problem
  found_traced = lent_traced (board_fair b sx sy gx gy S) (board_legs b sx sy gx gy) F

  -- and what they read is the search's path
  pub found_path : trail (number b sx sy) after.parent (length after.parent) (number b gx gy)
      ≡ path (problem b sx sy gx gy) (search (problem b sx sy gx gy)).state
  unfolding problem
  found_path = lent_path (board_fair b sx sy gx gy S) (board_legs b sx sy gx gy) F

  -- its units stand at the goal's place
  pub found_units : at after.g (number b gx gy) ≡ at (search (problem b sx sy gx gy)).state.g (number b gx gy)
  unfolding problem
  found_units = lent_units (board_fair b sx sy gx gy S) (board_legs b sx sy gx gy) F

  -- and so do its legs
  pub found_legs : at after.legs (number b gx gy) ≡ at (search (problem b sx sy gx gy)).state.legs (number b gx gy)
  unfolding problem
  found_legs = lent_legs (board_fair b sx sy gx gy S) (board_legs b sx sy gx gy) F

  -- an f64 holds the units
  pub found_exact : Sound b → at after.g (number b gx gy) < 2 ^ 53
  unfolding problem
  found_exact B = omega (
    arith,
    lent_bound (board_fair b sx sy gx gy S) (board_legs b sx sy gx gy) F,
    largest_exact b.width b.height B.narrow B.low,
  )
