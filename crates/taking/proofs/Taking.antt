-- A vertex is taken: where it is, and what its round relies on. Assumes nothing.
use mathlib.Core.Path.{◌≡◌, sym, ◌∙◌}
use mathlib.Core.List.{List}
use Prim.Native.Nat.{ℕ, ◌≤◌, ◌<◌}
use native.Mathlib.Omega.{arith}
use lib.ListN.{length, set, length-set}
use Rattle.board.specs.Board.{number_of, column_of, row_of}
use Rattle.board.specs.Inner.{OnBoard}
use Rattle.board.proofs.Numbers.{number_back, column_on, row_on}
use Rattle.open.specs.Marked.{Sited}
use Rattle.reach.specs.Turns.{at}
use Rattle.offers.specs.declared.request.Request.{Request}
use Rattle.offers.specs.declared.Spot.{Spot}
use Rattle.offers.specs.Request.{board_of, size_of, Placed}
use Rattle.offers.specs.Offers.{Taken}
use Rattle.theta.specs.Search.{Problem, State}
use Rattle.theta.specs.Lent.{state, marked, Rounded}
use Rattle.problem.specs.Problem.{problem}
use Rattle.taking.specs.Taking.{Taking}

-- a vertex and the goal
pub sited : (q : Request) {x y : ℕ} → OnBoard (board_of q) x y → Sited q.guarded.board.width q.guarded.board.height x y q.gx q.gy
sited q P = record {
  narrow = q.guarded.board.sound.narrow;
  low = q.guarded.board.sound.low;
  column = P.x_on;
  row = P.y_on;
  goal_x = q.goal.x_on;
  goal_y = q.goal.y_on;
}

-- a vertex number's place
placed_number : (q : Request) (s : Spot) (v : ℕ) → v < size_of q
    → (s.x ≡ column_of q.guarded.board.width v) × (s.y ≡ row_of q.guarded.board.width v) × (s.number ≡ v) → Placed (board_of q) s
placed_number q s v l e = record {
  on = record { x_on = omega (arith, e.0, column_on q.guarded.board.width v); y_on = omega (arith, e.1, row_on q.guarded.board.width q.guarded.board.height v l) };
  numbered = e.2 ∙ sym (rw (e.0, e.1) (number_back q.guarded.board.width v));
}

pub taking_on : {q : Request} {v : ℕ} {s : State} → Taking q v s
    → (v < size_of q) × (at s.parent v < size_of q) × (size_of q ≤ length s.parent) × (v < length s.mark)
unfolding problem
taking_on T = (T.ready.on, T.ready.on_parent, T.ready.room_p, omega (arith, T.ready.on, rw length-set at T.ready.room_m))

module _ {q : Request} {v : ℕ} {s : State} (T : Taking q v s) {u : Spot}
    (U : (u.x ≡ column_of q.guarded.board.width v) × (u.y ≡ row_of q.guarded.board.width v) × (u.number ≡ v)) where
  placed : Placed (board_of q) u
  placed = placed_number q u v (taking_on T).0 U

  pub taking_sited : Sited q.guarded.board.width q.guarded.board.height u.x u.y q.gx q.gy
  taking_sited = sited q placed.on

  pub taking_number : v ≡ number_of q.guarded.board.width u.x u.y
  taking_number = sym U.2 ∙ placed.numbered

  pub taking_taken : {from : Spot}
      → (from.x ≡ column_of q.guarded.board.width (at s.parent v)) × (from.y ≡ row_of q.guarded.board.width (at s.parent v)) × (from.number ≡ at s.parent v)
      → Taken q u from (marked v s)
  taking_taken {from} E = record {
    placed = placed;
    placed_parent = placed_number q from (at s.parent v) (taking_on T).1 E;
    parent_is = rw U.2 (sym E.2);
    ready = rw U.2 T.ready;
  }

-- the round of a spot with the number v, from slices whose marks are said, is the round of v
pub taking_rounded : (p : Problem) (n : ℕ) (before after : State) {u v : ℕ} {mark : List ℕ} → mark ≡ set before.mark v 2 → u ≡ v
    → Rounded p u n (state before.g before.parent mark before.legs before.expansions before.tests) after → Rounded p v n (marked v before) after
taking_rounded p n before after e f R = rw (← e, ← f) R
