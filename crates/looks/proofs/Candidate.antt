-- A vertex beside a taken one, and the parent that it is offered: each is on the board, and no number grows too large. Assumes nothing.
use mathlib.Core.Path.{◌≡◌, sym, ap, ◌∙◌}
use mathlib.Core.Logic.{◌≢◌}
use mathlib.Core.Bool.{Bool, true, ◌||◌, cond}
use mathlib.Core.List.{List}
use Prim.Native.Nat.{ℕ, ◌+◌, ◌*◌, ◌^◌, ◌≤◌, ◌<◌}
use native.Mathlib.Omega.{arith}
use lib.Dec.{eqb, ltb}
use lib.ListN.{set}
use Rattle.board.specs.Limits.{most_vertices}
use Rattle.reach.specs.Turns.{at}
use Rattle.theta.specs.Order.{less_or}
use Rattle.theta.specs.Search.{State}
use Rattle.theta.specs.Lent.{state}
use Rattle.theta.proofs.Rounds.{fell, ready_candidate}
use Rattle.problem.specs.Problem.{problem}
use Rattle.problem.specs.Sizes.{largest}
use Rattle.problem.proofs.Fair.{board_legs}
use Rattle.problem.proofs.Sizes.{vertices_most, largest_fits}
use Rattle.legs.specs.Inner.{EndsOn}
use Rattle.table.specs.Lengths.{Known}
use Rattle.offers.specs.declared.request.Request.{Request}
use Rattle.offers.specs.declared.Spot.{Spot}
use Rattle.offers.specs.Request.{board_of, asked, size_of}
use Rattle.offers.specs.Offers.{Taken, Beside, Offered, Judging, Settling}
use Rattle.offers.proofs.Places.{placed_below, taken_admitted, seen_admitted}

-- legs that are written as counted are those that the parent gives
pub settled_legs : (l : List ℕ) (v : ℕ) {l' : List ℕ} {n m : ℕ} → l' ≡ set l v n → n ≡ m → l' ≡ set l v m
settled_legs l v e f = e ∙ ap (λ (x : ℕ). set l v x) f

pub few : (q : Request) → size_of q ≤ most_vertices
few q = let b = q.guarded.board in vertices_most b.width b.height b.sound.narrow b.sound.low

module _ {q : Request} {u from w : Spot} {s : State} (T : Taken q u from s) (B : Beside (board_of q) u w) where
  pub on : w.number < size_of q
  on = placed_below B.placed

  -- what is looked at is not expanded, so that it is not the taken vertex
  pub judged : {ends : EndsOn (board_of q) q.sx q.sy q.gx q.gy} → at s.mark w.number ≢ 2
      → Judging (record { board = q.guarded.board; ax = q.sx; ay = q.sy; bx = q.gx; by = q.gy; ends = ends }) u w (at s.mark w.number)
  judged unexpanded = record {
    placed = T.placed;
    beside = B;
    apart = λ e. unexpanded (ap (λ (v : ℕ). at s.mark v) e ∙ T.ready.done);
    admitted = taken_admitted T;
    seen_admitted = λ h. seen_admitted T w.number on h;
  }

  -- the candidate parent: the definition's, a vertex, and one whose g and legs are bounded
  module _ {parent units : ℕ} (O : Offered (asked q) u.number from.number w.number parent units) where
    pub from_is : let o = at s.parent u.number in parent ≡ cond ((asked q).sees o w.number) o u.number
    from_is = rw T.parent_is O.parent_is

    pub from_on : (parent < size_of q) × (at s.g parent ≤ largest q.guarded.board.width q.guarded.board.height) × (at s.legs parent < size_of q)
    unfolding problem
    from_on = ready_candidate T.ready w.number parent from_is

    -- the candidate g
    pub own_small : at s.g parent + units < 2 ^ 63
    unfolding problem
    own_small =
        let b = q.guarded.board in
        omega (
          arith,
          from_on.1,
          O.units_are,
          (board_legs (board_of q) q.sx q.sy q.gx q.gy).at_most parent w.number from_on.0 on,
          largest_fits b.width b.height b.sound.narrow b.sound.low,
        )

    -- w may settle with it where it wins
    pub settling : {known : Known (q.guarded.board.width * q.guarded.board.width + q.guarded.board.height * q.guarded.board.height) q.table.now}
        → {count : ℕ} → (eqb (at s.mark w.number) 0
        || less_or (at s.g parent + units) (at s.g w.number) (ltb count (at s.legs w.number))) ≡ true
        → Settling (record { width = q.guarded.board.width; height = q.guarded.board.height; x = q.gx; y = q.gy; table = q.table; known = known }) w parent (at s.g parent + units) count (state s.g s.parent s.mark s.legs 0 0)
    unfolding problem
    settling {known} {count} wins =
        let b = q.guarded.board in
        record {
          sited = record {
            narrow = b.sound.narrow;
            low = b.sound.low;
            column = B.placed.on.x_on;
            row = B.placed.on.y_on;
            goal_x = q.goal.x_on;
            goal_y = q.goal.y_on;
          };
          lower = record {
            is = B.placed.numbered;
            small = own_small;
            less = λ o. fell (at s.mark w.number) (at s.g parent + units) count (at s.g w.number) (at s.legs w.number) wins o;
          };
          on_parent = from_on.0;
          room_p = T.ready.room_p;
        }
