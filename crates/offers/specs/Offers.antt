-- The round of a taken vertex's neighbours, on a board: what the contracts of the code say.
use Rattle.std.specs.Prelude.{◌≡◌, ◌≢◌, true, cond, List, ℕ, ◌+◌, ◌*◌, ◌≤◌, ◌<◌, length, set}
use Rattle.board.specs.Board.{Board}
use Rattle.board.specs.Checked as checked
use Rattle.legs.specs.declared.leg.Leg.{Leg}
use Rattle.legs.specs.Sight.{sees}
use Rattle.open.specs.Marked.{Sited, Lower, Listed}
use Rattle.reach.specs.Turns.{at}
use Rattle.offers.specs.declared.goal.Goal.{Goal}
use Rattle.offers.specs.declared.request.Request.{Request}
use Rattle.offers.specs.declared.Spot.{Spot}
use Rattle.theta.specs.Search.{Problem, State}
use Rattle.theta.specs.Lent.{Ready}
use Rattle.problem.specs.Sizes.{largest}
use Rattle.offers.specs.Asked.{admitted_to}
use Rattle.offers.specs.Request.{board_of, asked, Placed}

-- the taken vertex u and its parent
pub record Taken (q : Request) (u from : Spot) (s : State) : Type 0 where
  pub placed : Placed (board_of q) u
  pub placed_parent : Placed (board_of q) from
  pub parent_is : at s.parent u.number ≡ from.number
  pub ready : Ready (asked q) (largest q.guarded.board.width q.guarded.board.height) u.number s

-- w is a vertex of the board that u sees, and neither coordinate differs by more than 1 from u's
pub record Beside (b : Board) (u w : Spot) : Type 0 where
  pub placed : Placed b w
  pub left : u.x ≤ w.x + 1
  pub right : w.x ≤ u.x + 1
  pub above : u.y ≤ w.y + 1
  pub below : w.y ≤ u.y + 1
  pub seen : sees b u.x u.y w.x w.y ≡ true

-- w, a neighbour of u, is offered the leg from a parent: from u's own if that sees w, else from u
pub record Offered (p : Problem) (u from w parent units : ℕ) : Type 0 where
  pub parent_is : parent ≡ cond (p.sees from w) from u
  pub units_are : units ≡ p.len parent w

-- it is not u, which is admitted; and so is w, if its mark says that it has been seen
pub record Judging (a : Leg) (u w : Spot) (mark : ℕ) : Type 0 where
  pub placed : Placed (checked.board_of a.board) u
  pub beside : Beside (checked.board_of a.board) u w
  pub apart : w.number ≢ u.number
  pub admitted : admitted_to a u.number ≡ true
  pub seen_admitted : mark ≢ 0 → admitted_to a w.number ≡ true

-- the open list of the board is right
abbrev pub ListedFor : Request → (g mark legs leads keys : List ℕ) → Type 0
ListedFor q g mark legs leads keys = Listed q.guarded.board.width q.guarded.board.height q.gx q.gy g mark legs leads keys

-- w can get the g `own`, the parent c and so many legs
pub record Settling (goal : Goal) (w : Spot) (c own count : ℕ) (s : State) : Type 0 where
  pub sited : Sited goal.width goal.height w.x w.y goal.x goal.y
  pub lower : Lower goal.width w.x w.y w.number own count s.g s.mark s.legs
  pub on_parent : c < (goal.width + 1) * (goal.height + 1)
  pub room_p : (goal.width + 1) * (goal.height + 1) ≤ length s.parent

-- w has the g `own`, the parent c and so many legs, and is open
pub record Settled (goal : Goal) (w : Spot) (c own count : ℕ) (before after : State) (leads keys : List ℕ) : Type 0 where
  pub g_is : after.g ≡ set before.g w.number own
  pub parent_is : after.parent ≡ set before.parent w.number c
  pub mark_is : after.mark ≡ set before.mark w.number 1
  pub legs_is : after.legs ≡ set before.legs w.number count
  pub listed : Listed goal.width goal.height goal.x goal.y after.g after.mark after.legs leads keys
