-- The sight call's contract admits one result. Assumes nothing.
use mathlib.Core.Path.{◌≡◌, refl}
use mathlib.Core.Bool.{cond}
use Prim.Native.Nat.{ℕ}
use lib.Dec.{eqb}
use Rattle.std.specs.Prelude.{Result, Ok, Err}
use Rattle.laws.proofs.Determined.{undone}
use Rattle.board.specs.Board.{Board}
use Rattle.board.specs.Handed.{Handed}
use Rattle.board.specs.declared.Refusal.{Refusal}
use Rattle.board.specs.declared.Refusal.TheVariants.{Side, Count, Byte, First, Second}
use Rattle.board.proofs.Determined.{refusal_of}
use Rattle.legs.specs.declared.Stop.{Stop}
use Rattle.legs.specs.declared.Stop.TheVariants.{Clear, Cell, Edge, Vertex}
use Rattle.sight.specs.Answers.{Seen, handed_sight, sight_row}

-- the stop with these values
stopped : Seen → Stop
stopped v =
    cond (eqb v.kind 0) Clear
    (cond (eqb v.kind 1) (Cell v.x v.y) (cond (eqb v.kind 2) (Edge v.x v.y v.x2 v.y2) (Vertex v.x v.y)))

-- the answer that hands this back
from : Handed Seen → Result Stop Refusal
from h = cond (eqb h.number 0) (Ok (stopped h.values)) (Err (refusal_of h.number h.place))

back : (r : Result Stop Refusal) → from (handed_sight r) ≡ r
unfolding from stopped
back (Ok Clear) = refl
back (Ok (Cell x y)) = refl
back (Ok (Edge x y x2 y2)) = refl
back (Ok (Vertex x y)) = refl
back (Err Side) = refl
back (Err Count) = refl
back (Err (Byte at)) = refl
back (Err First) = refl
back (Err Second) = refl

-- any two answers that the contract admits for the same request are equal
pub sight_determined : (b : Board) (ax ay bx by : ℕ) (r s : Result Stop Refusal) → handed_sight r ≡ sight_row b ax ay bx by → handed_sight s ≡ sight_row b ax ay bx by → r ≡ s
sight_determined b ax ay bx by r s p q = undone handed_sight from back p q
