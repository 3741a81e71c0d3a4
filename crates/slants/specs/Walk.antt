-- What the walk over a leg's cells hands to its caller, and its steps. No public contract cites it, so nobody need believe this.
use Rattle.std.specs.Prelude.{ℕ, ◌+◌, ◌/◌, ◌%◌, ◌<◌, ◌≡◌, ⊤, Bool, not, ◌&&◌, List, eqb, get_or}
use Rattle.legs.specs.declared.Stop.{Stop}
use Rattle.legs.specs.declared.Stop.TheVariants.{Clear, Cell, Vertex}
use Rattle.walls.specs.Leg.{forward}
use Rattle.slants.specs.declared.Across.{Across}
use Rattle.slants.specs.declared.Across.TheVariants.{Nothing, Blocked, Pinch}
use Rattle.slants.specs.declared.inner.Steps.{Steps}

-- the corner of the cell with this index that lies nearer to the first end of the leg from (ax, ay) to (bx, by)
unfoldable pub corner_of : (width ax ay bx by index : ℕ) → Stop
corner_of width ax ay bx by index = Vertex (index % width + forward bx ax 1) (index / width + forward by ay 1)

-- an index that is met is below n
abbrev pub Below : (n : ℕ) → Across → Type 0
Below n Nothing = ⊤
Below n (Blocked index) = index < n
Below n (Pinch index) = index < n

-- the stop that is met: none; the cell with that index; the nearer corner of the cell with that index
unfoldable pub stop_at : (width ax ay bx by : ℕ) → Across → Stop
stop_at width ax ay bx by Nothing = Clear
stop_at width ax ay bx by (Blocked index) = Cell (index % width) (index / width)
stop_at width ax ay bx by (Pinch index) = corner_of width ax ay bx by index

-- the cells with these indices are blocked, blocked and free
unfoldable pub pinch : List ℕ → (beside below next : ℕ) → Bool
pinch cells beside below next =
    (eqb (get_or cells beside 0) 1 && eqb (get_or cells below 0) 1) && not (eqb (get_or cells next 0) 1)

-- these are the steps along the leg from (ax, ay) to (bx, by) in the cells of a board of that width
pub record StepsOf (width ax ay bx by : ℕ) (step : Steps) : Type 0 where
  pub right_is : step.right ≡ forward ax bx 1
  pub left_is : step.left ≡ forward bx ax 1
  pub down_is : step.down ≡ forward ay by width
  pub up_is : step.up ≡ forward by ay width
