-- What the walk along a leg's edges hands to its caller. No public contract cites it, so nobody need believe this.
use Rattle.std.specs.Prelude.{ℕ, ◌+◌, ◌*◌, ◌≤◌, ◌<◌, ⊤, Bool, true, false}
use Rattle.board.specs.Board.{Board, blocked}
use Rattle.legs.specs.declared.Stop.{Stop}
use Rattle.legs.specs.declared.Stop.TheVariants.{Clear, Vertex}
use Rattle.legs.specs.Leg.{vertex_at}
use Rattle.legs.specs.Stops.{edge_from}
use Rattle.edges.specs.declared.Along.{Along}
use Rattle.edges.specs.declared.Along.TheVariants.{Nothing, Wall, Pinch}

-- the cell at k of a line of cells along a level leg, or along an upright one
unfoldable pub cell_on : Board → (level : Bool) → (line k : ℕ) → Bool
cell_on b true line k = blocked b k line
cell_on b false line k = blocked b line k

-- its index in the cells of a board of that width
unfoldable pub index_on : (level : Bool) → (width line k : ℕ) → ℕ
index_on true width line k = line * width + k
index_on false width line k = k * width + line

-- the vertex at k on the row c, or on the column c
unfoldable pub vertex_from : (level : Bool) → (c k : ℕ) → Stop
vertex_from true c k = Vertex k c
vertex_from false c k = Vertex c k

-- the steps to what is met do not go beyond a leg of n steps
abbrev pub Within : (n : ℕ) → Along → Type 0
Within n Nothing = ⊤
Within n (Wall steps) = steps < n
Within n (Pinch steps) = steps ≤ n

-- the stop that is met: none; the edge after so many steps; the vertex after so many
unfoldable pub stop_after : (level : Bool) → (c p q : ℕ) → Along → Stop
stop_after level c p q Nothing = Clear
stop_after level c p q (Wall steps) = edge_from level c (vertex_at p q steps) (vertex_at p q (steps + 1))
stop_after level c p q (Pinch steps) = vertex_from level c (vertex_at p q steps)
