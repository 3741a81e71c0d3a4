-- What stops a leg first, counted from its first end.
use Rattle.std.specs.Prelude.{ℕ, zero, suc, ◌+◌, Bool, true, false, ◌&&◌, cond, eqb}
use Rattle.board.specs.Board.{Board, blocked}
use Rattle.legs.specs.declared.Stop.{Stop}
use Rattle.legs.specs.declared.Stop.TheVariants.{Clear, Cell, Edge, Vertex}
use Rattle.legs.specs.Pinched.{pinched}
use Rattle.legs.specs.Sight.{crossed, row_wall, column_wall, strictly_inside}
use Rattle.legs.specs.Leg.{far, vertex_at, cell_at}

abbrev pub is_clear : Stop → Bool
is_clear Clear = true
is_clear (Cell x y) = false
is_clear (Edge x₁ y₁ x₂ y₂) = false
is_clear (Vertex x y) = false

-- the first, or the second where the first is clear
abbrev pub or_else : Stop → Stop → Stop
or_else Clear t = t
or_else (Cell x y) t = Cell x y
or_else (Edge x₁ y₁ x₂ y₂) t = Edge x₁ y₁ x₂ y₂
or_else (Vertex x y) t = Vertex x y

-- the first that is not clear of f 0, f 1, .. below n
unfoldable pub first_of : ℕ → (ℕ → Stop) → Stop
first_of zero f = Clear
first_of (suc n) f = or_else (first_of n f) (f n)

-- ---- vertices

-- the vertex (x, y), where it lies strictly inside the leg and is pinched
unfoldable pub vertex_stop : Board → (ax ay bx by x y : ℕ) → Stop
vertex_stop b ax ay bx by x y = cond (strictly_inside ax ay bx by x y && pinched b x y) (Vertex x y) Clear

-- ---- a leg that is neither horizontal nor vertical: its columns, and in each the cells with their nearer corners

-- the cell (i, j), where the leg crosses it and it is blocked
unfoldable pub cell_stop : Board → (ax ay bx by i j : ℕ) → Stop
cell_stop b ax ay bx by i j = cond (crossed ax ay bx by i j && blocked b i j) (Cell i j) Clear

-- the first stop u columns and v rows from the first end: the vertex there, then the cell behind it
unfoldable pub place_stop : Board → (ax ay bx by u v : ℕ) → Stop
place_stop b ax ay bx by u v =
    or_else (vertex_stop b ax ay bx by (vertex_at ax bx u) (vertex_at ay by v))
    (cell_stop b ax ay bx by (cell_at ax bx u) (cell_at ay by v))

-- the first stop in the leg's column u
unfoldable pub column_stop : Board → (ax ay bx by u : ℕ) → Stop
column_stop b ax ay bx by u = first_of (far ay by) (λ (v : ℕ). place_stop b ax ay bx by u v)

-- the first stop of all its columns
unfoldable pub cells_stop : Board → (ax ay bx by : ℕ) → Stop
cells_stop b ax ay bx by = first_of (far ax bx) (λ (u : ℕ). column_stop b ax ay bx by u)

-- ---- a level leg lies on the row c and goes from column p to q, an upright one on the column c from row p to q

-- the unit edge at k has blocked cells on both sides
unfoldable pub walled : Board → (level : Bool) → (c k : ℕ) → Bool
walled b true c k = row_wall b k c
walled b false c k = column_wall b c k

-- the unit edge from p to q
unfoldable pub edge_from : (level : Bool) → (c p q : ℕ) → Stop
edge_from true c p q = Edge p c q c
edge_from false c p q = Edge c p c q

-- the unit edge u steps from the first end, where it has blocked cells on both sides
unfoldable pub edge_stop : Board → (level : Bool) → (c p q u : ℕ) → Stop
edge_stop b level c p q u =
    cond (walled b level c (cell_at p q u)) (edge_from level c (vertex_at p q u) (vertex_at p q (u + 1))) Clear

-- the vertex u steps from the first end, where it lies strictly inside and is pinched
unfoldable pub corner_stop : Board → (level : Bool) → (c p q u : ℕ) → Stop
corner_stop b true c p q u = vertex_stop b p c q c (vertex_at p q u) c
corner_stop b false c p q u = vertex_stop b c p c q c (vertex_at p q u)

-- the first stop u steps from the first end: the vertex there, then the edge behind it
unfoldable pub step_stop : Board → (level : Bool) → (c p q u : ℕ) → Stop
step_stop b level c p q u = or_else (corner_stop b level c p q u) (edge_stop b level c p q u)

-- the first stop of all its steps
unfoldable pub edges_stop : Board → (level : Bool) → (c p q : ℕ) → Stop
edges_stop b level c p q = first_of (far p q) (λ (u : ℕ). step_stop b level c p q u)

-- ---- any leg

-- what stops the leg first
unfoldable pub first_stop : Board → (ax ay bx by : ℕ) → Stop
first_stop b ax ay bx by =
    cond (eqb ay by) (edges_stop b true ay ax bx)
    (cond (eqb ax bx) (edges_stop b false ax ay by) (cells_stop b ax ay bx by))
