-- A board of square cells, its vertices and their numbers, as document 01 has them.
use Rattle.std.specs.Prelude.{ℕ, ◌+◌, ◌*◌, ◌/◌, ◌%◌, Bool, not, ◌&&◌, ◌||◌, List, leb, ltb, eqb, get_or}

-- the cells row by row, a number each: 0 free, 1 blocked
pub record Board : Type 0 where
  pub cells : List ℕ
  pub width : ℕ
  pub height : ℕ

abbrev pub board : List ℕ → ℕ → ℕ → Board
board cells width height = record { cells = cells; width = width; height = height }

-- cell (x, y) is on the board
abbrev pub is_cell : Board → ℕ → ℕ → Bool
is_cell b x y = ltb x b.width && ltb y b.height

-- cell (x, y) is blocked; everything outside the board counts as blocked
unfoldable pub blocked : Board → ℕ → ℕ → Bool
blocked b x y = not (is_cell b x y) || eqb (get_or b.cells (y * b.width + x) 0) 1

-- vertices are the cells' corners, (0, 0) to (width, height)
abbrev pub is_vertex : Board → ℕ → ℕ → Bool
is_vertex b x y = leb x b.width && leb y b.height

abbrev pub vertices : Board → ℕ
vertices b = (b.width + 1) * (b.height + 1)

-- a vertex's number on a board of that width, and a number's column and row
abbrev pub number_of : (width x y : ℕ) → ℕ
number_of width x y = y * (width + 1) + x

abbrev pub column_of : (width v : ℕ) → ℕ
column_of width v = v % (width + 1)

abbrev pub row_of : (width v : ℕ) → ℕ
row_of width v = v / (width + 1)

abbrev pub number : Board → ℕ → ℕ → ℕ
number b = number_of b.width

abbrev pub column : Board → ℕ → ℕ
column b = column_of b.width

abbrev pub row : Board → ℕ → ℕ
row b = row_of b.width
