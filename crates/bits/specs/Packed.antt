-- A packed board (document 02, item 7): one bit per cell, high bit first, each row filled up to a whole byte with zero bits.
use Rattle.std.specs.Prelude.{ℕ, zero, suc, ◌+◌, ◌*◌, ◌-◌, ◌/◌, ◌%◌, ◌^◌, Bool, ◌&&◌, cond, List, [], ◌∷◌, ◌++◌, leb, ltb, eqb, length, get_or}
use Rattle.laws.specs.Below.{some, how_many, first_where}

-- ---- a byte and its bits

-- the bit at a place of a byte, high bit first: place 0 is the high bit
unfoldable pub bit_at : (byte place : ℕ) → ℕ
bit_at byte place = byte / 2 ^ (7 - place) % 2

-- the number with these n binary digits, the first one highest
unfoldable pub joined : (n : ℕ) → (digit : ℕ → ℕ) → ℕ
joined zero digit = 0
joined (suc n) digit = joined n digit * 2 + digit n

-- ---- the row rule

-- the bytes of a row, filled up to a whole byte, and of a board
abbrev pub row_bytes : (width : ℕ) → ℕ
row_bytes width = (width + 7) / 8

abbrev pub packed_bytes : (width height : ℕ) → ℕ
packed_bytes width height = row_bytes width * height

-- the byte of cell (x, y), and its place in it
abbrev pub byte_of : (width x y : ℕ) → ℕ
byte_of width x y = y * row_bytes width + x / 8

abbrev pub place_of : (x : ℕ) → ℕ
place_of x = x % 8

-- the column and the row of the bit at a place of byte i; a column at or beyond the width is filling
abbrev pub column_at : (width i place : ℕ) → ℕ
column_at width i place = i % row_bytes width * 8 + place

abbrev pub row_at : (width i : ℕ) → ℕ
row_at width i = i / row_bytes width

-- ---- packed bytes as cells

-- n entries, each by its index
unfoldable pub entries : (n : ℕ) → (entry : ℕ → ℕ) → List ℕ
entries zero entry = []
entries (suc n) entry = entries n entry ++ (entry n ∷ [])

-- the bit of cell (x, y), and the cell with that index, row by row
unfoldable pub bit_of : List ℕ → (width x y : ℕ) → ℕ
bit_of packed width x y = bit_at (get_or packed (byte_of width x y) 0) (place_of x)

unfoldable pub cell_of : List ℕ → (width k : ℕ) → ℕ
cell_of packed width k = bit_of packed width (k % width) (k / width)

abbrev pub cells_of : List ℕ → (width height : ℕ) → List ℕ
cells_of packed width height = entries (width * height) (cell_of packed width)

-- how many cells are blocked
unfoldable pub blocked_in : List ℕ → (width height : ℕ) → ℕ
blocked_in packed width height = how_many (width * height) (λ (k : ℕ). eqb (cell_of packed width k) 1)

-- byte i has a filling bit set; the first byte that has, or the length
unfoldable pub has_filling : List ℕ → (width i : ℕ) → Bool
has_filling packed width i =
    some 8 (λ (place : ℕ). leb width (column_at width i place) && eqb (bit_at (get_or packed i 0) place) 1)

unfoldable pub first_filling : List ℕ → (width : ℕ) → ℕ
first_filling packed width = first_where (length packed) (has_filling packed width)

-- ---- cells as packed bytes

-- the bit for column x of row y: the cell's byte, or 0 in the filling
unfoldable pub bit_from : List ℕ → (width x y : ℕ) → ℕ
bit_from cells width x y = cond (ltb x width) (get_or cells (y * width + x) 0) 0

unfoldable pub byte_from : List ℕ → (width i : ℕ) → ℕ
byte_from cells width i = joined 8 (λ (place : ℕ). bit_from cells width (column_at width i place) (row_at width i))

abbrev pub packed_of : List ℕ → (width height : ℕ) → List ℕ
packed_of cells width height = entries (packed_bytes width height) (byte_from cells width)
