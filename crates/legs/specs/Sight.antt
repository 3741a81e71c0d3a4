-- Sight, as document 01 has it, amended by document 02, item 6: over all cells, all unit edges and all vertices of the board.
use Rattle.std.specs.Prelude.{ℕ, zero, suc, ◌+◌, ◌-◌, min, max, Bool, true, false, not, ◌&&◌, ◌||◌, leb, ltb, eqb, ℤ, pos, negsuc, ◌-ℤ◌, ◌*ℤ◌}
use Rattle.laws.specs.Below.{every}
use Rattle.board.specs.Board.{Board, blocked}
use Rattle.legs.specs.Pinched.{pinched}

-- ---- cells

-- the side of the point p for the leg a to b
unfoldable pub side : (ax ay bx by px py : ℕ) → ℤ
side ax ay bx by px py =
    (pos bx -ℤ pos ax) *ℤ (pos py -ℤ pos ay) -ℤ (pos by -ℤ pos ay) *ℤ (pos px -ℤ pos ax)

abbrev pub is_positive : ℤ → Bool
is_positive (pos zero) = false
is_positive (pos (suc n)) = true
is_positive (negsuc n) = false

abbrev pub is_negative : ℤ → Bool
is_negative (pos n) = false
is_negative (negsuc n) = true

unfoldable pub positive : (ax ay bx by px py : ℕ) → Bool
positive ax ay bx by px py = is_positive (side ax ay bx by px py)

unfoldable pub negative : (ax ay bx by px py : ℕ) → Bool
negative ax ay bx by px py = is_negative (side ax ay bx by px py)

-- some of the four corners of the cell (i, j) passes the test
unfoldable pub some_corner : (ℕ → ℕ → Bool) → (i j : ℕ) → Bool
some_corner test i j = test i j || (test (i + 1) j || (test i (j + 1) || test (i + 1) (j + 1)))

-- the four span tests
unfoldable pub spans : (ax ay bx by i j : ℕ) → Bool
spans ax ay bx by i j =
    (ltb (min ax bx) (i + 1) && ltb i (max ax bx)) && (ltb (min ay by) (j + 1) && ltb j (max ay by))

-- the leg crosses the interior of the cell (i, j)
unfoldable pub crossed : (ax ay bx by i j : ℕ) → Bool
crossed ax ay bx by i j =
    (some_corner (positive ax ay bx by) i j && some_corner (negative ax ay bx by) i j) && spans ax ay bx by i j

-- the leg crosses no blocked cell
unfoldable pub cells_free : Board → (ax ay bx by : ℕ) → Bool
cells_free b ax ay bx by =
    every b.height (λ (j : ℕ). every b.width (λ (i : ℕ). not (crossed ax ay bx by i j && blocked b i j)))

-- ---- unit edges

-- the edge from (x, y) to (x + 1, y) has blocked cells above and below; row 0 has the outside above it
unfoldable pub row_wall : Board → (x y : ℕ) → Bool
row_wall b x y = (eqb y 0 || blocked b x (y - 1)) && blocked b x y

-- the edge from (x, y) to (x, y + 1) has blocked cells left and right; column 0 has the outside left of it
unfoldable pub column_wall : Board → (x y : ℕ) → Bool
column_wall b x y = (eqb x 0 || blocked b (x - 1) y) && blocked b x y

-- the unit edge from k to k + 1 lies between a and b
unfoldable pub between : (a b k : ℕ) → Bool
between a b k = leb (min a b) k && ltb k (max a b)

-- no unit edge on a horizontal or vertical leg has blocked cells on both sides
unfoldable pub edges_open : Board → (ax ay bx by : ℕ) → Bool
edges_open b ax ay bx by =
    (not (eqb ay by) || every b.width (λ (x : ℕ). not (between ax bx x && row_wall b x ay)))
    && (not (eqb ax bx) || every b.height (λ (y : ℕ). not (between ay by y && column_wall b ax y)))

-- ---- vertices

-- the coordinate p lies between a and b, or is one of them
abbrev pub spanned : (a b p : ℕ) → Bool
spanned a b p = leb (min a b) p && leb p (max a b)

-- the point (x, y) lies strictly inside the leg: on no side of it, within both spans, and at neither end
unfoldable pub strictly_inside : (ax ay bx by x y : ℕ) → Bool
strictly_inside ax ay bx by x y =
    ((not (positive ax ay bx by x y) && not (negative ax ay bx by x y)) && (spanned ax bx x && spanned ay by y))
    && (not (eqb x ax && eqb y ay) && not (eqb x bx && eqb y by))

-- no pinched vertex lies strictly inside the leg
unfoldable pub vertices_open : Board → (ax ay bx by : ℕ) → Bool
vertices_open b ax ay bx by =
    every (b.height + 1) (λ (y : ℕ). every (b.width + 1) (λ (x : ℕ). not (strictly_inside ax ay bx by x y && pinched b x y)))

-- ---- the leg

-- the leg from (ax, ay) to (bx, by) has sight
unfoldable pub sees : Board → (ax ay bx by : ℕ) → Bool
sees b ax ay bx by = (cells_free b ax ay bx by && edges_open b ax ay bx by) && vertices_open b ax ay bx by
