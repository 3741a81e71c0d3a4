-- Where a cell's byte lies, and what vertex numbers are. Assumes nothing.
use mathlib.Core.Path.{◌≡◌, ◌∙◌}
use Prim.Native.Nat.{ℕ, ◌+◌, ◌*◌, ◌^◌, ◌≤◌, ◌<◌}
use native.Mathlib.Nat.{mul-le-mul, mul-le-mul_right, le_trans, lt_of_le_of_lt, div-add-mod', mod-lt, mul-add-mod_self_right, mod-eq_of_lt, div-eq_of_lt-le, div-lt_iff_lt-mul}
use native.Mathlib.Omega.{arith}
use Rattle.board.specs.Limits.{largest_side, vertex_bits, most_vertices, vertices_fit}
use Rattle.board.specs.Board.{number_of, column_of, row_of}

pub cell_index : (w h x y : ℕ) → x < w → y < h → y * w + x < w * h
cell_index w h x y hx hy = omega (arith, mul-le-mul_right w hy)

-- a vertex's number is below the number of vertices
pub number_below : (w h x y : ℕ) → x ≤ w → y ≤ h → number_of w x y < (w + 1) * (h + 1)
number_below w h x y hx hy = let l : y + 1 ≤ h + 1 = omega arith in omega (arith, mul-le-mul_right (w + 1) l)

-- on the largest board too, so that it fits
pub number_fits : (w x y : ℕ) → w ≤ largest_side → x ≤ w → y ≤ largest_side → number_of w x y < 2 ^ vertex_bits
number_fits w x y hw hx hy = lt_of_le_of_lt (le_trans below wide) vertices_fit
  where
    below : number_of w x y ≤ (w + 1) * (largest_side + 1)
    below = omega (arith, number_below w largest_side x y hx hy)

    wide : (w + 1) * (largest_side + 1) ≤ most_vertices
    wide = let l : w + 1 ≤ largest_side + 1 = omega arith in mul-le-mul_right (largest_side + 1) l

-- no board has more vertices than the largest
pub vertices_few : (w h : ℕ) → w ≤ largest_side → h ≤ largest_side → (w + 1) * (h + 1) ≤ most_vertices
vertices_few w h p q = let l : w + 1 ≤ largest_side + 1 = omega arith in let m : h + 1 ≤ largest_side + 1 = omega arith in mul-le-mul l m

-- ---- number, column and row undo each other

positive : (w : ℕ) → 0 < w + 1
positive w = omega arith

pub column_number : (w x y : ℕ) → x ≤ w → column_of w (number_of w x y) ≡ x
column_number w x y h = mul-add-mod_self_right y (w + 1) x ∙ mod-eq_of_lt (below w x h)
  where
    below : (w x : ℕ) → x ≤ w → x < w + 1
    below w x h = omega arith

pub row_number : (w x y : ℕ) → x ≤ w → row_of w (number_of w x y) ≡ y
row_number w x y h = div-eq_of_lt-le (w + 1) (omega arith) (omega arith)

pub number_back : (w v : ℕ) → number_of w (column_of w v) (row_of w v) ≡ v
number_back w v = div-add-mod' v (w + 1)

pub column_on : (w v : ℕ) → column_of w v ≤ w
column_on w v = omega (arith, mod-lt v (positive w))

pub row_on : (w h v : ℕ) → v < (w + 1) * (h + 1) → row_of w v ≤ h
row_on w h v l = below ((div-lt_iff_lt-mul (positive w)).1 (omega arith))
  where
    below : row_of w v < h + 1 → row_of w v ≤ h
    below k = omega arith
