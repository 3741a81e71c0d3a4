-- A path's vertex numbers as points, and what the call for it hands back.
use Rattle.std.specs.Prelude.{ℕ, ◌≡◌, Bool, not, ◌||◌, List, ltb, length, get_or, Result}
use Rattle.laws.specs.Below.{some}
use Rattle.board.specs.Limits.{largest_side}
use Rattle.board.specs.Board.{column_of, row_of}
use Rattle.board.specs.Handed.{Verdict, refused, row, and_then, side_fits, verdict}
use Rattle.bits.specs.Packed.{entries}
use Rattle.packed.specs.Answers.{slice_after}
use Rattle.corners.specs.declared.PointsRefusal.{PointsRefusal}
use Rattle.corners.specs.declared.PointsRefusal.TheVariants.{Side, Off, Short}

-- the x and the y of each vertex
abbrev pub columns : (path : List ℕ) → (width : ℕ) → List ℕ
columns path width = entries (length path) (λ (k : ℕ). column_of width (get_or path k 0))

abbrev pub rows : (path : List ℕ) → (width : ℕ) → List ℕ
rows path width = entries (length path) (λ (k : ℕ). row_of width (get_or path k 0))

-- a vertex is off every board of this width: its y is above 63
unfoldable pub has_off : (path : List ℕ) → (width : ℕ) → Bool
has_off path width = some (length path) (λ (k : ℕ). ltb largest_side (row_of width (get_or path k 0)))

-- 1: the width; 4: a vertex off the board; 21: a slice is shorter than the path
unfoldable pub point_rows : (path : List ℕ) → (width lent_x lent_y : ℕ) → Verdict
point_rows path width lent_x lent_y =
    and_then (row (not (side_fits width)) 1 0)
    (and_then (row (has_off path width) 4 0)
    (row (ltb lent_x (length path) || ltb lent_y (length path)) 21 0))

-- the row of each refusal of the code, and what its answer says
abbrev pub points_refusal_row : PointsRefusal → Verdict
points_refusal_row Side = refused 1 0 0
points_refusal_row Off = refused 4 0 0
points_refusal_row Short = refused 21 0 0

abbrev pub said_points : Result (Unit {0}) PointsRefusal → Verdict
said_points = verdict points_refusal_row

-- what the call says, and what the two slices hold before and after it
pub record PointsTold (path : List ℕ) (width : ℕ) (xs ys : List ℕ) (said : Verdict) (xs' ys' : List ℕ) : Type 0 where
  pub row_is : said ≡ point_rows path width (length xs) (length ys)
  pub xs_are : xs' ≡ slice_after (point_rows path width (length xs) (length ys)) (columns path width) xs
  pub ys_are : ys' ≡ slice_after (point_rows path width (length xs) (length ys)) (rows path width) ys
