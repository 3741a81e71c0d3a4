-- Pinched vertices (document 02, item 6).
use Rattle.std.specs.Prelude.{ℕ, ◌-◌, Bool, not, ◌&&◌, ◌||◌, ltb, eqb}
use Rattle.board.specs.Board.{Board, blocked, column, row}

-- the vertex (x, y) is on the inside of the board
abbrev pub on_inside : Board → (x y : ℕ) → Bool
on_inside b x y = (ltb 0 x && ltb x b.width) && (ltb 0 y && ltb y b.height)

-- of the four cells round a vertex, row by row, two diagonally opposite ones are blocked and the other two free
abbrev pub crosswise : (nw ne sw se : Bool) → Bool
crosswise nw ne sw se = ((nw && se) && not (ne || sw)) || ((ne && sw) && not (nw || se))

-- the vertex (x, y) is pinched
unfoldable pub pinched : Board → (x y : ℕ) → Bool
pinched b x y =
    on_inside b x y && crosswise (blocked b (x - 1) (y - 1)) (blocked b x (y - 1)) (blocked b (x - 1) y) (blocked b x y)

-- the vertex numbered v is not pinched, or it is the search's start or goal
unfoldable pub admitted : Board → (start goal v : ℕ) → Bool
admitted b start goal v = not (pinched b (column b v) (row b v)) || (eqb v start || eqb v goal)
