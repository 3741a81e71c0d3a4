-- Neighbours, and neighbours with sight.
use Rattle.std.specs.Prelude.{ℕ, ◌+◌, Bool, not, ◌&&◌, leb, ltb, eqb}
use Rattle.board.specs.Board.{Board, vertices, column, row}
use Rattle.legs.specs.Sight.{sees}
use Rattle.legs.specs.Pinched.{admitted}

-- a coordinate differs by no more than 1
abbrev pub next_to : (a b : ℕ) → Bool
next_to a b = leb a (b + 1) && leb b (a + 1)

-- two vertices are neighbours if they differ and neither coordinate differs by more than 1
unfoldable pub neighbours : (ax ay bx by : ℕ) → Bool
neighbours ax ay bx by = not (eqb ax bx && eqb ay by) && (next_to ax bx && next_to ay by)

-- the vertices numbered u and v are visible neighbours in a search from start to goal: neighbours with sight, neither of them
-- pinched unless it is that start or that goal
unfoldable pub visible : Board → (start goal u v : ℕ) → Bool
visible b start goal u v =
    ((ltb u (vertices b) && ltb v (vertices b)) && (admitted b start goal u && admitted b start goal v))
    && (neighbours (column b u) (row b u) (column b v) (row b v) && sees b (column b u) (row b u) (column b v) (row b v))
