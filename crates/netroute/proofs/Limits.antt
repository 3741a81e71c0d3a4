-- The program's buffers hold what the library needs for a board with such sides. Assumes nothing.
use Prim.Native.Nat.{◌+◌, ◌*◌, ◌≤◌}
use mathlib.Core.Path.{◌≡◌, refl}
use native.Mathlib.Nat.{mul-le-mul}
use native.Mathlib.Omega.{arith}
use Rattle.board.specs.Board.{Board, vertices}
use Rattle.lines.specs.Lines.{digits_up_to, decimal, most_digits, longest_line}
use Rattle.netroute.specs.Limits.{widest, cell_room, vertex_room, line_room}

module _ (b : Board) (narrow : b.width ≤ widest) (low : b.height ≤ widest) where
  pub cells_fit : b.width * b.height ≤ cell_room
  cells_fit = mul-le-mul narrow low

  -- one entry for each vertex in g, parents, marks and path
  pub vertices_fit : vertices b ≤ vertex_room
  vertices_fit =
      let w : b.width + 1 ≤ widest + 1 = omega arith in
      let h : b.height + 1 ≤ widest + 1 = omega arith in
      mul-le-mul w h

-- the longest line: a coordinate of such a board has two digits
pub line_room_lem : line_room ≡ 31 + 4 * most_digits + 6 * vertex_room
unfolding digits_up_to decimal longest_line
line_room_lem = refl
