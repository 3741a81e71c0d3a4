-- The route program's own limits: the boards that its buffers are for.
use Rattle.std.specs.Prelude.{ℕ, ◌+◌, ◌*◌}
use Rattle.lines.specs.Lines.{longest_line}

-- a side of such a board goes from 1 to this
abbrev pub widest : ℕ
widest = 63

-- its cells and its vertices
abbrev pub cell_room : ℕ
cell_room = widest * widest

abbrev pub vertex_room : ℕ
vertex_room = (widest + 1) * (widest + 1)

-- the bytes that suffice for each of its lines
abbrev pub line_room : ℕ
line_room = longest_line widest
