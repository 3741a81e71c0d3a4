-- The numbers that a larger edition changes, each once: the largest side of a board and the width of a vertex number.
use Rattle.std.specs.Prelude.{ℕ, ◌+◌, ◌*◌, ◌^◌, ◌<◌}
use Rattle.std.proofs.Common.{lit<}

-- a board's sides go from 1 to this
abbrev pub largest_side : ℕ
largest_side = 63

-- a vertex number has this many bits
abbrev pub vertex_bits : ℕ
vertex_bits = 16

-- the most vertices that a board has
abbrev pub most_vertices : ℕ
most_vertices = (largest_side + 1) * (largest_side + 1)

-- a vertex number fits, and so does the number of vertices: where the side meets the bits
pub vertices_fit : most_vertices < 2 ^ vertex_bits
vertices_fit = lit< tt
