-- How large the numbers of a search get on a board, for the code.
use Rattle.std.specs.Prelude.{ℕ, ◌+◌, ◌*◌}
use Rattle.length.specs.Units.{units_per_cell}

-- no leg on the board is longer than this, and no g larger than a leg for each vertex
abbrev pub longest : (width height : ℕ) → ℕ
longest width height = (width + height) * units_per_cell

abbrev pub largest : (width height : ℕ) → ℕ
largest width height = (width + 1) * (height + 1) * longest width height
