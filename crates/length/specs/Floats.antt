-- Lengths as f64 numbers, in the terms of lib.Ieee.
use Rattle.std.specs.Prelude.{ℕ, pos}
use lib.Ieee.{Float, binary64, div, of_int}
use Rattle.length.specs.Units.{units_per_cell}

-- a length in cells: the units as an f64, divided by the units of one cell
unfoldable pub in_cells : ℕ → Float
in_cells n = div binary64 (of_int binary64 (pos n)) (of_int binary64 (pos units_per_cell))
