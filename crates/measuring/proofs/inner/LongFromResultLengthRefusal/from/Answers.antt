use Rattle.std.proofs.Common.{refl}
use lib.Ieee.{div, of_bits, of_int}
use Rattle.length.specs.Floats.{in_cells}
use Rattle.measuring.proofs.inner.LongFromResultLengthRefusal.from.Goals as goal

-- the refusal's row, and 0 units are 0 cells by computation
pub returns-in-Err : goal.returns-in-Err
unfolding in_cells div of_bits of_int
returns-in-Err c = rw (c.in-Err.is, ← c.row-row.ensures) refl
