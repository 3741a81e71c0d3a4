use mathlib.Core.Path.{sym}
use Prim.Native.Nat.{◌*◌, ◌<◌, ◌≤◌}
use native.Mathlib.Omega.{arith}
use lib.ListN.{length}
use Rattle.std.proofs.lemmas.Result.{err_from_is_err_and}
use Rattle.bits.specs.Packed.{cell_of}
use Rattle.packed.specs.Answers.{read_rows}
use Rattle.filling.proofs.Checking.{packed_known, packed_refuses}
use Rattle.bits.proofs.Entries.{entries_length}
use Rattle.bits.proofs.Rows.{cells_few}
use Rattle.packed.proofs.Answering.{wrote_kept, wrote_short, wrote_done}
use Rattle.packed.proofs.read_cells.Goals as goal

pub returns-in_err-check_packed : goal.returns-in_err-check_packed
unfolding read_rows
returns-in_err-check_packed c =
    let p = err_from_is_err_and c.from_residual.result c.from_residual.ensures.1 in
    rw (p.1, p.2) (wrote_kept _ _ _ (packed_refuses c.in_err-check_packed.field-0.0) _ c.in_err-check_packed.ensures)

pub overflow_mul-width : goal.overflow_mul-width
overflow_mul-width c =
    let k = packed_known _ _ _ (sym c.in_ok-check_packed.ensures) in
    omega (arith, cells_few c.args.width c.args.height k.sized.sides)

pub returns-then-cells-width : goal.returns-then-cells-width
unfolding read_rows
returns-then-cells-width c =
    let a = c.args in
    let short : length a.cells.now < a.width * a.height = omega (arith, c.if-cells-width.true) in
    wrote_short _ _ (sym c.in_ok-check_packed.ensures) _ _ 19 short

pub unpack-requires : goal.unpack-requires
unpack-requires c =
    record { sized = (packed_known _ _ _ (sym c.in_ok-check_packed.ensures)).sized; height_in_bounds = omega (arith, c.if-cells-width.false) }

pub returns : goal.returns
unfolding read_rows
returns c =
    let a = c.args in
    let room : a.width * a.height ≤ length a.cells.now = omega (arith, c.if-cells-width.false) in
    wrote_done _ _ (sym c.in_ok-check_packed.ensures) _ _ 19 room (entries_length (cell_of a.packed.now a.width) _) c.unpack.ensures
