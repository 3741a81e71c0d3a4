use Prim.Native.Nat.{◌*◌, ◌<◌}
use native.Mathlib.Omega.{arith}
use lib.ListN.{length}
use Rattle.job.proofs.Reading.{whole_width, whole_cells, whole_few, whole_short, whole_done}
use Rattle.job.proofs.inner.write_board.Goals as goal

pub overflow_mul-cells : goal.overflow_mul-cells
overflow_mul-cells c = omega (arith, whole_few c.requires.accepted c.requires.whole_value)

pub returns-then-board-cells : goal.returns-then-board-cells
returns-then-board-cells c =
    let short : length c.args.board.now < c.args.whole.width * c.args.whole.height = omega arith in
    whole_short c.requires.accepted c.requires.whole_value _ short

pub write_cells-requires : goal.write_cells-requires
write_cells-requires c =
    record { accepted = c.requires.accepted; wide_value = (whole_width c.requires.accepted c.requires.whole_value, whole_cells c.requires.accepted c.requires.whole_value, omega arith) }

pub returns : goal.returns
returns c =
    whole_done c.requires.accepted c.requires.whole_value c.if-board-cells.false c.write_cells.ensures
