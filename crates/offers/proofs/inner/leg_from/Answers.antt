use Rattle.table.proofs.Table.{known_leg}
use Rattle.offers.proofs.inner.leg_from.Goals as goal

pub units_between-requires : goal.units_between-requires
units_between-requires c =
    let B = c.args.asked.now.board.sound in
    let (F, W) = c.requires.placed in
    let (small, known) = known_leg c.requires.known (B.narrow, B.low) (F.on.x_on, F.on.y_on, W.on.x_on, W.on.y_on) in
    record { ax_le_largest_side = small; known = known }
