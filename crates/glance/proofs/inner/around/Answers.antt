use Rattle.glance.proofs.Cells.{four_low, four_gathered}
use Rattle.glance.proofs.Copied.{four_copied}
use Rattle.glance.proofs.inner.around.Goals as goal

pub gathered-requires : goal.gathered-requires
gathered-requires c = four_low (four_copied c.args.guarded.now.guarded c.requires)

-- the number is that of the four cells
pub returns : goal.returns
returns c = four_gathered (four_copied c.args.guarded.now.guarded c.requires) c.gathered.ensures
