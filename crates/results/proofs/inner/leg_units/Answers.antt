use Rattle.results.proofs.Measuring.{length_there, units_told}
use Rattle.results.proofs.inner.leg_units.Goals as goal

pub unwrap-length-requires : goal.unwrap-length-requires
unwrap-length-requires c = length_there _ _ c.requires.from_small c.requires.to_small c.between.result c.between.ensures

pub returns : goal.returns
returns c = units_told _ _ c.requires.from_small c.requires.to_small c.between.ensures c.unwrap-length.ensures
