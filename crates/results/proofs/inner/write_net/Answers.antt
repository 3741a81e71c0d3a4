use Rattle.results.proofs.Measuring.{small_read, measured, measured_none}
use Rattle.results.proofs.inner.write_net.Goals as goal

pub returns-in-None : goal.returns-in-None
returns-in-None c = measured_none _ _ _ c.in-None.ensures

pub units_along-requires : goal.units_along-requires
units_along-requires c =
    let p = c.in-Some.ensures.1 in
    record { count_nonzero = (p.some, p.few, p.within); points_small = small_read p c.requires.points_small }

pub returns-in-Some : goal.returns-in-Some
returns-in-Some c = measured c.in-Some.ensures.1 _ _ _ c.units_along.ensures
