use mathlib.Core.Path.{◌∙◌}
use Rattle.netlist.proofs.Nets.{none_said, place_below, place_said}
use Rattle.netlist.proofs.inner.net_said.Goals as goal

pub record_at-requires : goal.record_at-requires
record_at-requires c = place_below _ _ c.in-Some.ensures

pub returns-in-Some : goal.returns-in-Some
returns-in-Some c = c.record_at.ensures ∙ place_said _ _ c.in-Some.ensures

pub returns-in-None : goal.returns-in-None
returns-in-None c = none_said _ _ c.in-None.ensures
