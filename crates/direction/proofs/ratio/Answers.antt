use Rattle.std.proofs.Common.{◌∙◌}
use Rattle.std.proofs.lemmas.Int.{to_z-of_z}
use Rattle.direction.proofs.Floats.{divided_below, divided_above}
use Rattle.direction.proofs.ratio.Goals as goal

pub returns-then-d-lt0 : goal.returns-then-d-lt0
returns-then-d-lt0 c =
    let f = c.ranges.d in
    let p = c.requires in
    divided_below c.args.d (c.from.ensures ∙ simp to_z-of_z at c.unsigned_abs.ensures.value) p.0 p.1 p.2 (simp to_z-of_z at c.if-d-lt0.true)

pub returns-else-d-lt0 : goal.returns-else-d-lt0
returns-else-d-lt0 c =
    let f = c.ranges.d in
    let p = c.requires in
    divided_above c.args.d (c.from.ensures ∙ simp to_z-of_z at c.unsigned_abs.ensures.value) p.0 p.1 p.2 (simp to_z-of_z at c.if-d-lt0.false)
