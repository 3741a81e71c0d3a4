use Rattle.std.proofs.lemmas.Int.{to_z-of_z}
use Rattle.spans.specs.Legs.{difference_rows}
use Rattle.length.specs.Answers.{length_row}
use Rattle.length.proofs.Answers.{measured}
use Rattle.length.proofs.Length.of.Goals as goal

pub returns : goal.returns
unfolding length_row
returns c =
    let x = c.ranges.dx in
    let y = c.ranges.dy in
    measured _ _ (difference_rows c.args.dx c.args.dy) c.of.result c.map.result (simp to_z-of_z at c.of.ensures.rows) (simp to_z-of_z at c.of.ensures.value) c.map.ensures.cases
