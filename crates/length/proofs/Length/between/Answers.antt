use Rattle.spans.specs.Legs.{vertex_rows}
use Rattle.length.specs.Answers.{length_between_row}
use Rattle.length.proofs.Answers.{measured}
use Rattle.length.proofs.Length.between.Goals as goal

pub returns : goal.returns
unfolding length_between_row
returns c =
    measured _ _ (vertex_rows c.args.ax c.args.ay c.args.bx c.args.by) c.between.result c.map.result c.between.ensures.rows c.between.ensures.value c.map.ensures.cases
