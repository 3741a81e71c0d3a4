use Rattle.painting.specs.Cells.{Filled}
use Rattle.painting.proofs.Grid.{cells_written}
use Rattle.painting.proofs.inner.write_cells.Goals as goal

pub returns : goal.returns
returns c =
    let p = c.requires in
    -- every cell is free before the keepouts are painted
    let free : Filled 0 c.args.cells 0 _ _ = c.fill.ensures in
    cells_written p.accepted p.wide_value.0 p.wide_value.1 p.wide_value.2 free c.paint_keepouts.ensures
