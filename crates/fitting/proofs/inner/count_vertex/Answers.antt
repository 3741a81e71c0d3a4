use native.Mathlib.Omega.{arith}
use lib.ListN.{length-append}
use Rattle.lines.specs.Lines.{decimal}
use Rattle.lines.proofs.Fields.{vertex_count}
use Rattle.fitting.proofs.inner.count_vertex.Goals as goal

pub returns : goal.returns
returns c =
    let a = c.args in
    let place = c.place_of-place in
    let digits = length-append (decimal place.result.x) (decimal place.result.y) in
    let both = c.count_both.ensures in
    record {
      count = omega (arith, vertex_count a.width a.v place.ensures, digits, both.count);
      few = omega (arith, both.few);
    }
