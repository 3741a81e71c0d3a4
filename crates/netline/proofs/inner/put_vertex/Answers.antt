use native.Mathlib.Omega.{arith}
use lib.ListN.{length-append}
use Rattle.lines.proofs.Fields.{vertex_parts, vertex_count}
use Rattle.netline.proofs.inner.put_vertex.Goals as goal

pub put_both-requires : goal.put_both-requires
put_both-requires c =
    let count = vertex_count c.args.width c.args.v c.place_of-place.ensures in
    record { room = simp length-append (omega (arith, c.requires.room, count)) }

pub returns : goal.returns
returns c = rw (vertex_parts c.args.width c.args.v c.place_of-place.ensures) c.put_both.ensures
