-- `netline::inner::put_path`: the vertices so far have been put.
use lib.ListN.{take}
use Rattle.lines.specs.Lines.{spaced, vertex_fields}
use Rattle.lines.specs.Inner.{Put, Room}
use Rattle.netline.proofs.inner.put_path.Given as goal

abbrev pub invariant-loop-v : goal.invariant-loop-v
invariant-loop-v l =
    Put (spaced (vertex_fields l.width (take l.v-index l.path))) l.initial.out l.at l.next l.out
    × Room (spaced (vertex_fields l.width l.path)) l.initial.out l.at
