use mathlib.Core.List.{◌∷◌}
use native.Mathlib.Omega.{arith}
use lib.ListN.{get_or}
use Rattle.lines.specs.Lines.{vertex_field}
use Rattle.putting.proofs.Puts.{room_turn, put_turn}
use Rattle.lines.proofs.Fields.{path_parts, path_more}
use Rattle.netline.proofs.inner.put_path.Goals as goal

pub put_vertex-next-requires : goal.put_vertex-next-requires
put_vertex-next-requires c =
    let l = c.loop-v in
    let i = l.v-index in
    let width = c.args.width in
    let path = c.args.path.now in
    room_turn _ (32 ∷ vertex_field width (get_or path i 0)) _ (path_parts width path i (omega arith)) l.invariant.1 l.invariant.0

pub loop-v-preserved : goal.loop-v-preserved
loop-v-preserved c =
    let l = c.loop-v in
    let i = l.v-index in
    let width = c.args.width in
    let path = c.args.path.now in
    let parts = path_parts width path i (omega arith) in
    let more = put_turn _ (32 ∷ vertex_field width (get_or path i 0)) _ parts l.invariant.1 l.invariant.0 c.put_vertex-next.ensures in
    (rw (path_more width path i (omega arith)) at more, l.invariant.1)
