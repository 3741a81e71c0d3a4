use Rattle.putting.proofs.Puts.{room_front, room_middle, room_last, put_three}
use Rattle.lines.proofs.Fields.{net_parts}
use Rattle.netline.proofs.inner.put_net.Goals as goal

pub put_both-counts-requires : goal.put_both-counts-requires
put_both-counts-requires c =
    let a = c.args in
    room_front (net_parts a.number a.units a.expansions a.tests a.width a.path.now) c.requires

pub put_both-end-requires : goal.put_both-end-requires
put_both-end-requires c =
    let a = c.args in
    room_middle (net_parts a.number a.units a.expansions a.tests a.width a.path.now) c.requires c.put_both-counts.ensures

pub put_end-requires : goal.put_end-requires
put_end-requires c =
    let a = c.args in
    room_last (net_parts a.number a.units a.expansions a.tests a.width a.path.now) c.requires c.put_both-counts.ensures
    c.put_both-end.ensures

pub returns : goal.returns
returns c =
    let a = c.args in
    put_three (net_parts a.number a.units a.expansions a.tests a.width a.path.now) c.requires c.put_both-counts.ensures
    c.put_both-end.ensures c.put_end.ensures
