use Rattle.putting.proofs.Puts.{room_front, room_middle, room_last, put_three}
use Rattle.lines.proofs.Fields.{none_parts}
use Rattle.writing.proofs.put.put_none.Goals as goal

pub put_number-counts-requires : goal.put_number-counts-requires
put_number-counts-requires c =
    let a = c.args in
    room_front (none_parts a.number a.expansions a.tests) c.requires

pub put_both-end-requires : goal.put_both-end-requires
put_both-end-requires c =
    let a = c.args in
    room_middle (none_parts a.number a.expansions a.tests) c.requires c.put_number-counts.ensures

pub put_newline-requires : goal.put_newline-requires
put_newline-requires c =
    let a = c.args in
    room_last (none_parts a.number a.expansions a.tests) c.requires c.put_number-counts.ensures c.put_both-end.ensures

pub returns : goal.returns
returns c =
    let a = c.args in
    put_three (none_parts a.number a.expansions a.tests) c.requires c.put_number-counts.ensures c.put_both-end.ensures
    c.put_newline.ensures
