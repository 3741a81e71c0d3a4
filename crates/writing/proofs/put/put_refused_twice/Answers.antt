use mathlib.Core.List.{◌++◌}
use Rattle.putting.proofs.Puts.{room_front, room_middle, room_last, put_three}
use Rattle.lines.specs.Lines.{refused, at_word}
use Rattle.lines.specs.Inner.{Put}
use Rattle.lines.proofs.Fields.{first, later, refused_twice_parts}
use Rattle.writing.proofs.put.put_refused_twice.Goals as goal

pub put_both-next-requires : goal.put_both-next-requires
put_both-next-requires c =
    let a = c.args in
    room_front (refused_twice_parts a.number a.place a.second) c.requires

pub put_number-end-requires : goal.put_number-end-requires
put_number-end-requires c =
    let a = c.args in
    room_middle (refused_twice_parts a.number a.place a.second) c.requires c.put_both-next.ensures

pub put_newline-requires : goal.put_newline-requires
put_newline-requires c =
    let a = c.args in
    room_last (refused_twice_parts a.number a.place a.second) c.requires c.put_both-next.ensures c.put_number-end.ensures

pub returns : goal.returns
returns c =
    let a = c.args in
    -- the number and the first place come first
    let begins : Put (first refused a.number ++ later at_word a.place) _ 0 _ _ = c.put_both-next.ensures in
    put_three (refused_twice_parts a.number a.place a.second) c.requires begins c.put_number-end.ensures c.put_newline.ensures
