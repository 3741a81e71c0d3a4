use Rattle.putting.proofs.Puts.{room_one, room_two, put_two}
use Rattle.lines.proofs.Fields.{refused_parts}
use Rattle.writing.proofs.put.put_refused.Goals as goal

pub put_both-end-requires : goal.put_both-end-requires
put_both-end-requires c = room_one (refused_parts c.args.number c.args.place) c.requires

pub put_newline-requires : goal.put_newline-requires
put_newline-requires c = room_two (refused_parts c.args.number c.args.place) c.requires c.put_both-end.ensures

pub returns : goal.returns
returns c =
    put_two (refused_parts c.args.number c.args.place) c.requires c.put_both-end.ensures c.put_newline.ensures
