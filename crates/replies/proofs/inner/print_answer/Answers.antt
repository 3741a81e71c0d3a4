-- `replies::inner::print_answer` sends the line of a path or of none, which has room in the buffer.
use Rattle.std.proofs.Common.{refl, arith}
use Rattle.replies.proofs.Answering.{answered_as, path_room, none_room}
use Rattle.replies.proofs.inner.print_answer.Goals as goal

pub print-requires-clause-path_in_bounds : goal.print-requires-clause-path_in_bounds
print-requires-clause-path_in_bounds g c =
    let found = c.in-Found in
    let answered = answered_as c.requires.answered c.in-Ok.is found.is in
    let room = path_room answered (omega arith) (omega arith) (omega arith) refl (omega arith) in
    omega (arith, room)

pub print-requires-in-NoPath-clause-path_in_bounds :
    goal.print-requires-in-NoPath-clause-path_in_bounds
print-requires-in-NoPath-clause-path_in_bounds g c =
    let none = c.in-NoPath in
    let answered = answered_as c.requires.answered c.in-Ok.is none.is in
    let room = none_room answered (omega arith) (omega arith) (omega arith) in
    omega (arith, room)
