-- `route::serve` hands on the cells of a board that fits its buffer, and the refusal of a job that has none.
use Rattle.std.proofs.Common.{◌*◌, sym, arith, mul-le-mul}
use lib.ListN.{length-take}
use Rattle.job.proofs.Above.{board_given, given_sound}
use Rattle.netroute.proofs.Limits.{line_room_lem}
use Rattle.nets.proofs.Answering.{opened}
use Rattle.route.proofs.Refusing.{board_fits, board_refused}
use Rattle.route.proofs.serve.Goals as goal

pub overflow_mul-board : goal.overflow_mul-board
overflow_mul-board g c = let s = given_sound (board_given c.in-Ok.ensures) in omega (arith, mul-le-mul s.narrow s.low)

pub slice_bounds-board-end : goal.slice_bounds-board-end
slice_bounds-board-end g c =
    let s = given_sound (board_given c.in-Ok.ensures) in
    omega (arith, s.full, length-take (c.in-Ok.sides.width * c.in-Ok.sides.height) c.read_board.new.board)

pub slice_bounds-cells-end : goal.slice_bounds-cells-end
slice_bounds-cells-end g c = sym (given_sound (board_given c.in-Ok.ensures)).full

pub print_nets-requires-clause-opened : goal.print_nets-requires-clause-opened
print_nets-requires-clause-opened g c = opened (board_given c.in-Ok.ensures)

pub print_nets-requires-clause-line_room_in_bounds :
    goal.print_nets-requires-clause-line_room_in_bounds
print_nets-requires-clause-line_room_in_bounds g c = omega (arith, line_room_lem)

pub print_refusal-requires-clause-job_value : goal.print_refusal-requires-clause-job_value
print_refusal-requires-clause-job_value g c =
    let refused = c.in-Err-Job in
    rw refused.why-is (board_refused c.args.job.now refused.why (rw refused.field-0-is at refused.ensures))

pub print_refusal-requires-clause-line_room_in_bounds :
    goal.print_refusal-requires-clause-line_room_in_bounds
print_refusal-requires-clause-line_room_in_bounds g c = omega (arith, line_room_lem)

pub unreachable-requires : goal.unreachable-requires
unreachable-requires g c = board_fits c.args.job.now (omega arith) (rw c.in-Err-Short.field-0-is at c.in-Err-Short.ensures)
