use native.Mathlib.Omega.{arith}
use native.Mathlib.Nat.{mul-le-mul}
use mathlib.Core.Path.{sym}
use Rattle.std.proofs.lemmas.Result.{err_from_is_err_and}
use Rattle.bureau.specs.Answers.{slices}
use Rattle.approve.proofs.Approving.{narrow, low, stops_short, enough, cells_fit, on_job, full, room_is, results_room, decided}
use Rattle.approve.proofs.approve_accepted.Goals as goal

pub check_room-requires : goal.check_room-requires
check_room-requires c = (narrow c.requires, low c.requires)

pub returns-in_err-check_room : goal.returns-in_err-check_room
returns-in_err-check_room c =
    let a = c.args in
    let p = err_from_is_err_and c.from_residual.result c.from_residual.ensures.1 in
    rw (p.1, p.2) (stops_short c.requires (slices a.board.now a.g.now a.parents.now a.marks.now a.legs.now a.units.now a.counts.now) _ c.in_err-check_room.ensures)

pub overflow_mul-cells : goal.overflow_mul-cells
overflow_mul-cells c = omega (arith, mul-le-mul (narrow c.requires) (low c.requires))

pub write_cells-requires-clause-wide_value : goal.write_cells-requires-clause-wide_value
write_cells-requires-clause-wide_value c =
    let a = c.args in
    cells_fit c.requires (enough c.requires (slices a.board.now a.g.now a.parents.now a.marks.now a.legs.now a.units.now a.counts.now) c.in_ok-check_room.ensures)

pub slice_bounds-painted-end : goal.slice_bounds-painted-end
slice_bounds-painted-end c =
    let a = c.args in
    let E = enough c.requires (slices a.board.now a.g.now a.parents.now a.marks.now a.legs.now a.units.now a.counts.now) c.in_ok-check_room.ensures in
    omega (arith, E.board_long, full c.requires E c.write_cells.ensures)

pub slice_bounds-painted-end-2 : goal.slice_bounds-painted-end-2
slice_bounds-painted-end-2 c =
    let a = c.args in
    let E = enough c.requires (slices a.board.now a.g.now a.parents.now a.marks.now a.legs.now a.units.now a.counts.now) c.in_ok-check_room.ensures in
    sym (full c.requires E c.write_cells.ensures)

pub invariant_of-painted : goal.invariant_of-painted
invariant_of-painted c =
    let a = c.args in
    let E = enough c.requires (slices a.board.now a.g.now a.parents.now a.marks.now a.legs.now a.units.now a.counts.now) c.in_ok-check_room.ensures in
    record { sound = (room_is c.requires E c.write_cells.ensures).sound }

pub check_nets-requires : goal.check_nets-requires
check_nets-requires c =
    let a = c.args in
    let E = enough c.requires (slices a.board.now a.g.now a.parents.now a.marks.now a.legs.now a.units.now a.counts.now) c.in_ok-check_room.ensures in
    let w = c.write_cells.ensures in
    record { on_job = on_job c.requires E w; room = room_is c.requires E w; nets_in_bounds = results_room c.requires E w }

pub returns : goal.returns
returns c =
    let a = c.args in
    let E = enough c.requires (slices a.board.now a.g.now a.parents.now a.marks.now a.legs.now a.units.now a.counts.now) c.in_ok-check_room.ensures in
    decided c.requires E c.write_cells.ensures c.check_nets.ensures
