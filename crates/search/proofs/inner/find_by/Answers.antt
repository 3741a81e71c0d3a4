use Prim.Native.Nat.{◌+◌, ◌*◌}
use Rattle.board.specs.Limits.{largest_side}
use Rattle.guard.proofs.Made.{all_shut_made, copy_fits}
use Rattle.theta.specs.Lent.{state}
use Rattle.search.proofs.inner.Begun.{none_listed, run_begins, run_found}
use Rattle.search.proofs.inner.find_by.Goals as goal

pub guard_cells-requires : goal.guard_cells-requires
guard_cells-requires c = all_shut_made ((largest_side + 2) * (largest_side + 2)) (copy_fits c.args.asked.now.board.sound)

pub open_vertex-requires-clause-listed : goal.open_vertex-requires-clause-listed
open_vertex-requires-clause-listed c =
    let a = c.args in
    let b = c.begin.new in
    none_listed a.asked.now (record { ref_ptr = a.table.ref_ptr; now = c.guard_cells.new.guard }) a.table c.guard_cells.ensures c.requires.known
    c.number_of-start.ensures {before = state a.g.now a.parents.now a.marks.now a.legs.now 0 0} {after = state b.g b.parents b.marks b.legs 0 0} c.begin.ensures

pub run-requires-clause-begins : goal.run-requires-clause-begins
run-requires-clause-begins c =
    let a = c.args in
    let b = c.begin.new in
    let o = c.open_vertex.new in
    run_begins a.asked.now (record { ref_ptr = a.table.ref_ptr; now = c.guard_cells.new.guard }) a.table c.guard_cells.ensures c.requires.known
    c.number_of-start.ensures {before = state a.g.now a.parents.now a.marks.now a.legs.now 0 0} {after = state b.g b.parents b.marks b.legs 0 0} c.begin.ensures
    {g = o.g} {mark = o.marks} {legs = o.legs} {leads = o.leads} {keys = o.keys} c.open_vertex.ensures

pub returns : goal.returns
returns c =
    let a = c.args in
    let b = c.begin.new in
    let o = c.open_vertex.new in
    let r = c.run in
    run_found a.asked.now (record { ref_ptr = a.table.ref_ptr; now = c.guard_cells.new.guard }) a.table c.guard_cells.ensures c.requires.known
    c.number_of-start.ensures {before = state a.g.now a.parents.now a.marks.now a.legs.now 0 0} {after = state b.g b.parents b.marks b.legs 0 0} c.begin.ensures
    {g = o.g} {mark = o.marks} {legs = o.legs} {leads = o.leads} {keys = o.keys} c.open_vertex.ensures
    {s = state r.new.g r.new.parents r.new.marks r.new.legs r.result.expansions r.result.tests} r.ensures
