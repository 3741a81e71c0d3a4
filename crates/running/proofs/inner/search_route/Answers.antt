use mathlib.Core.Path.{refl}
use borrow.Author.Tests.{not-true, not-false}
use Rattle.problem.specs.Problem.{problem}
use Rattle.problem.proofs.Theorems.{board_work, found_traced, found_path, found_units, found_legs, found_exact}
use Rattle.running.proofs.Ran.{as_found, ran_none, ran_path}
use Rattle.running.proofs.inner.search_route.Goals as goal

pub returns-then-not-outcome : goal.returns-then-not-outcome
returns-then-not-outcome c =
    let a = c.args.asked.now in
    ran_none (board_work _ a.ax a.ay a.bx a.by a.ends.first) c.find-outcome.ensures c.args.path.now (not-true _ c.if-not-outcome.true)

pub tell_path-requires : goal.tell_path-requires
tell_path-requires c =
    let a = c.args.asked.now in
    let found = as_found (not-false _ c.if-not-outcome.false) c.find-outcome.ensures in
    rw (c.number_of-start.ensures, c.number_of-goal.ensures) (record {
      traced = found_traced a.ends.first a.bx a.by found;
      units_bound = found_exact a.ends.first a.bx a.by found a.board.sound;
    })

pub returns : goal.returns
unfolding problem
returns c =
    let a = c.args.asked.now in
    let found = as_found (not-false _ c.if-not-outcome.false) c.find-outcome.ensures in
    ran_path (board_work _ a.ax a.ay a.bx a.by a.ends.first) found refl c.tell_path.ensures
    (rw (c.number_of-start.ensures, c.number_of-goal.ensures) (found_path a.ends.first a.bx a.by found))
    (rw c.number_of-goal.ensures (found_units a.ends.first a.bx a.by found))
    (rw c.number_of-goal.ensures (found_legs a.ends.first a.bx a.by found))
