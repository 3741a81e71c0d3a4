use mathlib.Core.Path.{sym, ◌∙◌}
use native.Mathlib.Omega.{arith}
use Rattle.theta.specs.Lent.{state}
use Rattle.offers.specs.Request.{given}
use Rattle.turns.proofs.Finding.{finding_start, finding_tests, finding_none, finding_found, finding_room, finding_counts, finding_taking, finding_next}
use Rattle.turns.proofs.inner.run.Goals as goal

pub loop-leader-init : goal.loop-leader-init
loop-leader-init c = finding_start (given c.args.request.now) c.requires.begins c.requires.listed_for

pub returns-then-v-goal : goal.returns-then-v-goal
returns-then-v-goal c =
    finding_found (given c.args.request.now) c.loop-leader.invariant c.in-Some.ensures (c.if-v-goal.true ∙ c.number_of-goal.ensures)

-- a vertex is taken that is not the goal: fewer are expanded than there are
pub overflow_add-expansions : goal.overflow_add-expansions
overflow_add-expansions c =
    omega (arith, finding_counts (given c.args.request.now) c.loop-leader.invariant c.in-Some.ensures (λ e. c.if-v-goal.false (e ∙ sym c.number_of-goal.ensures)))

pub expand-tests-requires-clause-taking : goal.expand-tests-requires-clause-taking
expand-tests-requires-clause-taking c =
    finding_taking (given c.args.request.now) c.loop-leader.invariant c.in-Some.ensures (λ e. c.if-v-goal.false (e ∙ sym c.number_of-goal.ensures))

pub expand-tests-requires-clause-tests_bound : goal.expand-tests-requires-clause-tests_bound
expand-tests-requires-clause-tests_bound c = finding_tests (given c.args.request.now) c.loop-leader.invariant

pub loop-leader-smaller : goal.loop-leader-smaller
loop-leader-smaller c =
    omega (arith, finding_room (given c.args.request.now) c.loop-leader.invariant c.in-Some.ensures (λ e. c.if-v-goal.false (e ∙ sym c.number_of-goal.ensures)))

pub loop-leader-preserved : goal.loop-leader-preserved
loop-leader-preserved c =
    let o = c.expand-tests in
    finding_next (given c.args.request.now) c.loop-leader.invariant c.in-Some.ensures (λ e. c.if-v-goal.false (e ∙ sym c.number_of-goal.ensures)) {r = state o.new.g o.new.parents o.new.marks o.new.legs 0 o.result} {leads' = o.new.leads} {keys' = o.new.keys} o.ensures.rounded o.ensures.listed_for_2

-- there is no path only where the leader of all has no key
pub returns : goal.returns
returns c = finding_none (given c.args.request.now) c.loop-leader.invariant c.in_default.ensures
