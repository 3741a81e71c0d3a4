use mathlib.Core.Path.{refl}
use native.Mathlib.Omega.{arith}
use borrow.Author.Rules.{rules}
use Rattle.records.proofs.InOrder.{none_yet}
use Rattle.bureau.specs.Answers.{after_nets}
use Rattle.judge.proofs.Judging.{room_same, ends_for, judged_next, judged_work, judged_stop, judged_done}
use Rattle.judge.proofs.inner.judge_nets.Goals as goal

pub loop-index-init : goal.loop-index-init
unfolding after_nets
loop-index-init c = (omega arith, search rules, search rules, refl, refl, refl, refl, none_yet _, refl)

pub judge_net-judged-requires : goal.judge_net-judged-requires
judge_net-judged-requires c =
    let l = c.loop-index in
    let O = l.invariant.1 in
    record {
      room = room_same l.invariant.2 l.invariant.3 l.invariant.4 l.invariant.5 l.invariant.6;
      ends_of = ends_for O l.index c.wanted_net-net.ensures (omega (arith, O.many_is));
      file_value = O.clean;
    }

pub returns-in-Err : goal.returns-in-Err
returns-in-Err c =
    let l = c.loop-index in
    let O = l.invariant.1 in
    judged_stop O _ l.index c.wanted_net-net.ensures l.invariant.8 l.invariant.7 c.in-Err.ensures (omega (arith, O.many_is)) _ c.of.ensures.row c.of.ensures.not_the_jobs

pub loop-index-preserved : goal.loop-index-preserved
loop-index-preserved c =
    let l = c.loop-index in
    let O = l.invariant.1 in (
      omega arith,
      O,
      l.invariant.2,
      omega arith,
      omega arith,
      omega arith,
      omega arith,
      judged_next O _ l.index c.wanted_net-net.ensures l.invariant.8 l.invariant.7 c.in_default.ensures refl,
      judged_work O _ l.index c.wanted_net-net.ensures l.invariant.8 l.invariant.7 c.in_default.ensures,
    )

pub returns : goal.returns
returns c = let l = c.loop-index in judged_done l.invariant.8 l.invariant.7 (omega (arith, l.invariant.1.many_is))
