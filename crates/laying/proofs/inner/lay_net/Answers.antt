use mathlib.Core.Path.{sym}
use borrow.Author.Tests.{eqb-true, eqb-false}
use Rattle.std.proofs.lemmas.Iterator.{YieldsList-from_slice, YieldsList-from_zip}
use Rattle.std.proofs.lemmas.Iterator.Consumers.{YieldsList-from_enumerate, YieldsList-turn, YieldsList-end}
use Rattle.std.proofs.lemmas.List.{length_push}
use Rattle.laying.proofs.Written.{pair_at, pairs_all, net_none, net_begins, net_fits, net_goes, net_ends}
use Rattle.laying.proofs.inner.lay_net.Goals as goal

pub returns-then-is_empty : goal.returns-then-is_empty
returns-then-is_empty c = net_none _ _ _ _ _ _ c.requires.room (eqb-true _ _ (sym c.if-is_empty.ensures)) c.put_record.ensures

pub loop-place-init : goal.loop-place-init
loop-place-init c = λ room. net_begins _ _ _ _ _ _ room (eqb-false _ _ (sym c.if-is_empty.ensures))

pub put_record-requires-in-loop-place : goal.put_record-requires-in-loop-place
put_record-requires-in-loop-place c =
    let a = c.args in
    let l = c.loop-place in
    let some = eqb-false _ _ (sym c.if-is_empty.ensures) in
    let all = YieldsList-from_enumerate (YieldsList-from_zip (YieldsList-from_slice a.xs.now (cc)) (YieldsList-from_slice a.ys.now (cc))) (cc) in
    let t = pair_at a.xs.now a.ys.now _ (YieldsList-turn all l.yielded l.place-iterator l.yielded_by c.next.result c.next.new.self _ c.in-Some.is c.next.ensures.steps) in
    rw (t.2) (net_fits _ _ _ _ _ _ c.requires.room some (l.invariant c.requires.room) t.0)

pub loop-place-preserved : goal.loop-place-preserved
loop-place-preserved c =
    let a = c.args in
    let l = c.loop-place in
    let some = eqb-false _ _ (sym c.if-is_empty.ensures) in
    let all = YieldsList-from_enumerate (YieldsList-from_zip (YieldsList-from_slice a.xs.now (cc)) (YieldsList-from_slice a.ys.now (cc))) (cc) in
    let t = pair_at a.xs.now a.ys.now _ (YieldsList-turn all l.yielded l.place-iterator l.yielded_by c.next.result c.next.new.self _ c.in-Some.is c.next.ensures.steps) in
    let up = length_push l.yielded (c.in-Some.place, (c.in-Some.x, c.in-Some.y)) in
    let written = rw (t.2, t.3, t.4) at c.put_record-in-loop-place.ensures in
    λ room. rw up (net_goes _ _ _ _ _ _ room some (l.invariant room) t.0 written)

pub returns : goal.returns
returns c =
    let a = c.args in
    let l = c.loop-place in
    let all = YieldsList-from_enumerate (YieldsList-from_zip (YieldsList-from_slice a.xs.now (cc)) (YieldsList-from_slice a.ys.now (cc))) (cc) in
    let e = YieldsList-end all l.yielded l.place-iterator l.yielded_by c.next.result c.next.new.self c.in-None.is c.next.ensures.steps in
    net_ends _ _ _ _ _ _ c.requires.room (eqb-false _ _ (sym c.if-is_empty.ensures)) (l.invariant c.requires.room) (pairs_all a.xs.now a.ys.now _ c.requires.same_count e.1)
