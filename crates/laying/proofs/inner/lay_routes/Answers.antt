use mathlib.Core.Path.{sym, ap, ◌∙◌}
use Prim.Native.Nat.{ℕ, ◌+◌}
use native.Mathlib.Omega.{arith}
use Rattle.std.proofs.lemmas.List.{length_push}
use Rattle.std.proofs.lemmas.Slice.Zip.{zip_turn, zip_end}
use Rattle.tracks.specs.Inner.{records_for}
use Rattle.laying.proofs.Written.{laying_none, laying_more, laying_room, laying_all, points_fit, cut_length, points_cut}
use Rattle.laying.proofs.inner.lay_routes.Goals as goal

pub loop-net-init : goal.loop-net-init
loop-net-init c = (omega arith, laying_none _ _)

pub overflow_add-end : goal.overflow_add-end
overflow_add-end c =
    let a = c.args in
    let l = c.loop-net in
    let t = zip_turn a.nets.now a.counts.now l.yielded c.into_iter-net-iterator.result l.net-iterator c.next.new.self c.next.result (cc) (cc) l.yielded_by _ c.in-Some.is c.next.ensures.steps in
    omega (arith, points_fit l.invariant.1 t.0 (t.3 0) c.requires.xs)

pub slice_bounds-lay_net-end : goal.slice_bounds-lay_net-end
slice_bounds-lay_net-end c =
    let a = c.args in
    let l = c.loop-net in
    let t = zip_turn a.nets.now a.counts.now l.yielded c.into_iter-net-iterator.result l.net-iterator c.next.new.self c.next.result (cc) (cc) l.yielded_by _ c.in-Some.is c.next.ensures.steps in
    omega (arith, points_fit l.invariant.1 t.0 (t.3 0) c.requires.xs)

pub slice_bounds-lay_net-end-in-loop-net : goal.slice_bounds-lay_net-end-in-loop-net
slice_bounds-lay_net-end-in-loop-net c =
    let a = c.args in
    let l = c.loop-net in
    let t = zip_turn a.nets.now a.counts.now l.yielded c.into_iter-net-iterator.result l.net-iterator c.next.new.self c.next.result (cc) (cc) l.yielded_by _ c.in-Some.is c.next.ensures.steps in
    omega (arith, points_fit l.invariant.1 t.0 (t.3 0) c.requires.ys)

pub lay_net-requires : goal.lay_net-requires
lay_net-requires c =
    let a = c.args in
    let l = c.loop-net in
    let t = zip_turn a.nets.now a.counts.now l.yielded c.into_iter-net-iterator.result l.net-iterator c.next.new.self c.next.result (cc) (cc) l.yielded_by _ c.in-Some.is c.next.ensures.steps in
    let own-xs = cut_length l.from c.in-Some.count.now a.xs.now (points_fit l.invariant.1 t.0 (t.3 0) c.requires.xs) in
    let own-ys = cut_length l.from c.in-Some.count.now a.ys.now (points_fit l.invariant.1 t.0 (t.3 0) c.requires.ys) in
    record { same_count = own-xs ∙ sym own-ys; room = rw (own-xs, t.3 0) (laying_room l.invariant.1 t.0 c.requires.room) }

pub loop-net-preserved : goal.loop-net-preserved
loop-net-preserved c =
    let a = c.args in
    let l = c.loop-net in
    let t = zip_turn a.nets.now a.counts.now l.yielded c.into_iter-net-iterator.result l.net-iterator c.next.new.self c.next.result (cc) (cc) l.yielded_by _ c.in-Some.is c.next.ensures.steps in
    let up = length_push l.yielded (c.in-Some.net, c.in-Some.count) in
    let own-xs = cut_length l.from c.in-Some.count.now a.xs.now (points_fit l.invariant.1 t.0 (t.3 0) c.requires.xs) in
    let own = points_cut l.from c.in-Some.count.now a.xs.now a.ys.now c.in-Some.count.now (omega arith) in
    let written = rw (own-xs, own, t.2 0, t.3 0) at c.lay_net.ensures in
    let many = ap (λ (n : ℕ). l.at + n) (c.records_for-at.ensures ∙ ap records_for (t.3 0)) in
    rw up (omega (arith, t.0), laying_more l.invariant.1 written many (ap (λ (n : ℕ). l.from + n) (t.3 0)))

pub returns : goal.returns
returns c =
    let a = c.args in
    let l = c.loop-net in
    let e = zip_end a.nets.now a.counts.now l.yielded c.into_iter-net-iterator.result l.net-iterator c.next.new.self c.next.result (cc) (cc) l.yielded_by c.in-None.is c.next.ensures.steps in
    laying_all l.invariant.1 (omega (arith, e, c.requires.counted))
