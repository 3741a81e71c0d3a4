use mathlib.Core.Path.{◌≡◌, ap, ◌∙◌}
use native.Mathlib.Omega.{arith}
use Rattle.std.proofs.lemmas.Result.{err_from_is_err_and}
use Rattle.records.specs.Records.{records}
use Rattle.records.proofs.InOrder.{none_yet, one_more}
use Rattle.scan.specs.Inner.{progress}
use Rattle.readback.proofs.Judging.{uneven, stops, ends, progress_none, progress_next}
use Rattle.readback.proofs.check.check_routes.Goals as goal

pub returns-then-file-ne0 : goal.returns-then-file-ne0
returns-then-file-ne0 c = uneven _ c.if-file-ne0.true

pub loop-i-init : goal.loop-i-init
loop-i-init c = let d = c.default-past.ensures in (progress_none _ d.0 d.1.0 d.1.1.0 d.1.1.1, none_yet _)

pub returns-in_err-past : goal.returns-in_err-past
returns-in_err-past c =
    let p = err_from_is_err_and c.from_residual.result c.from_residual.ensures.1 in
    rw (p.1, p.2) (stops _ c.if-file-ne0.false c.loop-i.i (omega arith) c.loop-i.invariant.1 _ c.in_err-past.ensures)

pub loop-i-preserved : goal.loop-i-preserved
loop-i-preserved c =
    let l = c.loop-i in
    let n = c.in_ok-past.ensures in
    (progress_next _ l.i n.1, one_more _ l.i l.invariant.1 n.0)

pub returns : goal.returns
returns c =
    let l = c.loop-i in
    let file = c.args.file.now in
    let all : l.i ≡ records file = omega arith in
    (ends file c.if-file-ne0.false (rw all at l.invariant.1), l.invariant.0 ∙ ap (progress file) all)
