use mathlib.Core.Path.{◌≡◌, refl, ap, ◌∙◌}
use native.Mathlib.Omega.{arith}
use Rattle.std.proofs.lemmas.Result.{err_from_is_err_and}
use Rattle.laws.specs.Below.{how_many}
use Rattle.board.specs.Handed.{answer}
use Rattle.records.specs.Records.{records}
use Rattle.records.proofs.InOrder.{none_yet, one_more}
use Rattle.faults.specs.Faults.{net_before}
use Rattle.faults.specs.Inner.{progress}
use Rattle.faults.proofs.Judging.{goes_on, stops, ends}
use Rattle.faults.proofs.inner.check_job.Goals as goal

pub loop-i-init : goal.loop-i-init
unfolding progress net_before how_many
loop-i-init c = (omega arith, refl, none_yet _)

pub returns-in_err-past : goal.returns-in_err-past
returns-in_err-past c =
    let p = err_from_is_err_and c.from_residual.result c.from_residual.ensures.1 in
    rw (p.1, p.2) (stops _ c.if-job-gt-LONGEST.false c.if-job-ne0.false (omega arith) c.loop-i.i (omega arith) c.loop-i.invariant.2 _ c.in_err-past.ensures)

pub loop-i-preserved : goal.loop-i-preserved
loop-i-preserved c =
    let l = c.loop-i in
    let n = goes_on _ l.i c.in_ok-past.ensures in
    (omega arith, n.1, one_more _ l.i l.invariant.2 n.0)

pub returns : goal.returns
returns c =
    let l = c.loop-i in
    let job = c.args.job.now in
    let all : l.i ≡ records job = omega arith in
    ap answer (l.invariant.1 ∙ ap (progress job) all)
    ∙ ends job c.if-job-gt-LONGEST.false c.if-job-ne0.false (omega arith) (rw all at l.invariant.2)
