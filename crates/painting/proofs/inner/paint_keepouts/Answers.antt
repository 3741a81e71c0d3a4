use mathlib.Core.Path.{◌≡◌, refl, sym}
use native.Mathlib.Nat.{mul-le-mul_right}
use native.Mathlib.Omega.{arith}
use Prim.Native.Nat.{◌+◌}
use Rattle.painting.specs.Cells.{Painted}
use Rattle.records.specs.Records.{records}
use Rattle.kinds.specs.Job.{in_keepout}
use Rattle.kinds.proofs.Says.{said}
use Rattle.faults.proofs.Accepted.{no_keepout, keepout_on}
use Rattle.painting.proofs.Painting.{keepout_told, none_told, covered_by, keepouts_none, keepouts_skip, keepouts_more}
use Rattle.painting.proofs.inner.paint_keepouts.Goals as goal
use Rattle.painting.proofs.inner.paint_keepouts.Goals.{in-Some, in_default}

pub loop-i-init : goal.loop-i-init
loop-i-init c = (omega arith, refl, keepouts_none _ _ _)

pub paint-requires : goal.paint-requires
paint-requires c =
    let l = c.loop-i in
    let this = said _ _ (sym (keepout_told _ c.in-Some.ensures)) in
    let on = keepout_on c.requires.accepted (omega arith) this in
    omega (arith, l.invariant.2.long, mul-le-mul_right c.args.wide on.3)

pub loop-i-preserved : goal.loop-i-preserved
loop-i-preserved c =
    let l = c.loop-i in
    let next : Painted c.args.wide (covered_by c.args.job.now c.args.wide (l.i + 1)) c.args.board.now c.match-keepout_of.board =
    elim c.match-keepout_of.branch [
      | in-Some w ↦
          let this = said _ _ (sym (keepout_told _ w.in-Some.ensures)) in
          rw w.board-is (keepouts_more _ _ this l.invariant.2 w.paint.ensures)
      | in_default w ↦
          let none = no_keepout c.requires.accepted l.i (omega arith) (said _ _ refl) (none_told _ w.in_default.ensures) in
          rw w.board-is (keepouts_skip _ _ l.i none l.invariant.2)
    ] in
    (omega arith, l.invariant.1, next)

pub returns : goal.returns
unfolding in_keepout
returns c = let l = c.loop-i in let all : l.i ≡ records c.args.job.now = omega arith in rw all at l.invariant.2
