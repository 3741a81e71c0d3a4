use mathlib.Core.Path.{ap, ◌∙◌}
use Prim.Native.Nat.{ℕ, ◌+◌}
use native.Mathlib.Omega.{arith}
use Rattle.tracks.specs.Inner.{records_for}
use Rattle.tally.proofs.Parts.{records_few}
use Rattle.tally.proofs.Measuring.{judged_none, low_refused, long_refused, judged_more, judged_all}
use Rattle.tally.proofs.inner.measure.Goals as goal

pub loop-k-init : goal.loop-k-init
loop-k-init c = (omega arith, omega arith, omega arith, λ xs ys. judged_none _)

pub returns-then-net-last : goal.returns-then-net-last
returns-then-net-last c = λ xs ys. low_refused (c.loop-k.invariant.3 xs ys) c.loop-k-test.true c.if-net-last.true

pub returns-then-count-gt-PLACES : goal.returns-then-count-gt-PLACES
returns-then-count-gt-PLACES c =
    λ xs ys. long_refused (c.loop-k.invariant.3 xs ys) c.loop-k-test.true c.if-net-last.false (omega (arith, c.if-count-gt-PLACES.true, c.count_of-count.ensures))

pub loop-k-preserved : goal.loop-k-preserved
loop-k-preserved c =
    let l = c.loop-k in
    let few = records_few c.count_of-count.result c.if-count-gt-PLACES.false in
    let records-is = ap (λ (n : ℕ). l.records + n) (c.records_for-records.ensures ∙ ap records_for c.count_of-count.ensures) in
    let points-is = ap (λ (n : ℕ). l.points + n) c.count_of-count.ensures in (
      omega (arith, few, c.records_for-records.ensures),
      omega arith,
      omega (arith, c.type_inv.nets l.k),
      λ xs ys. judged_more (l.invariant.3 xs ys) c.loop-k-test.true c.if-net-last.false (omega (arith, c.if-count-gt-PLACES.false, c.count_of-count.ensures)) records-is points-is,
    )

pub returns : goal.returns
returns c =
    let l = c.loop-k in
    λ xs ys. judged_all (l.invariant.3 xs ys) (omega arith) (omega arith)
