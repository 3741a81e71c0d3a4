use Prim.Native.Nat.{◌≤◌}
use native.Mathlib.Omega.{arith}
use Rattle.theta.specs.Lent.{state}
use Rattle.offers.specs.Request.{board_of, size_of}
use Rattle.looks.proofs.Candidate.{few}
use Rattle.round.proofs.inner.Places.{at_there, at_below}
use Rattle.round.proofs.inner.Passed.{passed_none, passed_all, left_sight, passed_before, passed_more, still_taken, few_tests}
use Rattle.round.proofs.inner.round.Goals as goal

pub loop-place-init : goal.loop-place-init
loop-place-init c =
    let a = c.args in
    let began = state a.g.now a.parents.now a.marks.now a.legs.now 0 a.tests in
    (rw c.into_iter-place-iterator.ensures.into_iter_gives (passed_none began c.sighted-seen.ensures), c.requires.listed_for)

pub spot_at-w-requires-clause-k_bound : goal.spot_at-w-requires-clause-k_bound
spot_at-w-requires-clause-k_bound c =
    let S = left_sight c.requires.taken c.loop-place.invariant.0 c.in-Some.ensures.steps.0 in
    (S.row_in, S.column_some, S.row_some)

-- ---- the vertex that is looked at: all before it have been passed

pub look-t-requires-clause-taken : goal.look-t-requires-clause-taken
look-t-requires-clause-taken c =
    let T = c.requires.taken in
    let P = c.loop-place.invariant.0 in
    let L = c.in-Some.ensures.steps.0 in
    let A = at_there {b = board_of c.args.request.now} {w = c.spot_at-w.result} (left_sight T P L) c.spot_at-w.ensures in
    still_taken T (passed_before T P L A) (omega (arith, at_below A))

pub look-t-requires-clause-beside : goal.look-t-requires-clause-beside
look-t-requires-clause-beside c =
    let S = left_sight c.requires.taken c.loop-place.invariant.0 c.in-Some.ensures.steps.0 in
    let e = c.spot_at-w.ensures in
    record {
      placed = record { on = rw (e.0, e.1) S.on; numbered = e.2 };
      left = omega (arith, e.0, S.column_in);
      right = omega (arith, e.0, S.column_in);
      above = omega (arith, e.1, S.row_in);
      below = omega (arith, e.1, S.row_in);
      seen = rw (e.0, e.1) S.seen;
    }

pub look-t-requires-clause-tests_bound : goal.look-t-requires-clause-tests_bound
look-t-requires-clause-tests_bound c =
    let T = c.requires.taken in
    let P = c.loop-place.invariant.0 in
    let L = c.in-Some.ensures.steps.0 in
    let A = at_there {b = board_of c.args.request.now} {w = c.spot_at-w.result} (left_sight T P L) c.spot_at-w.ensures in
    let l : c.spot_at-w.result.number ≤ size_of c.args.request.now = omega (arith, at_below A) in
    omega (arith, few_tests T (passed_before T P L A) l, c.requires.tests_bound, l, few c.args.request.now)

pub loop-place-preserved : goal.loop-place-preserved
loop-place-preserved c =
    let T = c.requires.taken in
    let P = c.loop-place.invariant.0 in
    let (L, W) = c.in-Some.ensures.steps in
    let A = at_there {b = board_of c.args.request.now} {w = c.spot_at-w.result} (left_sight T P L) c.spot_at-w.ensures in
    let l = c.look-t.new in (
      passed_more T P L A {after = state l.g l.parents l.marks l.legs 0 c.look-t.result} W (at_below A) c.look-t.ensures.looked,
      c.look-t.ensures.listed_for_2,
    )

-- ---- no place is left: all have been passed

pub returns-clause-rounded : goal.returns-clause-rounded
returns-clause-rounded c = passed_all c.requires.taken c.loop-place.invariant.0 c.in-None.ensures.steps.0
