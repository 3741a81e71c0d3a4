use mathlib.Core.Path.{◌≡◌, sym, ◌∙◌}
use mathlib.Core.Bool.{Bool, true, false}
use Prim.Native.Nat.{ℕ, ◌+◌}
use native.Mathlib.Omega.{arith}
use lib.ListN.{set}
use Rattle.reach.specs.Turns.{at}
use Rattle.theta.specs.Search.{Problem, State}
use Rattle.theta.specs.Lent.{state}
use Rattle.theta.proofs.Rounds.{look_due}
use Rattle.problem.specs.Problem.{problem}
use Rattle.offers.specs.Request.{asked}
use Rattle.offers.proofs.Places.{placed_below}
use Rattle.looks.proofs.Candidate.{on, few, judged, from_is, from_on, own_small, settling, settled_legs}
use Rattle.looks.proofs.inner.look.Goals as goal
use Rattle.looks.proofs.inner.look.Goals.{then-wins, else-wins}

pub bounds-marks-v : goal.bounds-marks-v
unfolding problem
bounds-marks-v c = let T = c.requires.taken in omega (arith, on T c.requires.beside, T.ready.room_m)

pub is_visible-requires-clause-judging : goal.is_visible-requires-clause-judging
is_visible-requires-clause-judging c = judged c.requires.taken c.requires.beside c.if-mark-eq2.false

pub overflow_add-own : goal.overflow_add-own
overflow_add-own c = omega (arith, own_small c.requires.taken c.requires.beside c.candidate-offer.ensures)

-- the candidate parent is one of the vertices, and so are the taken vertex and its parent: each has few legs
pub legs_by-count-requires : goal.legs_by-count-requires
unfolding problem
legs_by-count-requires c =
    let T = c.requires.taken in
    let U = placed_below T.placed in
    let F = from_on T c.requires.beside c.candidate-offer.ensures in
    let n = few c.args.request.now in
    (omega (arith, F.0, U, T.ready.room_l), omega (arith, F.0, U, n), omega (arith, F.2, T.ready.few_legs, n))

pub bounds-g-v : goal.bounds-g-v
unfolding problem
bounds-g-v c = let T = c.requires.taken in omega (arith, on T c.requires.beside, T.ready.room_g)

pub bounds-legs-v : goal.bounds-legs-v
unfolding problem
bounds-legs-v c = let T = c.requires.taken in omega (arith, on T c.requires.beside, T.ready.room_l)

pub settle-requires : goal.settle-requires
settle-requires c = record {
  settling = settling c.requires.taken c.requires.beside c.candidate-offer.ensures (sym c.wins.ensures ∙ c.if-wins.true);
  listed_for = c.requires.listed_for;
}

-- the problem that is asked
abbrev asking : goal.Joined-wins → Problem
asking k = asked k.args.request.now

-- what the slices hold
abbrev lent : goal.Joined-wins → State
lent k = let a = k.args in state a.g.now a.parents.now a.marks.now a.legs.now 0 a.tests

-- the candidate g
abbrev candidate-g : goal.Joined-wins → ℕ
candidate-g k = at k.args.g.now k.candidate-offer.result.parent + k.candidate-offer.result.units

candidate_is : (k : goal.Joined-wins) → let c = k.candidate-offer.result.parent in
    candidate-g k ≡ at k.args.g.now c + (asking k).len c k.args.w.number
candidate_is k = omega (arith, k.candidate-offer.ensures.units_are)

-- the legs are one more than the parent's
legs_are : (k : goal.Joined-wins) → k.legs_by-count.result ≡ at k.args.legs.now k.candidate-offer.result.parent + 1
legs_are k = k.legs_by-count.ensures

pub returns : goal.returns
unfolding problem
returns c =
    let a = c.args in
    let near : (asking c).near a.u.number a.w.number ≡ true = sym c.if-not-is_visible.ensures in
    let is = from_is c.requires.taken c.requires.beside c.candidate-offer.ensures in
    let looked = look_due (asking c) a.u.number a.w.number (lent c) near c.if-mark-eq2.false c.candidate-offer.result.parent (candidate-g c) c.legs_by-count.result is (candidate_is c) (legs_are c) in
    elim c.if-wins.branch [
      | then-wins w ↦ let S = w.settle.ensures in
          -- they are what is written beside the parent
          let written : w.settle.new.legs ≡ set a.legs.now a.w.number c.legs_by-count.result = S.legs_is in record {
            looked = rw (w.g-is, w.parents-is, w.marks-is, w.legs-is, S.g_is, S.parent_is, S.mark_is, settled_legs a.legs.now a.w.number {l' = w.settle.new.legs} {n = c.legs_by-count.result} written (legs_are c))
                (looked true (sym c.wins.ensures ∙ w.if-wins.true));
            listed_for_2 = rw (w.g-is, w.marks-is, w.legs-is, w.leads-is, w.keys-is) S.listed;
          }
      | else-wins w ↦ record {
        looked = rw (w.g-is, w.parents-is, w.marks-is, w.legs-is) (looked false (sym c.wins.ensures ∙ w.if-wins.false));
        listed_for_2 = rw (w.g-is, w.marks-is, w.legs-is, w.leads-is, w.keys-is) c.requires.listed_for;
      }
    ]
