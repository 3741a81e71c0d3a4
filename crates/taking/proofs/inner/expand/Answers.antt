use Prim.Native.Nat.{◌≤◌}
use native.Mathlib.Omega.{arith}
use Rattle.board.specs.Limits.{vertices_fit}
use Rattle.looks.proofs.Candidate.{few}
use Rattle.taking.proofs.Taking.{taking_on, taking_sited, taking_number, taking_taken}
use Rattle.taking.proofs.inner.expand.Goals as goal

pub overflow_cast-v : goal.overflow_cast-v
overflow_cast-v c = omega (arith, taking_on c.requires.taking, few c.args.request.now, vertices_fit)

pub close_vertex-requires : goal.close_vertex-requires
close_vertex-requires c =
    let T = c.requires.taking in record {
      sited = taking_sited T c.spot_of-u.ensures;
      v_value = taking_number T c.spot_of-u.ensures;
      listed = c.requires.listed_for;
      known = c.args.request.now.known;
    }

pub round-requires : goal.round-requires
round-requires c = record {
  taken = rw c.close_vertex.ensures.mark_is (taking_taken c.requires.taking c.spot_of-u.ensures c.spot_of-parent.ensures);
  tests_bound = c.requires.tests_bound;
  listed_for = c.close_vertex.ensures.listed;
}
