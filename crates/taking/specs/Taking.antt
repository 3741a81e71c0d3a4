-- A vertex is taken: what the contracts of the code say.
use Rattle.std.specs.Prelude.{List, ℕ}
use Rattle.theta.specs.Search.{State}
use Rattle.theta.specs.Lent.{marked, Ready}
use Rattle.problem.specs.Sizes.{largest}
use Rattle.offers.specs.declared.request.Request.{Request}
use Rattle.offers.specs.Request.{asked}

-- v can be taken: marked expanded it is ready
pub record Taking (q : Request) (v : ℕ) (s : State) : Type 0 where
  pub ready : Ready (asked q) (largest q.guarded.board.width q.guarded.board.height) v (marked v s)
