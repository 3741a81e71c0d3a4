-- Document 01's board is a fair problem, whose legs are bounded: what the theory of the search asks for. Assumes nothing.
use Prim.Native.Nat.{ℕ}
use Rattle.board.specs.Board.{Board, number, column, row}
use Rattle.board.specs.Inner.{OnBoard}
use Rattle.board.proofs.Numbers.{number_below, column_on, row_on}
use Rattle.legs.proofs.Visible.{visible_below, visible_sees, visible_symmetric, visible_irreflexive}
use Rattle.theta.specs.Fair.{Fair, FairLegs}
use Rattle.problem.specs.Problem.{problem}
use Rattle.problem.specs.Sizes.{longest}
use Rattle.problem.proofs.Sizes.{leg_longest}

module _ (b : Board) (sx sy gx gy : ℕ) where
  pub board_fair : OnBoard b sx sy → Fair (problem b sx sy gx gy)
  unfolding problem
  board_fair S = record {
    ground = record {
      near_laws = record {
        symmetric = visible_symmetric b (number b sx sy) (number b gx gy);
        irreflexive = visible_irreflexive b (number b sx sy) (number b gx gy);
        below = visible_below b (number b sx sy) (number b gx gy);
      };
      start_on = number_below b.width b.height sx sy S.x_on S.y_on;
    };
  }

  pub board_legs : FairLegs (problem b sx sy gx gy) (longest b.width b.height)
  unfolding problem
  board_legs = record {
    near_sees = visible_sees b (number b sx sy) (number b gx gy);
    at_most = λ u v l h.
        leg_longest b.width b.height (column b u) (row b u) (column b v) (row b v) (column_on b.width u)
        (row_on b.width b.height u l) (column_on b.width v) (row_on b.width b.height v h);
  }
