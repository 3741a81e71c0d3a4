-- What a search reaches is admitted; so of a path's vertices only the first and the last may be pinched. Assumes nothing.
use mathlib.Core.Path.{◌≡◌, sym, ◌∙◌}
use mathlib.Core.Logic.{◌≢◌}
use mathlib.Core.Bool.{true, false}
use Prim.Native.Nat.{ℕ}
use borrow.Author.Tests.{not-true}
use Rattle.board.specs.Board.{Board, column, row}
use Rattle.reach.specs.Reach.{Reach, here, move}
use Rattle.legs.specs.Pinched.{pinched, admitted}
use Rattle.legs.specs.Neighbours.{visible}
use Rattle.legs.proofs.Visible.{visible_admitted, start_admitted, other_admitted}

module _ (b : Board) (start goal : ℕ) where
  pub reached_admitted : {v : ℕ} → Reach (visible b start goal) start v → admitted b start goal v ≡ true
  reached_admitted here = start_admitted b start goal
  reached_admitted (move {u} {v} r e) = visible_admitted b start goal u v e

  -- and one that is neither end is not pinched
  pub reached_unpinched : (v : ℕ) → Reach (visible b start goal) start v → v ≢ start → v ≢ goal
      → pinched b (column b v) (row b v) ≡ false
  reached_unpinched v r s g =
      not-true (pinched b (column b v) (row b v)) (sym (other_admitted b start goal v s g) ∙ reached_admitted r)
