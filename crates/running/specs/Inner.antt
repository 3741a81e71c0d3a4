-- What the call for the crate above says. The public contract cites Answers alone, so nobody need believe this.
use Rattle.std.specs.Prelude.{◌≡◌, length}
use Rattle.board.specs.Handed.{Handed}
use Rattle.theta.specs.Search.{Problem}
use Rattle.answer.specs.Answers.{Route, Slices, search_row, slices_after}

-- the search has run, and its path has been handed back
pub record Ran (p : Problem) (before after : Slices) (h : Handed Route) : Type 0 where
  pub row_is : h ≡ search_row p (length before.path)
  pub after_is : after ≡ slices_after p h.number before
