-- What the call for the crates above says. The public contract cites Answers alone, so nobody need believe this.
use Rattle.std.specs.Prelude.{ℕ, ◌≡◌, List, ltb, eqb, length}
use Rattle.board.specs.Handed.{Handed, row, unless}
use Rattle.theta.specs.Search.{trail}
use Rattle.answer.specs.Answers.{Route, no_route, found, written}

-- the path from the start to the goal, as the parents have it
abbrev pub path_of : (start goal : ℕ) → (parents : List ℕ) → List ℕ
path_of start goal parents = trail start parents (length parents) goal

-- that path is handed back, or 7 if the lent slice cannot hold it, and written exactly if it is handed back
pub record PathGiven (start goal units legs expansions tests : ℕ) (parents path path' : List ℕ) (h : Handed Route) : Type 0 where
  pub path_is : path' ≡ written (eqb h.number 0) (path_of start goal parents) path
  pub row_is : h ≡ unless no_route (row (ltb (length path) (length (path_of start goal parents))) 7 (length (path_of start goal parents)))
      (found units (length (path_of start goal parents)) legs expansions tests)
