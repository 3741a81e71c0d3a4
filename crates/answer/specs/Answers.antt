-- What the route call hands back, in document 01's numbers 0 to 8, and what it leaves in the lent slices.
use Rattle.std.specs.Prelude.{ℕ, ◌≡◌, Bool, ◌||◌, cond, List, ◌++◌, ltb, eqb, Float, length, drop, Result, Ok, Err}
use Rattle.board.specs.Board.{Board, vertices}
use Rattle.board.specs.Handed.{Verdict, refused, row, and_then, Handed, answer, unless, judged, plus_zero, leg_rows, refusal_row}
use Rattle.length.specs.Floats.{in_cells}
use Rattle.reach.specs.Turns.{at}
use Rattle.theta.specs.Search.{Problem, search, path}
use Rattle.problem.specs.Problem.{problem}
use Rattle.answer.specs.declared.Answer.{Answer}
use Rattle.answer.specs.declared.Answer.TheVariants.{Found, NoPath}
use Rattle.answer.specs.declared.RequestRefusal.{RequestRefusal}
use Rattle.answer.specs.declared.RequestRefusal.TheVariants.{Request, Work, Short}

-- ---- what is handed back

-- the path's length in cells and in units, its vertices and legs, and both counts
pub record Route : Type 0 where
  pub cells : Float
  pub units : ℕ
  pub vertices : ℕ
  pub legs : ℕ
  pub expansions : ℕ
  pub tests : ℕ

abbrev pub no_route : Route
no_route = record { cells = plus_zero; units = 0; vertices = 0; legs = 0; expansions = 0; tests = 0 }

-- a path of that many units, vertices and legs, with both counts
abbrev pub found : (units vertices legs expansions tests : ℕ) → Handed Route
found units vertices legs expansions tests =
    answer (record { cells = in_cells units; units = units; vertices = vertices; legs = legs; expansions = expansions; tests = tests })

-- no path: 8 is a result, with both counts
abbrev pub none : (expansions tests : ℕ) → Handed Route
none expansions tests = record {
  number = 8;
  place = 0;
  second = 0;
  values = record { cells = plus_zero; units = 0; vertices = 0; legs = 0; expansions = expansions; tests = tests };
}

-- the row of each refusal
abbrev pub request_row : RequestRefusal → Verdict
request_row (Request why) = refusal_row why
request_row Work = refused 6 0 0
request_row (Short needed) = refused 7 needed 0

-- number, places and values of each case
abbrev pub handed_route : Result Answer RequestRefusal → Handed Route
handed_route (Ok (Found cells units vertices legs expansions tests)) =
    answer (record { cells = cells; units = units; vertices = vertices; legs = legs; expansions = expansions; tests = tests })
handed_route (Ok (NoPath expansions tests)) = none expansions tests
handed_route (Err why) = judged no_route (request_row why)

-- ---- the lent slices

pub record Slices : Type 0 where
  pub g : List ℕ
  pub parents : List ℕ
  pub marks : List ℕ
  pub legs : List ℕ
  pub path : List ℕ

abbrev pub slices : (g parents marks legs path : List ℕ) → Slices
slices g parents marks legs path = record { g = g; parents = parents; marks = marks; legs = legs; path = path }

-- ---- which a request gets

-- row 6: a work slice is shorter than the number of vertices
unfoldable pub work_row : (vertices : ℕ) → Slices → Verdict
work_row n lent =
    row (ltb (length lent.g) n || (ltb (length lent.parents) n || (ltb (length lent.marks) n || ltb (length lent.legs) n))) 6 0

-- once the search has run: row 7 or the path, which is handed back if the path slice can hold it; or 8
unfoldable pub search_row : Problem → (lent : ℕ) → Handed Route
search_row p lent =
    let s = (search p).state in
    let n = length (path p s) in
    cond (search p).found (unless no_route (row (ltb lent n) 7 n) (found (at s.g p.goal) n (at s.legs p.goal) s.expansions s.tests))
    (none s.expansions s.tests)

-- rows 1 to 5, then 6, then what the search says
unfoldable pub route_row : Board → (sx sy gx gy : ℕ) → Slices → Handed Route
route_row b sx sy gx gy lent =
    unless no_route (and_then (leg_rows b sx sy gx gy) (work_row (vertices b) lent)) (search_row (problem b sx sy gx gy) (length lent.path))

-- ---- what is left in the slices

-- the search runs for 0, 7 and 8
abbrev pub searched : (number : ℕ) → Bool
searched number = eqb number 0 || (eqb number 7 || eqb number 8)

-- the first entries are the new ones if the test passes, and the rest keep their values
abbrev pub written : Bool → (new old : List ℕ) → List ℕ
written test new old = cond test (new ++ drop (length new) old) old

-- the work slices are written if the search ran, the path slice if it found a path that fits
abbrev pub slices_after : Problem → (number : ℕ) → Slices → Slices
slices_after p number before =
    let s = (search p).state in
    record {
      g = written (searched number) s.g before.g;
      parents = written (searched number) s.parent before.parents;
      marks = written (searched number) s.mark before.marks;
      legs = written (searched number) s.legs before.legs;
      path = written (eqb number 0) (path p s) before.path;
    }

-- what the call hands back, and what the slices hold before and after it
pub record Routed (b : Board) (sx sy gx gy : ℕ) (before after : Slices) (h : Handed Route) : Type 0 where
  pub row_is : h ≡ route_row b sx sy gx gy before
  pub after_is : after ≡ slices_after (problem b sx sy gx gy) h.number before
