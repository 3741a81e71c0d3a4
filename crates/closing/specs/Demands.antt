-- Document 01's three demands, what a search leaves in the work slices, where a path may have pinched vertices (document 02,
-- item 6), and that none means none at any angle (item 10): of what the route call hands back and leaves.
-- That every call keeps them, and every call from C: proofs/Closing.antt.
use Rattle.std.specs.Prelude.{ℕ, ◌+◌, ◌-◌, ◌*◌, ◌≤◌, ◌<◌, ◌≡◌, ◌⊎◌, ◌↔◌, ◌≢◌, true, false, List, length, take, drop}
use Rattle.board.specs.Limits.{largest_side}
use Rattle.board.specs.Board.{Board, vertices, number, column, row}
use Rattle.board.specs.Handed.{Handed}
use Rattle.legs.specs.Pinched.{pinched}
use Rattle.reach.specs.Turns.{at}
use Rattle.theta.specs.Search.{State, search, path}
use Rattle.problem.specs.Problem.{sees_from, problem, Unpinched}
use Rattle.router.specs.Answers.{Route, no_route, Slices}
use Rattle.router.specs.Demands.{Joined, Rightly}
use Rattle.routing.specs.declared.Found.{Found}

-- ---- the words of the table

-- a side outside 1 to the largest
abbrev pub WrongSide : ℕ → Type 0
WrongSide n = (n ≡ 0) ⊎ (largest_side < n)

-- i is the lowest index of a byte that is not 0 or 1
pub record FirstWrong (cells : List ℕ) (i : ℕ) : Type 0 where
  pub inside : i < length cells
  pub wrong : 1 < at cells i
  pub lowest : (j : ℕ) → j < i → at cells j ≤ 1

-- (x, y) is no vertex of the board
abbrev pub OffBoard : Board → (x y : ℕ) → Type 0
OffBoard b x y = (b.width < x) ⊎ (b.height < y)

-- g, parents, marks or legs has fewer entries than there are vertices
abbrev pub ShortWork : Board → Slices → Type 0
ShortWork b lent =
    (length lent.g < vertices b)
    ⊎ ((length lent.parents < vertices b) ⊎ ((length lent.marks < vertices b) ⊎ (length lent.legs < vertices b)))

-- single moves between visible neighbours join the start to the goal
abbrev pub HasPath : Board → (sx sy gx gy : ℕ) → Type 0
HasPath b sx sy gx gy = Joined b sx sy gx gy (number b gx gy)

-- what Basic Theta* ends with, and the path that it finds
abbrev pub ended : Board → (sx sy gx gy : ℕ) → State
ended b sx sy gx gy = (search (problem b sx sy gx gy)).state

abbrev pub the_path : Board → (sx sy gx gy : ℕ) → List ℕ
the_path b sx sy gx gy = path (problem b sx sy gx gy) (ended b sx sy gx gy)

-- ---- the table

-- one row, and the rows after it: its number, with the place of which its condition holds; where it holds of none, what comes after
pub data Row (given : ℕ) (Condition : ℕ → Type 0) (After : ℕ → ℕ → Type 0) (n place : ℕ) : Type 0 where
  holds : n ≡ given → Condition place → Row given Condition After n place
  passed : ((p : ℕ) → Condition p → ⊥) → After n place → Row given Condition After n place

-- a condition that names no place: the place is 0
abbrev pub Unplaced : Type 0 → (place : ℕ) → Type 0
Unplaced Condition place = (place ≡ 0) × Condition

-- no number and no place
abbrev pub Never : (n place : ℕ) → Type 0
Never n place = ⊥

-- the rows 7, 8 and 0, once the search has run
abbrev pub GivenBySearch : Board → (sx sy gx gy : ℕ) → (lent : Slices) → (n place : ℕ) → Type 0
GivenBySearch b sx sy gx gy lent =
    Row 7 (λ needed. (needed ≡ length (the_path b sx sy gx gy)) × HasPath b sx sy gx gy × (length lent.path < needed))
    (Row 8 (Unplaced (HasPath b sx sy gx gy → ⊥))
    (Row 0 (Unplaced (HasPath b sx sy gx gy × (length (the_path b sx sy gx gy) ≤ length lent.path))) Never))

-- the number and the place that a request is given: the first row whose condition holds decides, and one always does
abbrev pub Given : Board → (sx sy gx gy : ℕ) → (lent : Slices) → (n place : ℕ) → Type 0
Given b sx sy gx gy lent =
    Row 1 (Unplaced (WrongSide b.width ⊎ WrongSide b.height))
    (Row 2 (Unplaced (length b.cells ≢ b.width * b.height))
    (Row 3 (FirstWrong b.cells)
    (Row 4 (Unplaced (OffBoard b sx sy))
    (Row 5 (Unplaced (OffBoard b gx gy)) (Row 6 (Unplaced (ShortWork b lent)) (GivenBySearch b sx sy gx gy lent))))))

-- ---- demand 1

-- the number and the place are the table's, and no other number or place is; there is no second place; a refusal has no other value
pub record Numbered (b : Board) (sx sy gx gy : ℕ) (before : Slices) (h : Handed Route) : Type 0 where
  pub given : Given b sx sy gx gy before h.number h.place
  pub only : (n place : ℕ) → Given b sx sy gx gy before n place → (n ≡ h.number) × (place ≡ h.place)
  pub known : h.number ≤ 8
  pub second : h.second ≡ 0
  pub no_values : 0 < h.number → h.number < 8 → h.values ≡ no_route

-- the entries from n on keep their values
abbrev pub KeptFrom : ℕ → (before after : List ℕ) → Type 0
KeptFrom n before after = drop n after ≡ drop n before

-- with 1 to 6 nothing is written, with 1 to 8 no path; and whatever the number, nothing beyond the vertices or beyond the path
pub record Kept (b : Board) (before after : Slices) (h : Handed Route) : Type 0 where
  pub unwritten : 0 < h.number → h.number < 7 → after ≡ before
  pub path_unwritten : 0 < h.number → after.path ≡ before.path
  pub g_beyond : KeptFrom (vertices b) before.g after.g
  pub parents_beyond : KeptFrom (vertices b) before.parents after.parents
  pub marks_beyond : KeptFrom (vertices b) before.marks after.marks
  pub legs_beyond : KeptFrom (vertices b) before.legs after.legs
  pub path_beyond : KeptFrom h.values.vertices before.path after.path

-- ---- demand 2

-- with 0 the path slice holds the path of Basic Theta*, which is a route, rightly measured, its legs its vertices less one (router's
-- Rightly); with 0 and 8 the counts are its counts
pub record Theta (b : Board) (sx sy gx gy : ℕ) (after : Slices) (h : Handed Route) : Type 0 where
  pub path_is : h.number ≡ 0 → take h.values.vertices after.path ≡ the_path b sx sy gx gy
  pub rightly : h.number ≡ 0 → Rightly b sx sy gx gy h after.path
  pub expansions_is : (h.number ≡ 0) ⊎ (h.number ≡ 8) → h.values.expansions ≡ (ended b sx sy gx gy).expansions
  pub tests_is : (h.number ≡ 0) ⊎ (h.number ≡ 8) → h.values.tests ≡ (ended b sx sy gx gy).tests

-- ---- demand 3 is router's Exhaustive

-- ---- what the search leaves

-- the search has run
abbrev pub Searched : (n : ℕ) → Type 0
Searched n = (n ≡ 0) ⊎ ((n ≡ 7) ⊎ (n ≡ 8))

-- the work slices hold what Basic Theta* ends with; a mark is 0, 1 or 2, and an unseen vertex has g 0, parent 0 and no legs; the start
-- has no legs, and any other vertex that is seen one more than its parent; with a path the goal is open; with none nothing is open, and
-- the vertices joined to the start are expanded, and they alone
pub record Left (b : Board) (sx sy gx gy : ℕ) (after : Slices) (h : Handed Route) : Type 0 where
  pub g_is : take (vertices b) after.g ≡ (ended b sx sy gx gy).g
  pub parents_is : take (vertices b) after.parents ≡ (ended b sx sy gx gy).parent
  pub marks_is : take (vertices b) after.marks ≡ (ended b sx sy gx gy).mark
  pub legs_is : take (vertices b) after.legs ≡ (ended b sx sy gx gy).legs
  pub marks : (v : ℕ) → v < vertices b → at after.marks v ≤ 2
  pub unseen : (v : ℕ) → v < vertices b → at after.marks v ≡ 0
      → (at after.g v ≡ 0) × (at after.parents v ≡ 0) × (at after.legs v ≡ 0)
  pub start_legs : at after.legs (number b sx sy) ≡ 0
  pub seen_legs : (v : ℕ) → v < vertices b → at after.marks v ≢ 0 → v ≢ number b sx sy
      → at after.legs v ≡ at after.legs (at after.parents v) + 1
  pub goal_open : h.number ≢ 8 → at after.marks (number b gx gy) ≡ 1
  pub none_open : h.number ≡ 8 → (v : ℕ) → v < vertices b → at after.marks v ≢ 1
  pub expanded : h.number ≡ 8 → (v : ℕ) → v < vertices b → (at after.marks v ≡ 2) ↔ Joined b sx sy gx gy v

-- ---- pinched vertices (document 02, item 6)

-- with 0, of the path's vertices only the first and the last may be pinched, and no leg has a pinched vertex strictly inside it
abbrev pub KeepsClear : (b : Board) (after : Slices) (h : Handed Route) → Type 0
KeepsClear b after h = h.number ≡ 0 → Unpinched b (take h.values.vertices after.path)

-- ---- any angle (document 02, item 10)

-- the list leads from the start to the goal by legs of any lengths: its vertices are on the board, the first is the start and the
-- last the goal, each has sight of the next, and those between the first and the last are not pinched
pub record Leads (b : Board) (sx sy gx gy : ℕ) (list : List ℕ) : Type 0 where
  pub some : 0 < length list
  pub first : at list 0 ≡ number b sx sy
  pub last : at list (length list - 1) ≡ number b gx gy
  pub on_board : (i : ℕ) → i < length list → at list i < vertices b
  pub sight : (i : ℕ) → i + 1 < length list → sees_from b (at list i) (at list (i + 1)) ≡ true
  pub unpinched : (i : ℕ) → 0 < i → i + 1 < length list → pinched b (column b (at list i)) (row b (at list i)) ≡ false

-- where some list leads, an accepted request (demand 3: it gets 0 or 8) gets a path; a request that is searched gets 0, or 7 if the
-- path is longer than the path slice, and never 8; and with 0 the path slice holds a list that leads
pub record AnyAngle (b : Board) (sx sy gx gy : ℕ) (before after : Slices) (h : Handed Route) : Type 0 where
  pub path_given : (list : List ℕ) → Leads b sx sy gx gy list → (h.number ≡ 0) ⊎ (h.number ≡ 8) → h.number ≡ 0
  pub or_short : (list : List ℕ) → Leads b sx sy gx gy list → Searched h.number
      → (h.number ≡ 0) ⊎ ((h.number ≡ 7) × (length before.path < length (the_path b sx sy gx gy)))
  pub path_leads : h.number ≡ 0 → Leads b sx sy gx gy (take h.values.vertices after.path)

-- ---- for C

-- the fields of C's struct, by their names
abbrev pub fields : Found → Handed Route
fields r = record {
  number = r.number;
  place = r.place;
  second = r.second;
  values = record { cells = r.cells; units = r.units; vertices = r.vertices; legs = r.legs; expansions = r.expansions; tests = r.tests };
}
