-- What a call hands back, in document 01's numbers, and its rows 1 to 5.
use Rattle.std.specs.Prelude.{ℕ, zero, suc, ◌*◌, Bool, true, false, not, ◌&&◌, cond, List, [], ◌∷◌, leb, ltb, eqb, pos, Float, length, Option, Some, None, Result, Ok, Err}
use Rattle.std.specs.Float.{fin}
use Rattle.board.specs.Limits.{largest_side}
use Rattle.board.specs.Board.{Board, is_vertex}
use Rattle.board.specs.declared.Refusal.{Refusal}
use Rattle.board.specs.declared.Refusal.TheVariants.{Side, Count, Byte, First, Second}

-- ---- what rows of the table say of a request

-- it passes, or it is refused with a number and its places, 0 where the row names none
pub data Verdict : Type 0 where
  passes : Verdict
  refused : (number place second : ℕ) → Verdict

-- one row: refused with this number and place exactly if the condition holds
abbrev pub row : (condition : Bool) → (number place : ℕ) → Verdict
row true number place = refused number place 0
row false number place = passes

-- some rows, and after them some more: the first that refuses decides
abbrev pub and_then : Verdict → Verdict → Verdict
and_then passes more = more
and_then (refused number place second) more = refused number place second

-- ---- what is handed back

-- the number and the places of the table, and the values, each 0 where its row has none
pub record Handed (Values : Type 0) : Type 0 where
  pub number : ℕ
  pub place : ℕ
  pub second : ℕ
  pub values : Values

-- an accepted request, with these values
abbrev pub answer : {Values : Type 0} → Values → Handed Values
answer values = record { number = 0; place = 0; second = 0; values = values }

-- a refusal carries its number and places and no other value; where the rows pass, the rest is handed back
abbrev pub unless : {Values : Type 0} → (none : Values) → Verdict → Handed Values → Handed Values
unless none passes rest = rest
unless none (refused number place second) rest = record { number = number; place = place; second = second; values = none }

-- what a call hands back that is refused by these rows, or that has no value to give
abbrev pub judged : {Values : Type 0} → (none : Values) → Verdict → Handed Values
judged none verdict = unless none verdict (answer none)

-- the value 0 of an f64
abbrev pub plus_zero : Float
plus_zero = fin false 0 (pos 0)

-- ---- the rows 1 to 5

-- a board may have this side
abbrev pub side_fits : ℕ → Bool
side_fits n = leb 1 n && leb n largest_side

-- row 1
abbrev pub side_row : (width height : ℕ) → Verdict
side_row width height = row (not (side_fits width && side_fits height)) 1 0

-- the index of the first byte that is not 0 or 1; the length if there is none
unfoldable pub first_bad : List ℕ → ℕ
first_bad [] = zero
first_bad (c ∷ cs) = cond (leb c 1) (suc (first_bad cs)) zero

-- the place of that byte, if there is one
abbrev pub bad_place : List ℕ → Option ℕ
bad_place cells = cond (ltb (first_bad cells) (length cells)) (Some (first_bad cells)) None

-- rows 2 and 3
abbrev pub cell_rows : Board → Verdict
cell_rows b =
    and_then (row (not (eqb (length b.cells) (b.width * b.height))) 2 0)
    (row (ltb (first_bad b.cells) (length b.cells)) 3 (first_bad b.cells))

-- rows 1 to 3
unfoldable pub board_rows : Board → Verdict
board_rows b = and_then (side_row b.width b.height) (cell_rows b)

-- rows 4 and 5
unfoldable pub end_rows : Board → (ax ay bx by : ℕ) → Verdict
end_rows b ax ay bx by = and_then (row (not (is_vertex b ax ay)) 4 0) (row (not (is_vertex b bx by)) 5 0)

-- rows 1 to 5
abbrev pub leg_rows : Board → (ax ay bx by : ℕ) → Verdict
leg_rows b ax ay bx by = and_then (board_rows b) (end_rows b ax ay bx by)

-- ---- the code's answers

-- the row of each refusal
abbrev pub refusal_row : Refusal → Verdict
refusal_row Side = refused 1 0 0
refusal_row Count = refused 2 0 0
refusal_row (Byte at) = refused 3 at 0
refusal_row First = refused 4 0 0
refusal_row Second = refused 5 0 0

-- what an answer says of a request: it passes, or its refusal has this row
abbrev pub verdict : {A E : Type 0} → (row : E → Verdict) → Result A E → Verdict
verdict row (Ok a) = passes
verdict row (Err why) = row why

-- what is handed back of an answer: its values, or the row of its refusal
abbrev pub handed : {A E Values : Type 0} → (none : Values) → (values : A → Values) → (row : E → Verdict) → Result A E → Handed Values
handed none values row (Ok a) = answer (values a)
handed none values row (Err why) = judged none (row why)
