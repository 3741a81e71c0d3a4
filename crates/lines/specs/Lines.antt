-- The lines that the route program prints, as bytes: fields with one space between them, and a newline at the end.
use Rattle.std.specs.Prelude.{ℕ, zero, suc, ◌+◌, ◌*◌, ◌/◌, ◌%◌, max, Bool, ◌||◌, cond, List, [], ◌∷◌, ◌++◌, map, ltb, eqb, length}
use Rattle.board.specs.Board.{column_of, row_of}

-- ---- a number as decimal digits, without leading zeros

-- the byte of a digit
abbrev pub digit : ℕ → ℕ
digit d = 48 + d

-- the digits of n, if it has no more than the most asked for: those of n / 10, if there are any, and its last
unfoldable pub digits_up_to : (most n : ℕ) → List ℕ
digits_up_to zero n = []
digits_up_to (suc most) n = let longer = digits_up_to most (n / 10) ++ (digit (n % 10) ∷ []) in cond (ltb n 10) (digit n ∷ []) longer

-- n has at most n + 1 digits
unfoldable pub decimal : ℕ → List ℕ
decimal n = digits_up_to (suc n) n

-- a number of 64 bits has at most this many
abbrev pub most_digits : ℕ
most_digits = 20

-- ---- words and fields

abbrev pub net : List ℕ
net = 110 ∷ 101 ∷ 116 ∷ []

abbrev pub path_word : List ℕ
path_word = 112 ∷ 97 ∷ 116 ∷ 104 ∷ []

abbrev pub none : List ℕ
none = 110 ∷ 111 ∷ 110 ∷ 101 ∷ []

abbrev pub expanded : List ℕ
expanded = 101 ∷ 120 ∷ 112 ∷ 97 ∷ 110 ∷ 100 ∷ 101 ∷ 100 ∷ []

abbrev pub tests_word : List ℕ
tests_word = 116 ∷ 101 ∷ 115 ∷ 116 ∷ 115 ∷ []

abbrev pub at_word : List ℕ
at_word = 97 ∷ 116 ∷ []

abbrev pub refused : List ℕ
refused = 114 ∷ 101 ∷ 102 ∷ 117 ∷ 115 ∷ 101 ∷ 100 ∷ []

-- a vertex as x,y, by its number and the board's width, which counts as 1 if it is 0
unfoldable pub vertex_field : (width v : ℕ) → List ℕ
vertex_field width v = decimal (column_of (max width 1) v) ++ (44 ∷ decimal (row_of (max width 1) v))

-- fields, each after one space
abbrev pub spaced : List (List ℕ) → List ℕ
spaced [] = []
spaced (f ∷ fs) = 32 ∷ (f ++ spaced fs)

-- fields with one space between them, and a newline
abbrev pub line : (first : List ℕ) → (more : List (List ℕ)) → List ℕ
line first more = first ++ (spaced more ++ (10 ∷ []))

-- ---- the lines

-- the fields of a path's vertices
abbrev pub vertex_fields : (width : ℕ) → (path : List ℕ) → List (List ℕ)
vertex_fields width path = map (vertex_field width) path

-- a net with a path
unfoldable pub net_line : (number units expansions tests width : ℕ) → (path : List ℕ) → List ℕ
net_line number units expansions tests width path =
    line net
    (decimal number ∷ path_word ∷ decimal units ∷ expanded ∷ decimal expansions ∷ tests_word ∷ decimal tests ∷ at_word
    ∷ vertex_fields width path)

-- a net without a path
unfoldable pub none_line : (number expansions tests : ℕ) → List ℕ
none_line number expansions tests =
    line net (decimal number ∷ none ∷ expanded ∷ decimal expansions ∷ tests_word ∷ decimal tests ∷ [])

-- a refusal, with one place or with two
unfoldable pub refused_line : (number place : ℕ) → List ℕ
refused_line number place = line refused (decimal number ∷ at_word ∷ decimal place ∷ [])

unfoldable pub refused_twice_line : (number place second : ℕ) → List ℕ
refused_twice_line number place second = line refused (decimal number ∷ at_word ∷ decimal place ∷ decimal second ∷ [])

-- the refusals that name a second place: 23, an unused byte; 26, a vertex off the board, and 27, a wrong leg, both in a path
unfoldable pub has_second : (number : ℕ) → Bool
has_second number = eqb number 23 || (eqb number 26 || eqb number 27)

-- a refusal: its number and its place, and its second place where it names one
unfoldable pub refusal_line : (number place second : ℕ) → List ℕ
refusal_line number place second = cond (has_second number) (refused_twice_line number place second) (refused_line number place)

-- ---- how long a line can be

-- these bytes suffice for every line of a route on a board with sides up to this: words, spaces and newline, four numbers, and
-- for each vertex a space, a comma and two coordinates
unfoldable pub longest_line : (side : ℕ) → ℕ
longest_line side = 31 + 4 * most_digits + (2 + 2 * length (decimal side)) * ((side + 1) * (side + 1))
