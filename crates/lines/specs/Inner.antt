-- What the private functions say to each other, and those for the crates above. No public contract cites it, so nobody need believe this.
use Rattle.std.specs.Prelude.{ℕ, ◌+◌, ◌≤◌, ◌≡◌, cond, List, [], ◌∷◌, ◌++◌, length, take, drop}
use Rattle.board.specs.Board.{column_of, row_of}
use Rattle.lines.specs.declared.Line.{Line}
use Rattle.lines.specs.declared.Line.TheVariants as Line-of
use Rattle.lines.specs.Lines.{decimal, at_word, spaced, vertex_fields, has_second, longest_line}
use Rattle.lines.specs.Answers.{bytes_of}

-- some bytes were put at a place of a slice: what it holds afterwards, and the place after them
pub record Put (bytes before : List ℕ) (at next : ℕ) (after : List ℕ) : Type 0 where
  pub next_is : next ≡ at + length bytes
  pub after_is : after ≡ take at before ++ (bytes ++ drop next before)

-- the bytes have room at that place
pub record Room (bytes before : List ℕ) (at : ℕ) : Type 0 where
  pub room : at + length bytes ≤ length before

-- a whole that two pieces make up, and three
pub record Two (whole xs ys : List ℕ) : Type 0 where
  pub parts : whole ≡ xs ++ ys

pub record Three (whole xs ys zs : List ℕ) : Type 0 where
  pub parts : whole ≡ xs ++ (ys ++ zs)

-- some bytes were counted, and are few
pub record Counted (bytes : List ℕ) (most r : ℕ) : Type 0 where
  pub count : r ≡ length bytes
  pub few : r ≤ most

-- a vertex number's column and row
pub record Placed (width v x y : ℕ) : Type 0 where
  pub column : x ≡ column_of width v
  pub row : y ≡ row_of width v

-- some text, and a number right after it
abbrev pub numbered : (text : List ℕ) → ℕ → List ℕ
numbered text n = text ++ decimal n

-- the end of the line of a net with a path
abbrev pub path_end : (width : ℕ) → (path : List ℕ) → List ℕ
path_end width path = (32 ∷ at_word) ++ (spaced (vertex_fields width path) ++ (10 ∷ []))

-- ---- the line of a refusal, as the line call takes it

abbrev pub refusing : (number place second : ℕ) → Line
refusing number place second = cond (has_second number) (Line-of.RefusedTwice number place second) (Line-of.Refused number place)

-- that line, which is short
pub record Refusing (number place second : ℕ) (r : Line) : Type 0 where
  pub line_is : r ≡ refusing number place second
  pub short : (side width : ℕ) (path : List ℕ) → length (bytes_of r width path) ≤ longest_line side
