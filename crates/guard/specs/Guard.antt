-- The guarded copy of a board's cells: a line of blocked cells all round it stands for the outside. No public contract cites it, so
-- nobody need believe this.
use Rattle.std.specs.Prelude.{ℕ, ◌+◌, ◌*◌, ◌-◌, ◌≤◌, ◌<◌, ◌≡◌, Bool, ◌||◌, List, eqb, length, get_or}
use Rattle.laws.specs.Below.{as_number}
use Rattle.board.specs.Board.{Board, blocked}

-- the cell left above the vertex (x, y) is blocked; what is outside counts as blocked
unfoldable pub shut_above : Board → (x y : ℕ) → Bool
shut_above b x y = (eqb x 0 || eqb y 0) || blocked b (x - 1) (y - 1)

-- where the copy has that cell, on a board of that width
abbrev pub place_of : (width x y : ℕ) → ℕ
place_of width x y = y * (width + 2) + x

-- blocked cells alone, as many as the copy needs
pub record AllShut (b : Board) (guard : List ℕ) : Type 0 where
  pub room : (b.width + 2) * (b.height + 2) ≤ length guard
  pub ones : (k : ℕ) → k < length guard → get_or guard k 0 ≡ 1

-- the copy has 1 for each cell that is blocked or outside, and 0 for each other one
pub record Guarded (b : Board) (guard : List ℕ) : Type 0 where
  pub room : (b.width + 2) * (b.height + 2) ≤ length guard
  pub told : (x y : ℕ) → x ≤ b.width + 1 → y ≤ b.height + 1 → get_or guard (place_of b.width x y) 0 ≡ as_number (shut_above b x y)
