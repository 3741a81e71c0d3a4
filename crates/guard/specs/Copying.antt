-- What src/inner.rt writes on the way to the guarded copy. No public contract cites it, so nobody need believe this.
use Rattle.std.specs.Prelude.{ℕ, ◌+◌, ◌*◌, ◌≤◌, ◌<◌, ◌≡◌, ◌⊎◌, List, eqb, length, get_or}
use Rattle.laws.specs.Below.{as_number}
use Rattle.guard.specs.Guard.{place_of}

-- the n entries from `to` on got the cells from `from` on, and the others kept theirs
pub record Copied (cells : List ℕ) (from to n : ℕ) (before after : List ℕ) : Type 0 where
  pub long : length after ≡ length before
  pub new : (i : ℕ) → i < n → get_or after (to + i) 0 ≡ get_or cells (from + i) 0
  pub kept : (k : ℕ) → (k < to) ⊎ (to + n ≤ k) → get_or after k 0 ≡ get_or before k 0

-- the copy's place (x, y) is for a cell of the first rows
pub record Inside (width rows x y : ℕ) : Type 0 where
  pub left : 1 ≤ x
  pub right : x ≤ width
  pub top : 1 ≤ y
  pub bottom : y ≤ rows

-- the first rows of cells are in the copy, one line down and one column on, and every other place kept what it had
pub record Rows (cells : List ℕ) (width rows : ℕ) (before after : List ℕ) : Type 0 where
  pub long : length after ≡ length before
  pub new : (x y : ℕ) → x < width → y < rows → get_or after (place_of width (x + 1) (y + 1)) 0 ≡ get_or cells (y * width + x) 0
  pub kept : (x y : ℕ) → x ≤ width + 1 → (Inside width rows x y → ⊥) → get_or after (place_of width x y) 0 ≡ get_or before (place_of width x y) 0

-- each of the first n entries tells whether it was 1, and the others kept theirs
pub record Bits (n : ℕ) (before after : List ℕ) : Type 0 where
  pub long : length after ≡ length before
  pub told : (k : ℕ) → k < n → get_or after k 0 ≡ as_number (eqb (get_or before k 0) 1)
  pub kept : (k : ℕ) → n ≤ k → get_or after k 0 ≡ get_or before k 0
