-- What the calls for the crates above may rely on. No public contract cites it, so nobody need believe this.
use Rattle.std.specs.Prelude.{ℕ, ◌*◌, ◌/◌, ◌%◌, ◌≤◌, ◌≡◌, List, eqb, length, get_or}
use Rattle.laws.specs.Below.{how_many}
use Rattle.board.specs.Limits.{largest_side}
use Rattle.bits.specs.Packed.{packed_bytes, bit_at}

-- the sides fit
pub record Sides (width height : ℕ) : Type 0 where
  pub wide : 1 ≤ width
  pub narrow : width ≤ largest_side
  pub low : height ≤ largest_side

-- what the checks 1 and 29 leave
pub record Sized (packed : List ℕ) (width height : ℕ) : Type 0 where
  pub sides : Sides width height
  pub full : length packed ≡ packed_bytes width height

-- each cell is 0 or 1
pub record Bits (cells : List ℕ) : Type 0 where
  pub bit : (k : ℕ) → get_or cells k 0 ≤ 1

-- how many bits of all the bytes are 1
unfoldable pub set_bits : List ℕ → ℕ
set_bits packed = how_many (length packed * 8) (λ (j : ℕ). eqb (bit_at (get_or packed (j / 8) 0) (j % 8)) 1)
