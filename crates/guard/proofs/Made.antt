-- Blocked cells alone, as they are made for the largest board, are enough for any. Assumes nothing.
use Prim.Native.Nat.{ℕ, ◌+◌, ◌*◌, ◌≤◌}
use native.Mathlib.Nat.{mul-le-mul}
use native.Mathlib.Omega.{arith}
use lib.ListN.{replicate, length-replicate, get_or-replicate}
use Rattle.board.specs.Limits.{largest_side}
use Rattle.board.specs.Board.{Board}
use Rattle.board.specs.Inner.{Sound}
use Rattle.guard.specs.Guard.{AllShut}

-- so many are enough
pub all_shut_made : {b : Board} (n : ℕ) → (b.width + 2) * (b.height + 2) ≤ n → AllShut b (replicate n 1)
all_shut_made n room = record {
  room = rw length-replicate room;
  ones = λ k h. get_or-replicate n k 1 0 (rw length-replicate at h);
}

-- and those of the largest board are
pub copy_fits : {b : Board} → Sound b → (b.width + 2) * (b.height + 2) ≤ (largest_side + 2) * (largest_side + 2)
copy_fits {b} s =
    let narrow : b.width + 2 ≤ largest_side + 2 = omega (arith, s.narrow) in
    let low : b.height + 2 ≤ largest_side + 2 = omega (arith, s.low) in
    mul-le-mul narrow low
