-- A cell by the byte at its index, and that a free one is on the board. Assumes nothing.
use Prim.Native.Nat.{ℕ, ◌+◌, ◌*◌, ◌<◌}
use mathlib.Core.Path.{◌≡◌}
use mathlib.Core.Bool.{Bool, true, false, not}
use borrow.Author.Tests.{lt-ltb, ltb-true, not-false}
use lib.Dec.{ltb, eqb}
use lib.ListN.{get_or}
use Rattle.laws.proofs.Tests.{and_left, and_right, or_neither}
use Rattle.board.specs.Board.{Board, is_cell, blocked}

-- a cell of the board is blocked exactly if the byte at its index is 1
pub byte_is : (b : Board) (x y i : ℕ) → x < b.width → y < b.height → i ≡ y * b.width + x → blocked b x y ≡ eqb (get_or b.cells i 0) 1
unfolding blocked
byte_is b x y i hx hy e = rw (lt-ltb x b.width hx, lt-ltb y b.height hy, e)

-- a cell that is not blocked is on the board, since the outside is
pub free_cell : (b : Board) {x y : ℕ} → blocked b x y ≡ false → (x < b.width) × (y < b.height)
unfolding blocked
free_cell b {x} {y} free =
    let p : Bool = ltb x b.width in
    let q : Bool = ltb y b.height in
    let c : is_cell b x y ≡ true = not-false (is_cell b x y) (or_neither (not (is_cell b x y)) _ free).0 in
    (ltb-true x b.width (and_left p q c), ltb-true y b.height (and_right p q c))
