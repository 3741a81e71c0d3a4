-- Which table has the lengths of a board, by its sides. Assumes nothing.
use mathlib.Core.Path.{◌≡◌}
use mathlib.Core.Bool.{true, ◌&&◌}
use mathlib.Core.List.{List}
use Prim.Native.Nat.{ℕ, ◌+◌, ◌*◌, ◌≤◌}
use native.Mathlib.Nat.{mul-le-mul}
use native.Mathlib.Omega.{arith}
use lib.Dec.{leb}
use borrow.Author.Tests.{leb-true}
use Rattle.laws.proofs.Tests.{and_left, and_right}
use Rattle.table.specs.Lengths.{sums_of, Known}
use Rattle.table.proofs.Table.{known_less}

-- both sides pass the test
pub sides_within : (width height side : ℕ) → (leb width side && leb height side) ≡ true → (width ≤ side) × (height ≤ side)
sides_within width height side t =
    let a = leb width side in
    let b = leb height side in
    (leb-true width side (and_left a b t), leb-true height side (and_right a b t))

-- then the table that is made for such sides has the board's lengths
pub known_board : {side : ℕ} {table : List ℕ} → Known (sums_of side) table → (width height : ℕ) → (width ≤ side) × (height ≤ side)
    → Known (width * width + height * height) table
known_board K width height s = known_less K (width * width + height * height) (omega (arith, mul-le-mul s.0 s.0, mul-le-mul s.1 s.1))
