-- The cells round a vertex: which tests fall away off the border, and four cells make the number `four_cells`. Assumes nothing.
use Prim.Native.Nat.{ℕ, ◌+◌, ◌-◌, ◌≤◌}
use mathlib.Core.Path.{◌≡◌}
use mathlib.Core.Bool.{Bool, ◌||◌}
use native.Mathlib.Nat.{add-sub_cancel}
use native.Mathlib.Omega.{arith}
use borrow.Author.Tests.{ne_eqb}
use lib.Dec.{eqb}
use Rattle.laws.specs.Below.{as_number}
use Rattle.laws.proofs.Tests.{or_false}
use Rattle.laws.proofs.Below.{number_le}
use Rattle.board.specs.Board.{Board, blocked}
use Rattle.guard.specs.Guard.{shut_above}
use Rattle.glance.specs.Glance.{in_one, four_cells}

module _ (b : Board) where
  -- the test of a side that is not the border falls away
  pub shut_row : (i y : ℕ) → shut_above b (i + 1) y ≡ (eqb y 0 || blocked b i (y - 1))
  unfolding shut_above
  shut_row i y = rw (ne_eqb (i + 1) 0 (λ h. omega arith), add-sub_cancel i 1)

  pub shut_column : (x j : ℕ) → shut_above b x (j + 1) ≡ (eqb x 0 || blocked b (x - 1) j)
  unfolding shut_above
  shut_column x j = rw (ne_eqb (j + 1) 0 (λ h. omega arith), add-sub_cancel j 1, or_false (eqb x 0))

-- ---- the four cells round a vertex as numbers

pub record Four (b : Board) (x y nw ne sw se : ℕ) : Type 0 where
  pub nw_is : nw ≡ as_number (shut_above b x y)
  pub ne_is : ne ≡ as_number (shut_above b (x + 1) y)
  pub sw_is : sw ≡ as_number (shut_above b x (y + 1))
  pub se_is : se ≡ as_number (shut_above b (x + 1) (y + 1))

number_low : {n : ℕ} (t : Bool) → n ≡ as_number t → n ≤ 1
number_low t e = rw e (number_le t)

module _ {b : Board} {x y nw ne sw se : ℕ} (f : Four b x y nw ne sw se) where
  pub four_low : ((nw ≤ 1) × (ne ≤ 1)) × ((sw ≤ 1) × (se ≤ 1))
  four_low = (
    (number_low (shut_above b x y) f.nw_is, number_low (shut_above b (x + 1) y) f.ne_is),
    (number_low (shut_above b x (y + 1)) f.sw_is, number_low (shut_above b (x + 1) (y + 1)) f.se_is),
  )

  pub four_gathered : {r : ℕ} → r ≡ in_one nw ne sw se → r ≡ four_cells b x y
  unfolding four_cells
  four_gathered e = rw (e, f.nw_is, f.ne_is, f.sw_is, f.se_is)
