-- The rows of a board in a copy of blocked cells alone, and then a bit for each entry, are its guarded copy. Assumes nothing.
use Prim.Native.Nat.{ℕ, zero, suc, ◌+◌, ◌*◌, ◌-◌, ◌≤◌, ◌<◌}
use mathlib.Core.Path.{◌≡◌, refl, sym, ap, ◌∙◌}
use mathlib.Core.Logic.{⊎_elim}
use mathlib.Core.Bool.{true, false, ◌||◌}
use mathlib.Core.List.{List}
use native.Mathlib.Nat.{mul-le-mul_right, add-sub_cancel}
use native.Mathlib.Numerals.{add-one}
use native.Mathlib.Omega.{arith}
use lib.Dec.{eqb}
use lib.ListN.{get_or}
use borrow.Author.Tests.{eqb-false, ne_eqb}
use Rattle.laws.proofs.Tests.{order, bool_cases, or_neither}
use Rattle.laws.specs.Below.{as_number}
use Rattle.board.specs.Board.{Board, blocked}
use Rattle.board.proofs.Cells.{byte_is, free_cell}
use Rattle.guard.specs.Guard.{shut_above, place_of, AllShut, Guarded}
use Rattle.guard.specs.Copying.{Inside, Rows, Bits}

module _ (b : Board) where
  -- the cell left above (x, y) is on the board if it is not shut
  pub free_above : (x y : ℕ) → shut_above b x y ≡ false → Inside b.width b.height x y
  unfolding shut_above
  free_above x y free =
      let (edge, cell) = or_neither (eqb x 0 || eqb y 0) (blocked b (x - 1) (y - 1)) free in
      let (left, top) = or_neither (eqb x 0) (eqb y 0) edge in
      let f = free_cell b cell in
      let l : x ≡ 0 → ⊥ = eqb-false x 0 left in
      let t : y ≡ 0 → ⊥ = eqb-false y 0 top in
      record { left = omega arith; right = omega arith; top = omega arith; bottom = omega arith }

  -- so what is not on it is shut
  shut_outside : (x y : ℕ) → (Inside b.width b.height x y → ⊥) → shut_above b x y ≡ true
  shut_outside x y out =
      ⊎_elim (λ (h : shut_above b x y ≡ true). h) (λ (h : shut_above b x y ≡ false). absurd (out (free_above x y h)))
      (bool_cases (shut_above b x y))

  -- off the border it is the cell itself that counts
  pub shut_cell : {x y : ℕ} (i j : ℕ) → x ≡ i + 1 → y ≡ j + 1 → shut_above b x y ≡ blocked b i j
  unfolding shut_above
  shut_cell i j e f =
      rw (e, f, ne_eqb (i + 1) 0 (λ h. omega arith), ne_eqb (j + 1) 0 (λ h. omega arith), add-sub_cancel i 1, add-sub_cancel j 1)

  module _ {begun mid after : List ℕ} (k : AllShut b begun) (r : Rows b.cells b.width b.height begun mid)
      (t : Bits ((b.width + 2) * (b.height + 2)) mid after) where
    -- a place of the copy is one of the entries that become bits
    within : (x y : ℕ) → x ≤ b.width + 1 → y ≤ b.height + 1 → place_of b.width x y < (b.width + 2) * (b.height + 2)
    within x y hx hy = omega (arith, mul-le-mul_right (b.width + 2) hy)

    -- a place that is for no cell still has its 1
    around : (x y : ℕ) → x ≤ b.width + 1 → y ≤ b.height + 1 → (Inside b.width b.height x y → ⊥)
        → eqb (get_or mid (place_of b.width x y) 0) 1 ≡ shut_above b x y
    around x y hx hy out =
        let one = r.kept x y hx out ∙ k.ones (place_of b.width x y) (omega (arith, within x y hx hy, k.room)) in
        rw (one, shut_outside x y out)

    -- and one that is for a cell has its byte
    cell : (x y : ℕ) → x < b.width → y < b.height → eqb (get_or mid (place_of b.width (x + 1) (y + 1)) 0) 1 ≡ shut_above b (x + 1) (y + 1)
    cell x y hx hy = rw (r.new x y hx hy, shut_cell x y refl refl) (sym (byte_is b x y (y * b.width + x) hx hy refl))

    tells : (x y : ℕ) → x ≤ b.width + 1 → y ≤ b.height + 1 → eqb (get_or mid (place_of b.width x y) 0) 1 ≡ shut_above b x y
    tells zero y hx hy = around zero y hx hy (λ (i : Inside b.width b.height zero y). omega arith)
    tells (suc x) zero hx hy = around (suc x) zero hx hy (λ (i : Inside b.width b.height (suc x) zero). omega arith)
    tells (suc x) (suc y) hx hy =
        ⊎_elim
        (λ (l : x < b.width).
        ⊎_elim
        (λ (m : y < b.height). rw (add-one x, add-one y) at (cell x y l m))
        (λ (m : b.height ≤ y). around (suc x) (suc y) hx hy (λ (i : Inside b.width b.height (suc x) (suc y)). omega arith))
        (order y b.height))
        (λ (l : b.width ≤ x). around (suc x) (suc y) hx hy (λ (i : Inside b.width b.height (suc x) (suc y)). omega arith))
        (order x b.width)

    pub guarded : Guarded b after
    guarded = record {
      room = omega (arith, k.room, r.long, t.long);
      told = λ (x y : ℕ) (hx : x ≤ b.width + 1) (hy : y ≤ b.height + 1).
          t.told (place_of b.width x y) (within x y hx hy) ∙ ap as_number (tells x y hx hy);
    }
