-- The four cells round a vertex, read two by two: where the two on one side are alike it is not pinched; where they differ the
-- other two decide. Assumes nothing.
use Prim.Native.Nat.{ℕ, ◌-◌}
use mathlib.Core.Path.{◌≡◌, refl, sym}
use mathlib.Core.Bool.{Bool, true, false, ◌&&◌, beq}
use Rattle.laws.proofs.Tests.{and_false}
use Rattle.board.specs.Board.{Board, blocked}
use Rattle.legs.specs.Pinched.{on_inside, crosswise, pinched}

alike : (nw ne sw se : Bool) → beq ne se ≡ true → crosswise nw ne sw se ≡ false
alike true true true true e = refl
alike true true false true e = refl
alike false true true true e = refl
alike false true false true e = refl
alike true false sw false e = refl
alike false false sw false e = refl
alike nw true sw false e = cc
alike nw false sw true e = cc

others : (nw ne sw se : Bool) → beq ne se ≡ false → (beq nw se && beq sw ne) ≡ crosswise nw ne sw se
others true true true false e = refl
others true true false false e = refl
others false true true false e = refl
others false true false false e = refl
others true false true true e = refl
others true false false true e = refl
others false false true true e = refl
others false false false true e = refl
others nw true sw true e = cc
others nw false sw false e = cc

module _ (b : Board) (x y : ℕ) where
  -- on the border
  pub border_unpinched : on_inside b x y ≡ false → false ≡ pinched b x y
  unfolding pinched
  border_unpinched e = rw e refl

  module _ {ne se : Bool} (r₁ : ne ≡ blocked b x (y - 1)) (r₂ : se ≡ blocked b x y) where
    -- the two cells right of it are alike
    pub alike_unpinched : beq ne se ≡ true → false ≡ pinched b x y
    unfolding pinched
    alike_unpinched e =
        rw (← r₁, ← r₂)
        (sym (and_false (on_inside b x y) (alike (blocked b (x - 1) (y - 1)) ne (blocked b (x - 1) y) se e)))

    -- they differ
    pub others_decide : {nw sw : Bool} → nw ≡ blocked b (x - 1) (y - 1) → sw ≡ blocked b (x - 1) y → on_inside b x y ≡ true
        → beq ne se ≡ false → (beq nw se && beq sw ne) ≡ pinched b x y
    unfolding pinched
    others_decide {nw} {sw} r₃ r₄ i e = rw (i, ← r₁, ← r₂, ← r₃, ← r₄) (others nw ne sw se e)
