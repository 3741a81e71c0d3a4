-- The four cells round a vertex in the guarded copy: it has their numbers, and their places are in it. Assumes nothing.
use Prim.Native.Nat.{ℕ, ◌+◌, ◌*◌, ◌≤◌, ◌<◌}
use mathlib.Core.Path.{◌≡◌, refl}
use mathlib.Core.List.{List}
use native.Mathlib.Nat.{mul-le-mul_left}
use native.Mathlib.Omega.{arith}
use lib.ListN.{length, get_or}
use Rattle.laws.specs.Below.{as_number}
use Rattle.board.specs.Limits.{largest_side}
use Rattle.board.specs.Board.{Board}
use Rattle.board.specs.Inner.{Sound, OnBoard}
use Rattle.guard.specs.Guard.{shut_above, place_of, Guarded}
use Rattle.guard.proofs.Made.{copy_fits}
use Rattle.glance.proofs.Cells.{Four}

-- the cell left above (x, y) stands at `place_of`, and this far on the one left below
abbrev below : (width x y : ℕ) → ℕ
below width x y = place_of width x y + width + 2

-- what the copy has at the four places is the four cells
abbrev pub FourThere : Board → List ℕ → (x y : ℕ) → Type 0
FourThere b guard x y =
    let at = place_of b.width x y in
    let under = below b.width x y in
    Four b x y (get_or guard at 0) (get_or guard (at + 1) 0) (get_or guard under 0) (get_or guard (under + 1) 0)

-- the last of the places is in the copy, and none is more than the largest board's copy has
abbrev pub LastIn : Board → List ℕ → (x y : ℕ) → Type 0
LastIn b guard x y = let last = below b.width x y + 1 in (last < length guard) × (last < (largest_side + 2) * (largest_side + 2))

module _ {b : Board} {guard : List ℕ} {x y : ℕ} (g : Guarded b guard) (on : OnBoard b x y) where
  one_copied : (p q k : ℕ) → p ≤ x + 1 → q ≤ y + 1 → k ≡ place_of b.width p q → get_or guard k 0 ≡ as_number (shut_above b p q)
  one_copied p q k h l e = rw e (g.told p q (omega arith) (omega arith))

  pub four_copied : FourThere b guard x y
  four_copied = record {
    nw_is = one_copied x y (place_of b.width x y) (omega arith) (omega arith) refl;
    ne_is = one_copied (x + 1) y (place_of b.width x y + 1) (omega arith) (omega arith) (omega arith);
    sw_is = one_copied x (y + 1) (below b.width x y) (omega arith) (omega arith) (omega arith);
    se_is = one_copied (x + 1) (y + 1) (below b.width x y + 1) (omega arith) (omega arith) (omega arith);
  }

  pub last_in : Sound b → LastIn b guard x y
  last_in s = (omega (arith, within), omega (arith, within, copy_fits s))
    where
      within : below b.width x y + 1 < (b.width + 2) * (b.height + 2)
      within = let rows : y + 2 ≤ b.height + 2 = omega arith in omega (arith, mul-le-mul_left (b.width + 2) rows)
