-- A wall is read from two cells of the board: where one side is outside, the other one decides. Assumes nothing.
use Prim.Native.Nat.{ℕ, ◌-◌, ◌≤◌, ◌<◌, min}
use mathlib.Core.Path.{◌≡◌}
use mathlib.Core.Logic.{⊎_elim}
use mathlib.Core.Bool.{Bool, true, false, ◌&&◌, ◌||◌, and_self, and-true}
use native.Mathlib.Omega.{arith}
use borrow.Author.Tests.{le-ltb, ne_eqb}
use lib.Dec.{ltb, eqb}
use Rattle.laws.proofs.Tests.{order, and_false}
use Rattle.board.specs.Board.{Board, blocked}
use Rattle.board.specs.Inner.{Sound}
use Rattle.legs.specs.Sight.{row_wall, column_wall}

-- what is beyond the board is blocked
module _ (b : Board) where
  outside_below : (x : ℕ) → blocked b x b.height ≡ true
  unfolding blocked
  outside_below x =
      let e : (ltb x b.width && ltb b.height b.height) ≡ false =
      and_false (ltb x b.width) (le-ltb b.height b.height (omega arith)) in
      rw e

  outside_right : (y : ℕ) → blocked b b.width y ≡ true
  unfolding blocked
  outside_right y = rw (le-ltb b.width b.width (omega arith))

-- the two sides of the vertices' line c across `lines` lines of cells, by the cells p in the line before c and q in the one behind it
module _ (line : ℕ → Bool) (c lines : ℕ) (some : 0 < lines) (on : c ≤ lines) (outside : line lines ≡ true) where
  abbrev Read : ℕ → Type 0
  Read c = (line (c - 1) && line (min c (lines - 1))) ≡ ((eqb c 0 || line (c - 1)) && line c)

  both_sides : Read c
  both_sides =
      ⊎_elim (λ (z : c < 1). first (omega arith))
      (λ (p : 1 ≤ c). ⊎_elim (λ (l : c < lines). inside (λ e. omega arith) l) (λ (g : lines ≤ c). final (omega arith)) (order c lines)) (order c 1)
    where
      first : c ≡ 0 → Read c
      first e = let m : min 0 (lines - 1) ≡ 0 = omega arith in rw (e, m) (and_self (line 0))

      inside : (c ≡ 0 → ⊥) → c < lines → Read c
      inside n l = let m : min c (lines - 1) ≡ c = omega arith in rw (ne_eqb c 0 n, m)

      final : c ≡ lines → Read c
      final e =
          let m : min lines (lines - 1) ≡ lines - 1 = omega arith in
          let z : lines ≡ 0 → ⊥ = λ h. omega arith in
          rw (e, ne_eqb lines 0 z, outside, m, and-true, and_self)

  both_read : {p q : Bool} {j k : ℕ} → p ≡ line j → q ≡ line k → j ≡ c - 1 → k ≡ min c (lines - 1) → (p && q) ≡ ((eqb c 0 || line (c - 1)) && line c)
  both_read g h e f = rw (g, h, e, f) both_sides

module _ (b : Board) (sound : Sound b) (x y : ℕ) {p q : Bool} {j k : ℕ} where
  pub row_wall_read : y ≤ b.height → p ≡ blocked b x j → q ≡ blocked b x k → j ≡ y - 1 → k ≡ min y (b.height - 1) → (p && q) ≡ row_wall b x y
  unfolding row_wall
  row_wall_read on = both_read (λ (j : ℕ). blocked b x j) y b.height sound.high on (outside_below b x)

  pub column_wall_read : x ≤ b.width → p ≡ blocked b j y → q ≡ blocked b k y → j ≡ x - 1 → k ≡ min x (b.width - 1) → (p && q) ≡ column_wall b x y
  unfolding column_wall
  column_wall_read on = both_read (λ (i : ℕ). blocked b i y) x b.width sound.wide on (outside_right b y)
