-- The table of lengths: one test that computes, made at each entry, says that the table is right. Assumes nothing.
use mathlib.Core.Path.{◌≡◌, sym, ap, ◌∙◌}
use mathlib.Core.Logic.{◌⊎◌, inl, inr}
use mathlib.Core.Bool.{Bool, true, false, ◌&&◌}
use mathlib.Core.List.{List, [], ◌∷◌}
use Prim.Native.Nat.{ℕ, zero, suc, ◌+◌, ◌*◌, ◌^◌, ◌≤◌, ◌<◌, min}
use native.Mathlib.Nat.{add-zero, zero-add, add-suc, suc-add, le_of_suc-le-suc, not-suc-le-zero}
use native.Mathlib.Omega.{arith}
use lib.Dec.{T, leb, ltb, leb→le, ltb→lt}
use lib.ListN.{length, get_or}
use borrow.Author.Tests.{leb-true, leb-false, le-leb}
use Rattle.laws.proofs.Tests.{order, and_left, and_right}
use Rattle.board.specs.Limits.{largest_side}
use Rattle.spans.specs.Legs.{step}
use Rattle.length.specs.Units.{square, units_of}
use Rattle.root.proofs.Root.{below, next}
use Rattle.length.proofs.Units.{units_one, units_bounds}
use Rattle.table.specs.Lengths.{squares, Known}
use Rattle.table.proofs.Squares.{square_most}

-- a leg that is not beyond the table has a place
pub has_place : (largest s : ℕ) → s ≤ largest → (leb squares largest && leb squares s) ≡ false → s < squares
has_place largest s l e = go (order largest squares)
  where
    go : (largest < squares) ⊎ (squares ≤ largest) → s < squares
    go (inl h) = omega arith
    go (inr h) = leb-false squares s (rw (le-leb squares largest h) at e)

-- a length of the table is small
pub known_small : (s : ℕ) → s < squares → units_of s < 2 ^ 32
known_small s l = let b = units_bounds s in omega (arith, below (units_of s) (2 ^ 27) (s * 2 ^ 40) b.low (omega arith))

-- ---- a guess that passes the test is the length

pub tested : (s u : ℕ) → (leb (u * u) (s * 2 ^ 40) && leb (s * 2 ^ 40) (u * u + 2 * u)) ≡ true → u ≡ units_of s
tested s u e =
    let low = leb-true (u * u) (s * 2 ^ 40) (and_left (leb (u * u) (s * 2 ^ 40)) (leb (s * 2 ^ 40) (u * u + 2 * u)) e) in
    let high = leb-true (s * 2 ^ 40) (u * u + 2 * u) (and_right (leb (u * u) (s * 2 ^ 40)) (leb (s * 2 ^ 40) (u * u + 2 * u)) e) in
    units_one s u (record { low = low; high = omega (arith, high, next u) })

-- ---- a test at each entry

abbrev both : Bool → Bool → Bool
both true b = b
both false b = false

both_left : (a b : Bool) → T (both a b) → T a
both_left true b t = tt
both_left false b t = t

both_right : (a b : Bool) → T (both a b) → T b
both_right true b t = t
both_right false b t = absurd t

-- u is the length of s
abbrev fits : ℕ → ℕ → Bool
fits s u = both (leb (u * u) (s * 2 ^ 40)) (ltb (s * 2 ^ 40) ((u + 1) * (u + 1)))

fits_is : (s u : ℕ) → T (fits s u) → u ≡ units_of s
fits_is s u t =
    let a = leb (u * u) (s * 2 ^ 40) in
    let b = ltb (s * 2 ^ 40) ((u + 1) * (u + 1)) in
    units_one s u (record { low = leb→le (u * u) (s * 2 ^ 40) (both_left a b t); high = ltb→lt (s * 2 ^ 40) ((u + 1) * (u + 1)) (both_right a b t) })

-- each entry is the length of its place, counted from s
abbrev pub each : ℕ → List ℕ → Bool
each s [] = true
each s (u ∷ l) = both (fits s u) (each (suc s) l)

from : (l : List ℕ) (s : ℕ) → T (each s l) → (k : ℕ) → k < length l → get_or l k 0 ≡ units_of (s + k)
from [] s t k h = absurd (not-suc-le-zero h)
from (u ∷ l) s t zero h = rw (add-zero s) (fits_is s u (both_left (fits s u) (each (suc s) l) t))
from (u ∷ l) s t (suc k) h = rw (sym (suc-add s k ∙ sym (add-suc s k))) (from l (suc s) (both_right (fits s u) (each (suc s) l) t) k (le_of_suc-le-suc h))

pub known_each : (most : ℕ) (l : List ℕ) → min (most + 1) squares ≤ length l → T (each 0 l) → Known most l
known_each most l r t = record { room = r; right = λ s h. from l 0 t s h ∙ ap units_of (zero-add s) }

-- ---- which table is enough

pub known_less : {most : ℕ} {l : List ℕ} → Known most l → (s : ℕ) → s ≤ most → Known s l
known_less K s h = record { room = omega (arith, K.room); right = K.right }

-- the large table, for any board
pub known_any : {l : List ℕ} → Known squares l → (s : ℕ) → Known s l
known_any K s = record { room = omega (arith, K.room); right = K.right }

-- a leg between vertices of a board: what `units_between` requires
pub known_leg : {width height : ℕ} {l : List ℕ} {ax ay bx by : ℕ} → Known (width * width + height * height) l
    → (width ≤ largest_side) × (height ≤ largest_side) → (ax ≤ width) × (ay ≤ height) × (bx ≤ width) × (by ≤ height)
    → ((ax ≤ largest_side) × (ay ≤ largest_side) × (bx ≤ largest_side) × (by ≤ largest_side)) × Known (square (step ax bx) (step ay by)) l
known_leg {width} {height} {l} {ax} {ay} {bx} {by} K sides (p, q, r, s) = (
  omega (arith, sides),
  known_less K (square (step ax bx) (step ay by)) (omega (arith, square_most ax bx width p r, square_most ay by height q s)),
)
