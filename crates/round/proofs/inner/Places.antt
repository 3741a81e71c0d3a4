-- The places round a taken vertex and the vertices there: each near vertex has a place, and both come in the same order. Assumes nothing.
use mathlib.Core.Path.{◌≡◌, sym}
use mathlib.Core.Logic.{◌≢◌, ⊎_elim}
use mathlib.Core.Bool.{true}
use mathlib.Core.List.{List}
use Prim.Native.Nat.{ℕ, ◌+◌, ◌-◌, ◌*◌, ◌/◌, ◌%◌, ◌≤◌, ◌<◌}
use native.Mathlib.Nat.{add-mul, mul-le-mul_right}
use native.Mathlib.Omega.{arith}
use Rattle.laws.proofs.Tests.{order}
use Rattle.board.specs.Board.{Board, vertices, number_of, column_of, row_of}
use Rattle.board.proofs.Numbers.{number_below, number_back, column_on, row_on}
use Rattle.legs.specs.Leg.{far}
use Rattle.legs.proofs.Neighbours.{neighbours_near, neighbours_differ}
use Rattle.glance.specs.Glance.{InSight}
use Rattle.problem.specs.Problem.{problem}
use Rattle.offers.specs.declared.Spot.{Spot}
use Rattle.offers.specs.Request.{Placed}
use Rattle.offers.proofs.Places.{near_neighbours, near_seen, near_below}

-- the number of the vertex at the place k, from that of (x, y)
pub number_there : (width x y k : ℕ) → 1 ≤ x + k % 4 → 1 ≤ y + k / 4
    → number_of width x y + k / 4 * (width + 1) + k % 4 ≡ number_of width (x + k % 4 - 1) (y + k / 4 - 1) + (width + 2)
number_there width x y k hx hy =
    let row : y + k / 4 - 1 + 1 ≡ y + k / 4 = omega arith in
    let rows = add-mul (y + k / 4 - 1) 1 (width + 1) in
    omega (arith, rw row at rows, add-mul y (k / 4) (width + 1))

-- u sees the vertex numbered v, at the place k
pub record At (b : Board) (u : Spot) (k v : ℕ) : Type 0 where
  pub sight : InSight b u.x u.y k
  pub number_is : v ≡ number_of b.width (u.x + k % 4 - 1) (u.y + k / 4 - 1)

-- the spot that is worked out from the place is at it
pub at_there : {b : Board} {u w : Spot} {k : ℕ} → InSight b u.x u.y k
    → (w.x ≡ u.x + k % 4 - 1) × (w.y ≡ u.y + k / 4 - 1) × (w.number ≡ number_of b.width w.x w.y) → At b u k w.number
at_there sight e = record { sight = sight; number_is = rw (← e.0, ← e.1) e.2 }

pub at_below : {b : Board} {u : Spot} {k v : ℕ} → At b u k v → v < vertices b
at_below {b} A = rw A.number_is (number_below b.width b.height _ _ A.sight.on.x_on A.sight.on.y_on)

-- a later place has a greater number
pub at_order : {b : Board} {u : Spot} {i j v w : ℕ} → At b u i v → At b u j w → i < j → v < w
at_order {b} {u} {i} {j} {w = w} A B l =
    ⊎_elim
    (λ (h : i / 4 < j / 4).
    let rows : u.y + i / 4 - 1 + 1 ≤ u.y + j / 4 - 1 = omega (arith, A.sight.row_some) in
    omega (arith, A.number_is, B.number_is, A.sight.on.x_on, mul-le-mul_right (b.width + 1) rows, add-mul (u.y + i / 4 - 1) 1 (b.width + 1)))
    (λ (h : j / 4 ≤ i / 4).
    let same : j / 4 ≡ i / 4 = omega arith in
    let there : w ≡ number_of b.width (u.x + j % 4 - 1) (u.y + i / 4 - 1) = rw (← same) B.number_is in
    omega (arith, A.number_is, there, A.sight.column_some))
    (order (i / 4) (j / 4))

-- and one that is not earlier none that is less
pub at_later : {b : Board} {u : Spot} {i j v w : ℕ} → At b u i v → At b u j w → i ≤ j → v ≤ w
at_later {b} {u} {i} {j} {v} {w} A B l =
    ⊎_elim (λ (h : i < j). omega (arith, at_order A B h))
    (λ (h : j ≤ i).
    let same : j ≡ i = omega arith in
    let there : w ≡ number_of b.width (u.x + i % 4 - 1) (u.y + i / 4 - 1) = rw (← same) B.number_is in
    omega (arith, A.number_is)) (order i j)

-- a coordinate that differs by no more than 1 is so many steps behind the one before
steps : (a b : ℕ) → far a b ≤ 1 → (n : ℕ) × (n ≤ 2) × (a + n ≡ b + 1)
steps a b h = (b + 1 - a, omega arith, omega arith)

module _ (b : Board) (sx sy gx gy : ℕ) {u : Spot} (P : Placed b u) (v : ℕ) (h : (problem b sx sy gx gy).near u.number v ≡ true) where
  abbrev x : ℕ
  x = column_of b.width v

  abbrev y : ℕ
  y = row_of b.width v

  close : (far u.x x ≤ 1) × (far u.y y ≤ 1)
  close = neighbours_near u.x u.y x y (near_neighbours b sx sy gx gy P v h)

  there : (columns rows : ℕ) → columns ≤ 2 → rows ≤ 2 → u.x + columns ≡ x + 1 → u.y + rows ≡ y + 1
      → (k : ℕ) × At b u k v × (k ≢ 5)
  there columns rows few-columns few-rows across down =
      let k = 4 * rows + columns in
      let column : k % 4 ≡ columns = omega arith in
      let row : k / 4 ≡ rows = omega arith in
      let x-is : u.x + k % 4 - 1 ≡ x = rw column (omega arith) in
      let y-is : u.y + k / 4 - 1 ≡ y = rw row (omega arith) in (
        k,
        record {
          sight = record {
            column_in = rw column few-columns;
            row_in = rw row few-rows;
            column_some = rw column (omega arith);
            row_some = rw row (omega arith);
            on = record { x_on = rw x-is (column_on b.width v); y_on = rw y-is (row_on b.width b.height v (near_below b sx sy gx gy P v h)) };
            seen = rw (x-is, y-is) (near_seen b sx sy gx gy P v h);
          };
          number_is = rw (x-is, y-is) (sym (number_back b.width v));
        },
        λ e. neighbours_differ u.x u.y x y (near_neighbours b sx sy gx gy P v h) (omega arith) (omega arith),
      )

  -- each vertex that is near the taken one is at a place that is not its own
  pub near_place : (k : ℕ) × At b u k v × (k ≢ 5)
  near_place =
      let (columns, few-columns, across) = steps u.x x close.0 in
      let (rows, few-rows, down) = steps u.y y close.1 in
      there columns rows few-columns few-rows across down
