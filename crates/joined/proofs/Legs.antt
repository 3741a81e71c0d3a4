-- The ends of a leg with sight are joined by single moves between visible neighbours: a slanted leg over the nearer corners of the
-- cells that it crosses, a level or upright one edge by edge. Assumes nothing.
use Prim.Native.Nat.{ℕ, ◌+◌, ◌-◌, ◌*◌, ◌≤◌, ◌<◌}
use mathlib.Core.Path.{◌≡◌, refl, subst}
use mathlib.Core.Logic.{⊎_elim}
use mathlib.Core.Bool.{true, false}
use native.Mathlib.Omega.{arith}
use Rattle.laws.proofs.Tests.{order, false_of}
use Rattle.board.specs.Board.{Board, blocked, number, column, row}
use Rattle.board.specs.Inner.{OnBoard}
use Rattle.board.proofs.Numbers.{column_number, row_number}
use Rattle.reach.specs.Reach.{Reach, here, move}
use Rattle.legs.specs.Pinched.{pinched, admitted}
use Rattle.legs.specs.Sight.{row_wall, column_wall, strictly_inside, sees}
use Rattle.legs.specs.Leg.{far, vertex_at, cell_at}
use Rattle.legs.specs.Neighbours.{visible}
use Rattle.legs.specs.Nearer.{cell, level, upright}
use Rattle.legs.specs.Inner.{EndsOn}
use Rattle.legs.proofs.Corners.{CornerOf}
use Rattle.legs.proofs.Axis.{axis_near, axis_next, axis_on, vertex_start, vertex_end}
use Rattle.legs.proofs.Crossing.{Crosses, cross_in}
use Rattle.legs.proofs.Inside.{inside_in, inside_level, inside_upright}
use Rattle.legs.proofs.Seen.{inside_unpinched, sees_unblocked}
use Rattle.legs.proofs.UnitEdges.{edge_low, edge_at}
use Rattle.legs.proofs.Visible.{unpinched_admitted}
use Rattle.joined.proofs.Steps.{by_steps, Keeps, every_crossed}
use Rattle.joined.proofs.Moves.{Move, move_visible, level_move, upright_move, corner_move}
use Rattle.joined.proofs.Shared.{beside_unpinched, above_unpinched}

-- the vertices s and s + 1 steps along an axis are 1 apart
one_apart : (p q s : ℕ) → s < far p q → far (vertex_at p q s) (vertex_at p q (s + 1)) ≡ 1
one_apart p q s h = omega (arith, (edge_at p q s h).unit)

-- the last cell is crossed
last_crossed : (n m u v : ℕ) → u + 1 ≡ n → v + 1 ≡ m → Crosses n m u v
last_crossed n m u v e f = rw (← e, ← f) (omega arith, omega arith)

module _ (b : Board) (start goal ax ay bx by : ℕ) (on : EndsOn b ax ay bx by) (seen : sees b ax ay bx by ≡ true) where
  abbrev n : ℕ
  n = far ax bx

  abbrev m : ℕ
  m = far ay by

  -- the vertices and the cells of its columns and of its rows
  abbrev X : ℕ → ℕ
  X = vertex_at ax bx

  abbrev Y : ℕ → ℕ
  Y = vertex_at ay by

  abbrev I : ℕ → ℕ
  I = cell_at ax bx

  abbrev J : ℕ → ℕ
  J = cell_at ay by

  -- ---- what sight says of it

  crossed_free : (u v : ℕ) → u < n → v < m → Crosses n m u v → blocked b (I u) (J v) ≡ false
  crossed_free u v hu hv c =
      false_of (blocked b (I u) (J v)) (λ w. sees_unblocked b ax ay bx by on seen _ (cell (cross_in ax ay bx by u v hu hv c) w))

  row_open : ay ≡ by → (u : ℕ) → u < n → row_wall b (I u) ay ≡ false
  row_open e u l =
      false_of (row_wall b (I u) ay) (λ w. sees_unblocked b ax ay bx by on seen _ (level e (edge_at ax bx u l) (rw (edge_low ax bx u l) w)))

  column_open : ax ≡ bx → (v : ℕ) → v < m → column_wall b ax (J v) ≡ false
  column_open e v l =
      false_of (column_wall b ax (J v)) (λ w. sees_unblocked b ax ay bx by on seen _ (upright e (edge_at ay by v l) (rw (edge_low ay by v l) w)))

  inner_unpinched : (x y : ℕ) → strictly_inside ax ay bx by x y ≡ true → pinched b x y ≡ false
  inner_unpinched x y i = false_of (pinched b x y) (inside_unpinched b ax ay bx by seen x y i)

  -- ---- where its ends are admitted

  module _ (first : admitted b start goal (number b ax ay) ≡ true) (last : admitted b start goal (number b bx by) ≡ true) where
    -- (x, y) is admitted, and single moves join the first end to it
    abbrev Joined : (x y : ℕ) → Type 0
    Joined x y = Reach (visible b start goal) (number b ax ay) (number b x y) × (admitted b start goal (number b x y) ≡ true)

    -- one single move further, to a vertex that is admitted or not pinched
    onto : {x y x' y' : ℕ} → Move b x y x' y' → admitted b start goal (number b x' y') ≡ true → Joined x y → Joined x' y'
    onto M f (r, g) = (move r (move_visible b start goal M g f), f)

    onto_unpinched : {x y x' y' : ℕ} → Move b x y x' y' → pinched b x' y' ≡ false → Joined x y → Joined x' y'
    onto_unpinched {x} {y} {x'} {y'} M f =
        let B = M.ends.second in
        let v : ℕ = number b x' y' in
        let p : pinched b (column b v) (row b v) ≡ false =
        rw (column_number b.width x' y' B.x_on, row_number b.width x' y' B.x_on) f in
        onto M (unpinched_admitted b start goal v p)

    -- ---- a level leg, and an upright one: by k single moves, between which it goes through vertices strictly inside it

    straight : (p q : ℕ → ℕ) (k : ℕ) → (p 0 ≡ ax) × (q 0 ≡ ay) → (p k ≡ bx) × (q k ≡ by)
        → ((u : ℕ) → u < k → Move b (p u) (q u) (p (u + 1)) (q (u + 1)))
        → ((u : ℕ) → u + 1 < k → strictly_inside ax ay bx by (p (u + 1)) (q (u + 1)) ≡ true) → Joined bx by
    straight p q k s t each inside =
        rw (t.0, t.1) at (by_steps (λ (u : ℕ). Joined (p u) (q u)) k (rw (s.0, s.1) (here, first)) next)
      where
        next : (u : ℕ) → u < k → Joined (p u) (q u) → Joined (p (u + 1)) (q (u + 1))
        next u l =
            ⊎_elim (λ (h : u + 1 < k). onto_unpinched (each u l) (inner_unpinched (p (u + 1)) (q (u + 1)) (inside u h)))
            (λ (h : k ≤ u + 1). let e : u + 1 ≡ k = omega arith in onto (each u l) (rw (e, t.0, t.1) last)) (order (u + 1) k)

    along_row : ay ≡ by → Joined bx by
    along_row e =
        straight X (λ (_ : ℕ). ay) n (vertex_start ax bx 0 refl, refl) (vertex_end ax bx n refl, e)
        (λ u l. level_move b (X u) (X (u + 1)) ay (record { first = on_row u l (axis_near ax bx u l).1; second = on_row u l (axis_next ax bx u l).1 })
        (one_apart ax bx u l) (rw (edge_low ax bx u l) (row_open e u l)))
        (λ u l. subst (λ (z : ℕ). strictly_inside ax ay bx z (X (u + 1)) ay ≡ true) e (inside_level ay ax bx (u + 1) (omega arith) l))
      where
        on_row : {x : ℕ} (u : ℕ) → u < n → x ≤ I u + 1 → OnBoard b x ay
        on_row u l h =
            let c = axis_on ax bx u l b.width on.first.x_on on.second.x_on in
            record { x_on = omega arith; y_on = on.first.y_on }

    along_column : ax ≡ bx → Joined bx by
    along_column e =
        straight (λ (_ : ℕ). ax) Y m (refl, vertex_start ay by 0 refl) (e, vertex_end ay by m refl)
        (λ v l. upright_move b ax (Y v) (Y (v + 1)) (record { first = on_column v l (axis_near ay by v l).1; second = on_column v l (axis_next ay by v l).1 })
        (one_apart ay by v l) (rw (edge_low ay by v l) (column_open e v l)))
        (λ v l. subst (λ (z : ℕ). strictly_inside ax ay z by ax (Y (v + 1)) ≡ true) e (inside_upright ax ay by (v + 1) (omega arith) l))
      where
        on_column : {y : ℕ} (v : ℕ) → v < m → y ≤ J v + 1 → OnBoard b ax y
        on_column v l h =
            let c = axis_on ay by v l b.height on.first.y_on on.second.y_on in
            record { x_on = on.first.x_on; y_on = omega arith }

    -- ---- a slanted leg: over the nearer corners of the cells that it crosses

    -- from the nearer corner of the cell u columns and v rows from the first end to its others
    module _ (u v : ℕ) (hu : u < n) (hv : v < m) (c : Crosses n m u v) where
      corner : {p q x y : ℕ} → (I u ≤ x) × (x ≤ I u + 1) × (far ax x ≡ p) → (J v ≤ y) × (y ≤ J v + 1) × (far ay y ≡ q) → CornerOf (I u) (J v) x y
      corner P Q = record { left = P.0; right = P.1; top = Q.0; bottom = Q.1 }

      from_nearer : {x y : ℕ} → CornerOf (I u) (J v) x y → (X u ≡ x → Y v ≡ y → ⊥) → Move b (X u) (Y v) x y
      from_nearer = corner_move b (crossed_free u v hu hv c) (corner (axis_near ax bx u hu) (axis_near ay by v hv))

      move_aside : Move b (X u) (Y v) (X (u + 1)) (Y v)
      move_aside = from_nearer (corner (axis_next ax bx u hu) (axis_near ay by v hv)) (λ e f. omega (arith, one_apart ax bx u hu))

      move_along : Move b (X u) (Y v) (X u) (Y (v + 1))
      move_along = from_nearer (corner (axis_near ax bx u hu) (axis_next ay by v hv)) (λ e f. omega (arith, one_apart ay by v hv))

      move_across : Move b (X u) (Y v) (X (u + 1)) (Y (v + 1))
      move_across = from_nearer (corner (axis_next ax bx u hu) (axis_next ay by v hv)) (λ e f. omega (arith, one_apart ax bx u hu))

    -- where a column and a row end together before the last, the leg goes through a vertex strictly inside it
    inside_across : (u v : ℕ) → u + 1 < n → v + 1 < m → m * (u + 1) ≡ n * (v + 1) → strictly_inside ax ay bx by (X (u + 1)) (Y (v + 1)) ≡ true
    inside_across u v hu hv e =
        inside_in ax ay bx by (u + 1) (v + 1) (record { on = e; u_on = omega arith; v_on = omega arith; begun = omega arith; unended = omega arith })

    -- the nearer corner of each crossed cell is joined, if that of the crossed cell before it is: free cells beside or above each
    -- other share vertices that are not pinched, and one that the leg goes through to the opposite cell is not pinched by sight
    keeps : Keeps n m (λ (u v : ℕ). Joined (X u) (Y v))
    keeps = record {
      start = rw (vertex_start ax bx 0 refl, vertex_start ay by 0 refl) (here, first);
      aside = λ u v hu hv c d.
          let Q = axis_near ay by v hv in
          onto_unpinched (move_aside u v (omega arith) hv c)
          (beside_unpinched ax bx u hu b (Y v) (J v) Q.0 Q.1 (crossed_free u v (omega arith) hv c) (crossed_free (u + 1) v hu hv d));
      along = λ u v hu hv c d.
          let P = axis_near ax bx u hu in
          onto_unpinched (move_along u v hu (omega arith) c)
          (above_unpinched ay by v hv b (X u) (I u) P.0 P.1 (crossed_free u v hu (omega arith) c) (crossed_free u (v + 1) hu hv d));
      across = λ u v hu hv c e.
          onto_unpinched (move_across u v (omega arith) (omega arith) c)
          (inner_unpinched (X (u + 1)) (Y (v + 1)) (inside_across u v hu hv e));
    }

    slanted : 0 < n → 0 < m → Joined bx by
    slanted hn hm =
        let u : ℕ = n - 1 in
        let v : ℕ = m - 1 in
        let e : u + 1 ≡ n = omega arith in
        let f : v + 1 ≡ m = omega arith in
        let c : Crosses n m u v = last_crossed n m u v e f in
        let x : X (u + 1) ≡ bx = vertex_end ax bx (u + 1) e in
        let y : Y (v + 1) ≡ by = vertex_end ay by (v + 1) f in
        let g : admitted b start goal (number b (X (u + 1)) (Y (v + 1))) ≡ true = rw (x, y) last in
        let j : Joined (X u) (Y v) = every_crossed keeps u v (omega arith) (omega arith) c in
        rw (x, y) at (onto (move_across u v (omega arith) (omega arith) c) g j)

    -- ---- any leg

    pub leg_joined : Reach (visible b start goal) (number b ax ay) (number b bx by)
    leg_joined =
        ⊎_elim (λ (h : n < 1). (along_column (omega arith)).0)
        (λ (h : 1 ≤ n). ⊎_elim (λ (k : m < 1). (along_row (omega arith)).0) (λ (k : 1 ≤ m). (slanted h k).0) (order m 1)) (order n 1)
