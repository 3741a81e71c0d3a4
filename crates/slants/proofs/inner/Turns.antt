-- The turns of the walk over a leg's cells, as laws over numbers. Assumes nothing.
use Prim.Native.Nat.{ℕ, ◌+◌, ◌*◌, ◌-◌, ◌≤◌, ◌<◌}
use mathlib.Core.Path.{◌≡◌, refl, sym, ap, ◌∙◌}
use mathlib.Core.Logic.{⊎_elim}
use mathlib.Core.Bool.{Bool, true, false}
use native.Mathlib.Nat.{mul-le-mul_left, lt_of_mul-lt-mul_left}
use native.Mathlib.Omega.{arith}
use borrow.Author.Count.{below_more}
use lib.ListN.{length, get_or}
use Rattle.laws.proofs.Tests.{order}
use Rattle.board.specs.Limits.{most_vertices}
use Rattle.board.specs.Board.{Board, blocked}
use Rattle.legs.specs.declared.Stop.TheVariants.{Clear}
use Rattle.slants.specs.declared.Across.TheVariants.{Nothing, Blocked, Pinch}
use Rattle.slants.specs.declared.inner.Steps.{Steps}
use Rattle.legs.specs.Pinched.{pinched}
use Rattle.legs.specs.Leg.{far, vertex_at, cell_at}
use Rattle.legs.specs.Stops.{place_stop, column_stop, cells_stop}
use Rattle.slants.specs.Walk.{stop_at, pinch}
use Rattle.legs.proofs.Crossing.{Crosses}
use Rattle.legs.proofs.First.{first_clear, first_at, unpinched_clear, start_clear}
use Rattle.slants.proofs.inner.Places.{byte_blocked, byte_free, stop_at_cell, vertex_there, place_at, come, Slanted, not_crossed, not_blocked, not_through, both_clear, hit_cell, hit_vertex, x_in, y_in, place_in, row_step, column_step, start_place, end_place, pinch_is, stop_at_corner, place_small, come_to}

-- ---- what is known at each place of the walk

module _ (b : Board) (ax ay bx by n m : ℕ) (step : Steps) where
  -- a column begins
  pub record AtColumn (u v ahead cell : ℕ) : Type 0 where
    pub leg : Slanted b ax ay bx by n m step
    pub u_in : u < n
    pub begun : n * v ≤ m * u
    pub ended : m * u < n * (v + 1)
    pub ahead_is : ahead + m * u ≡ n * (v + 1)
    pub cell_is : cell ≡ place_at b ax ay bx by u v
    pub past : (k : ℕ) → k < u → column_stop b ax ay bx by k ≡ Clear
    pub vertex_clear : vertex_there b ax ay bx by u v ≡ Clear

  -- a cell of it that the leg crosses
  pub record AtCell (u v ahead cell : ℕ) : Type 0 where
    pub leg : Slanted b ax ay bx by n m step
    pub u_in : u < n
    pub v_in : v < m
    pub crosses : Crosses n m u v
    pub ahead_is : ahead + m * u ≡ n * (v + 1)
    pub cell_is : cell ≡ place_at b ax ay bx by u v
    pub past : (k : ℕ) → k < u → column_stop b ax ay bx by k ≡ Clear
    pub before : (k : ℕ) → k < v → place_stop b ax ay bx by u k ≡ Clear
    pub vertex_clear : vertex_there b ax ay bx by u v ≡ Clear

  -- the column is left for the next one, v rows from the first end
  pub record ColumnLeft (u v ahead cell : ℕ) : Type 0 where
    pub leg : Slanted b ax ay bx by n m step
    pub u_in : u + 1 < n
    pub v_in : v < m
    pub begun : n * v ≤ m * (u + 1)
    pub ended : m * (u + 1) < n * (v + 1)
    pub ahead_is : ahead + m * u ≡ n * (v + 1)
    pub cell_is : cell ≡ place_at b ax ay bx by u v
    pub past : (k : ℕ) → k < u + 1 → column_stop b ax ay bx by k ≡ Clear
    pub vertex_clear : vertex_there b ax ay bx by (u + 1) v ≡ Clear

-- ---- the walk's turns

-- it starts at the first end
pub walk_starts : {b : Board} {ax ay bx by n m : ℕ} {step : Steps} → Slanted b ax ay bx by n m step → (cell : ℕ) → cell ≡ ay * b.width + ax - step.up - step.left → AtColumn b ax ay bx by n m step 0 0 n cell
walk_starts {b} {ax} {ay} {bx} {by} l cell e =
    record {
      leg = l;
      u_in = l.n_some;
      begun = omega arith;
      ended = omega (arith, l.n_some);
      ahead_is = omega arith;
      cell_is = omega (arith, start_place l);
      past = λ k h. absurd (omega arith);
      vertex_clear = start_clear b ax ay bx by;
    }

module _ {b : Board} {ax ay bx by n m : ℕ} {step : Steps} {u v ahead cell : ℕ} where
  pub column_entered : AtColumn b ax ay bx by n m step u v ahead cell → AtCell b ax ay bx by n m step u v ahead cell
  column_entered c =
      let l = c.leg in
      let hu = c.u_in in
      let v_in : v < m = lt_of_mul-lt-mul_left n (omega (arith, c.begun, l.m_some, mul-le-mul_left m hu)) in
      record {
        leg = l;
        u_in = hu;
        v_in = v_in;
        crosses = (c.ended, omega (arith, c.begun, l.m_some));
        ahead_is = c.ahead_is;
        cell_is = c.cell_is;
        past = c.past;
        before =
            λ k h. both_clear l u k
            (not_through l u k hu (omega arith) (λ e. omega (arith, e, mul-le-mul_left n h, c.begun, l.n_some)))
            (not_crossed l u k hu (omega arith) (λ x. omega (arith, x.0, mul-le-mul_left n h, c.begun)));
        vertex_clear = c.vertex_clear;
      }

  module _ (c : AtCell b ax ay bx by n m step u v ahead cell) where
    abbrev x : ℕ
    x = cell_at ax bx u

    abbrev y : ℕ
    y = cell_at ay by v

    pub come_here : come b ax ay bx by cell ≡ u
    come_here = come_to c.leg u v cell c.u_in c.v_in c.cell_is

    pub cell_read : cell < length b.cells
    cell_read = rw c.cell_is (place_in c.leg u v c.u_in c.v_in)

    -- a step on does not leave the word
    pub row_small : cell + step.down < 4 * most_vertices
    row_small = omega (arith, c.cell_is, place_small c.leg u v c.u_in c.v_in)

    pub row_fits : v + 1 < m → step.up ≤ cell + step.down
    row_fits h = omega (arith, c.cell_is, row_step c.leg u v h)

    -- the cell is blocked
    pub walk_stopped : get_or b.cells cell 0 ≡ 1
        → stop_at b.width ax ay bx by (Blocked cell) ≡ cells_stop b ax ay bx by
    unfolding cells_stop column_stop
    walk_stopped e =
        let l = c.leg in
        let hx = x_in l u c.u_in in
        let hy = y_in l v c.v_in in
        let q : blocked b x y ≡ true = byte_blocked b x y cell hx hy c.cell_is e in
        stop_at_cell b x y cell hx hy c.cell_is ax ay bx by
        ∙ sym (first_at (far ax bx) _ u _ (omega (arith, c.u_in, l.n_is)) c.past
        (first_at (far ay by) _ v _ (omega (arith, c.v_in, l.m_is)) c.before
        (hit_cell l u v c.u_in c.v_in c.crosses q c.vertex_clear) refl) refl)

    -- its row ends first: the leg goes on in the next row
    pub next_row : ahead < m → v + 1 < m
    next_row h = lt_of_mul-lt-mul_left n (omega (arith, c.ahead_is, mul-le-mul_left m c.u_in))

    -- the last cell is in the last column
    last_column : (last : ℕ) → last ≡ by * b.width + bx - step.down - step.right → cell ≡ last → u + 1 ≡ n
    last_column last last_is f =
        let l = c.leg in
        let there : cell ≡ place_at b ax ay bx by (n - 1) (m - 1) =
        omega (arith, end_place l (n - 1) (m - 1) (omega (arith, l.n_some)) (omega (arith, l.m_some))) in
        let here : u ≡ n - 1 =
        sym come_here ∙ come_to l (n - 1) (m - 1) cell (omega (arith, l.n_some)) (omega (arith, l.m_some)) there in
        omega (arith, l.n_some)

    -- row and column end together, at the leg's end or at a corner on it
    module _ (e : ahead ≡ m) (last : ℕ) (last_is : last ≡ by * b.width + bx - step.down - step.right) where
      last_row : u + 1 ≡ n → v + 1 ≡ m
      last_row f =
          let g : m * (u + 1) ≡ m * n = ap (λ (z : ℕ). m * z) f in
          ⊎_elim (λ (h : v + 1 < m). absurd (omega (arith, c.ahead_is, c.leg.n_some, mul-le-mul_left n h)))
          (λ (h : m ≤ v + 1). omega (arith, c.v_in)) (order (v + 1) m)

      pub corner : (cell ≡ last → ⊥) → (u + 1 < n) × (v + 1 < m)
      corner f =
          let h : u + 1 < n =
          ⊎_elim (λ (h : u + 1 < n). h)
          (λ (h : n ≤ u + 1).
          let g : u + 1 ≡ n = omega (arith, c.u_in) in
          absurd (f (omega (arith, c.cell_is, end_place c.leg u v g (last_row g))))) (order (u + 1) n) in
          (h, lt_of_mul-lt-mul_left n (omega (arith, c.ahead_is, c.leg.m_some, mul-le-mul_left m h)))

    -- the cell is free
    module _ (free : get_or b.cells cell 0 ≡ 1 → ⊥) where
      here_free : blocked b x y ≡ false
      here_free = byte_free b x y cell (x_in c.leg u c.u_in) (y_in c.leg v c.v_in) c.cell_is free

      passed : (k : ℕ) → k < v + 1 → place_stop b ax ay bx by u k ≡ Clear
      passed = below_more _ v c.before (both_clear c.leg u v c.vertex_clear (not_blocked c.leg u v here_free))

      pub cell_passed : ahead < m → AtCell b ax ay bx by n m step u (v + 1) (ahead + n) (cell + step.down - step.up)
      cell_passed h =
          let l = c.leg in
          record {
            leg = l;
            u_in = c.u_in;
            v_in = next_row h;
            crosses = (omega (arith, c.crosses.0), omega (arith, c.ahead_is));
            ahead_is = omega (arith, c.ahead_is);
            cell_is = omega (arith, c.cell_is, row_step l u v (next_row h));
            past = c.past;
            before = passed;
            vertex_clear = not_through l u (v + 1) c.u_in (next_row h) (λ e. omega (arith, e, c.crosses.0));
          }

      -- or the leg leaves the column
      column_clear : m ≤ ahead → column_stop b ax ay bx by u ≡ Clear
      unfolding column_stop
      column_clear h =
          first_clear (far ay by) _ (λ k g.
          ⊎_elim (λ (s : k < v + 1). passed k s)
          (λ (s : v + 1 ≤ k). both_clear c.leg u k
          (not_through c.leg u k c.u_in (omega (arith, c.leg.m_is)) (λ e. omega (arith, e, c.crosses.0, mul-le-mul_left n s)))
          (not_crossed c.leg u k c.u_in (omega (arith, c.leg.m_is)) (λ x. omega (arith, x.1, c.ahead_is, mul-le-mul_left n s))))
          (order k (v + 1)))

      columns_clear : m ≤ ahead → (k : ℕ) → k < u + 1 → column_stop b ax ay bx by k ≡ Clear
      columns_clear h = below_more _ u c.past (column_clear h)

      -- within its row
      pub left_inside : m < ahead → ColumnLeft b ax ay bx by n m step u v ahead cell
      left_inside h =
          let next : u + 1 < n = lt_of_mul-lt-mul_left m (omega (arith, c.ahead_is, mul-le-mul_left n c.v_in)) in
          record {
            leg = c.leg;
            u_in = next;
            v_in = c.v_in;
            begun = omega (arith, c.crosses.1);
            ended = omega (arith, c.ahead_is);
            ahead_is = c.ahead_is;
            cell_is = c.cell_is;
            past = columns_clear (omega arith);
            vertex_clear = not_through c.leg (u + 1) v next c.v_in (λ e. omega (arith, e, c.crosses.1));
          }

      -- by a corner
      module _ (e : ahead ≡ m) {last : ℕ} (last_is : last ≡ by * b.width + bx - step.down - step.right) (open-end : cell ≡ last → ⊥)
          {beside below next : ℕ} (beside-is : beside ≡ cell + step.right - step.left) (below-is : below ≡ cell + step.down - step.up)
          (next_is : next ≡ beside + step.down - step.up) where
        h : (u + 1 < n) × (v + 1 < m)
        h = corner e last last_is open-end

        beside_place : beside ≡ place_at b ax ay bx by (u + 1) v
        beside_place = omega (arith, c.cell_is, column_step c.leg u v h.0)

        below_place : below ≡ place_at b ax ay bx by u (v + 1)
        below_place = omega (arith, c.cell_is, row_step c.leg u v h.1)

        corner_place : next ≡ place_at b ax ay bx by (u + 1) (v + 1)
        corner_place = omega (arith, beside_place, row_step c.leg (u + 1) v h.1)

        -- the sums on the way
        pub sums_small : (cell + step.right < 4 * most_vertices) × (beside + step.down < 4 * most_vertices)
        sums_small = (
          omega (arith, c.cell_is, place_small c.leg u v c.u_in c.v_in),
          omega (arith, beside_place, place_small c.leg (u + 1) v h.0 c.v_in),
        )

        pub sums_fit : (step.left ≤ cell + step.right) × (step.up ≤ beside + step.down)
        sums_fit = (
          omega (arith, c.cell_is, column_step c.leg u v h.0),
          omega (arith, beside_place, row_step c.leg (u + 1) v h.1),
        )

        pub cells_read_lem : (beside < length b.cells) × (below < length b.cells) × (next < length b.cells)
        cells_read_lem = (
          rw beside_place (place_in c.leg (u + 1) v h.0 c.v_in),
          rw below_place (place_in c.leg u (v + 1) c.u_in h.1),
          rw corner_place (place_in c.leg (u + 1) (v + 1) h.0 h.1),
        )

        corner_pinched : pinch b.cells beside below next ≡ pinched b (vertex_at ax bx (u + 1)) (vertex_at ay by (v + 1))
        corner_pinched = pinch_is c.leg u v beside below next h.0 h.1 here_free beside_place below_place corner_place

        pub left_corner : {answered : Bool} → answered ≡ pinch b.cells beside below next → answered ≡ false
            → ColumnLeft b ax ay bx by n m step u (v + 1) (ahead + n) below
        left_corner told p =
            record {
              leg = c.leg;
              u_in = h.0;
              v_in = h.1;
              begun = omega (arith, c.ahead_is);
              ended = omega (arith, c.ahead_is, c.leg.n_some);
              ahead_is = omega (arith, c.ahead_is);
              cell_is = below_place;
              past = columns_clear (omega arith);
              vertex_clear = unpinched_clear b ax ay bx by _ _ (sym corner_pinched ∙ (sym told ∙ p));
            }

        -- the leg comes into the next column by the corner: the rows before it have no part of the leg there
        rows_clear : (k : ℕ) → k < v + 1 → place_stop b ax ay bx by (u + 1) k ≡ Clear
        rows_clear k g =
            let l = c.leg in
            let w = mul-le-mul_left n g in
            both_clear l (u + 1) k (not_through l (u + 1) k h.0 (omega arith) (λ f. omega (arith, f, w, c.ahead_is, l.n_some)))
            (not_crossed l (u + 1) k h.0 (omega arith) (λ x. omega (arith, x.0, w, c.ahead_is)))

        pub walk_pinched : pinch b.cells beside below next ≡ true
            → stop_at b.width ax ay bx by (Pinch next) ≡ cells_stop b ax ay bx by
        unfolding cells_stop column_stop
        walk_pinched p =
            let l = c.leg in
            let w : m * (u + 1) ≡ n * (v + 1) = omega (arith, c.ahead_is) in
            stop_at_corner l (u + 1) (v + 1) next h.0 h.1 corner_place
            ∙ sym (first_at (far ax bx) _ (u + 1) _ (omega (arith, h.0, l.n_is)) (columns_clear (omega arith))
            (first_at (far ay by) _ (v + 1) _ (omega (arith, h.1, l.m_is)) rows_clear
            (hit_vertex l (u + 1) (v + 1) (omega arith) h.0 h.1 w (sym corner_pinched ∙ p)) refl) refl)

      -- or at the leg's end
      pub walk_ended : m ≤ ahead → (last : ℕ) → last ≡ by * b.width + bx - step.down - step.right → cell ≡ last
          → stop_at b.width ax ay bx by Nothing ≡ cells_stop b ax ay bx by
      unfolding cells_stop stop_at
      walk_ended h last last_is f =
          sym (first_clear (far ax bx) _ (λ k l. columns_clear h k (omega (arith, last_column last last_is f, c.leg.n_is))))

module _ {b : Board} {ax ay bx by n m : ℕ} {step : Steps} {u v ahead cell : ℕ} (c : ColumnLeft b ax ay bx by n m step u v ahead cell) where
  pub ahead_fits : m ≤ ahead
  ahead_fits = omega (arith, c.ahead_is, c.ended)

  pub column_small : cell + step.right < 4 * most_vertices
  column_small = omega (arith, c.cell_is, place_small c.leg u v (omega (arith, c.u_in)) c.v_in)

  pub column_fits : step.left ≤ cell + step.right
  column_fits = omega (arith, c.cell_is, column_step c.leg u v c.u_in)

  next_place : cell + step.right - step.left ≡ place_at b ax ay bx by (u + 1) v
  next_place = omega (arith, c.cell_is, column_step c.leg u v c.u_in)

  -- the leg has fewer columns to go
  pub column_less : n - come b ax ay bx by (cell + step.right - step.left) < n - u
  column_less = rw (come_to c.leg (u + 1) v (cell + step.right - step.left) c.u_in c.v_in next_place) (omega (arith, c.u_in))

  pub column_passed : AtColumn b ax ay bx by n m step (u + 1) v (ahead - m) (cell + step.right - step.left)
  column_passed =
      record {
        leg = c.leg;
        u_in = c.u_in;
        begun = c.begun;
        ended = c.ended;
        ahead_is = omega (arith, c.ahead_is, c.ended);
        cell_is = next_place;
        past = c.past;
        vertex_clear = c.vertex_clear;
      }
