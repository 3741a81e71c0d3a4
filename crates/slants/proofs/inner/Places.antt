-- The places of a slanted leg in the cells: the vertex u columns and v rows from its first end, the cell behind
-- it, its byte and its index. Assumes nothing.
use Prim.Native.Nat.{ℕ, ◌+◌, ◌*◌, ◌-◌, ◌/◌, ◌%◌, ◌≤◌, ◌<◌}
use mathlib.Core.Path.{◌≡◌, refl, sym, ap₂, ◌∙◌, subst₂}
use mathlib.Core.Bool.{Bool, true, false}
use native.Mathlib.Nat.{le_trans, mul-le-mul, mul-add-mod_self_right, mod-eq_of_lt, div-eq_of_lt-le}
use native.Mathlib.Omega.{arith}
use borrow.Author.Tests.{eq-eqb, ne_eqb}
use lib.ListN.{length, get_or}
use Rattle.laws.proofs.Tests.{false_of, and_false}
use Rattle.board.specs.Limits.{largest_side, most_vertices}
use Rattle.board.specs.Board.{Board, blocked}
use Rattle.board.specs.Inner.{Sound, OnBoard}
use Rattle.board.proofs.Numbers.{cell_index}
use Rattle.board.proofs.Cells.{byte_is}
use Rattle.legs.specs.declared.Stop.{Stop}
use Rattle.legs.specs.declared.Stop.TheVariants.{Clear, Cell, Vertex}
use Rattle.slants.specs.declared.Across.TheVariants.{Blocked, Pinch}
use Rattle.slants.specs.declared.inner.Steps.{Steps}
use Rattle.legs.specs.Pinched.{pinched}
use Rattle.legs.specs.Sight.{crossed}
use Rattle.legs.specs.Leg.{far, vertex_at, cell_at}
use Rattle.legs.specs.Stops.{vertex_stop, cell_stop, place_stop}
use Rattle.walls.specs.Leg.{forward}
use Rattle.slants.specs.Walk.{corner_of, stop_at, pinch, StepsOf}
use Rattle.legs.specs.Inner.{EndsOn}
use Rattle.legs.proofs.Axis.{axis_far, axis_on, vertex_start}
use Rattle.legs.proofs.Crossing.{Crosses, cross_in, cross_out}
use Rattle.legs.proofs.Inside.{Through, inside_in, inside_through}
use Rattle.legs.proofs.Pinches.{pinched_slanted}
use Rattle.legs.proofs.First.{outside_clear, vertex_stops}
use Rattle.walls.proofs.leg.Indices.{forward_most, cell_step, cell_next, cell_end}

-- ---- a cell of the board by its index

module _ (b : Board) (x y i : ℕ) (hx : x < b.width) (hy : y < b.height) (e : i ≡ y * b.width + x) where
  pub byte_blocked : get_or b.cells i 0 ≡ 1 → blocked b x y ≡ true
  byte_blocked h = rw (byte_is b x y i hx hy e) (eq-eqb _ _ h)

  pub byte_free : (get_or b.cells i 0 ≡ 1 → ⊥) → blocked b x y ≡ false
  byte_free h = rw (byte_is b x y i hx hy e) (ne_eqb _ _ h)

  column_is : i % b.width ≡ x
  column_is = rw e (mul-add-mod_self_right y b.width x ∙ mod-eq_of_lt hx)

  row_is : i / b.width ≡ y
  row_is = div-eq_of_lt-le b.width (omega arith) (omega arith)

  pub stop_at_cell : (ax ay bx by : ℕ) → stop_at b.width ax ay bx by (Blocked i) ≡ Cell x y
  unfolding stop_at
  stop_at_cell ax ay bx by = ap₂ Cell column_is row_is

-- ---- the leg and its places

module _ (b : Board) (ax ay bx by : ℕ) where
  -- the stop at the vertex u columns and v rows from the first end, and at the cell behind it
  abbrev pub vertex_there : (u v : ℕ) → Stop
  vertex_there u v = vertex_stop b ax ay bx by (vertex_at ax bx u) (vertex_at ay by v)

  abbrev pub cell_there : (u v : ℕ) → Stop
  cell_there u v = cell_stop b ax ay bx by (cell_at ax bx u) (cell_at ay by v)

  -- whether that cell is blocked
  abbrev pub shut : (u v : ℕ) → Bool
  shut u v = blocked b (cell_at ax bx u) (cell_at ay by v)

  -- and its index
  abbrev pub place_at : (u v : ℕ) → ℕ
  place_at u v = cell_at ay by v * b.width + cell_at ax bx u

  -- how many columns the leg has come to the cell with this index
  abbrev pub come : (i : ℕ) → ℕ
  come i = far (cell_at ax bx 0) (i % b.width)

  -- a leg of n columns and m rows, and its steps in the cells
  pub record Slanted (n m : ℕ) (step : Steps) : Type 0 where
    pub sound : Sound b
    pub ends : EndsOn b ax ay bx by
    pub n_is : n ≡ far ax bx
    pub m_is : m ≡ far ay by
    pub n_some : 0 < n
    pub m_some : 0 < m
    pub steps : StepsOf b.width ax ay bx by step

-- as the walk has it from the calls that it begins with
pub slanted_from : {b : Board} {ax ay bx by n m : ℕ} {step : Steps} → Sound b → EndsOn b ax ay bx by → n ≡ far ax bx → m ≡ far ay by
    → (0 < far ax bx) × (0 < far ay by) → StepsOf b.width ax ay bx by step → Slanted b ax ay bx by n m step
slanted_from sound ends n_is m_is some steps =
    record {
      sound = sound;
      ends = ends;
      n_is = n_is;
      m_is = m_is;
      n_some = omega (arith, n_is, some);
      m_some = omega (arith, m_is, some);
      steps = steps;
    }

module _ {b : Board} {ax ay bx by n m : ℕ} {step : Steps} (l : Slanted b ax ay bx by n m step) where
  -- ---- what a place of the leg does to it

  pub not_crossed : (u v : ℕ) → u < n → v < m → (Crosses n m u v → ⊥) → cell_there b ax ay bx by u v ≡ Clear
  unfolding cell_stop
  not_crossed u v hu hv f =
      rw (false_of (crossed ax ay bx by (cell_at ax bx u) (cell_at ay by v))
      (λ x. f (subst₂ (λ (n m : ℕ). Crosses n m u v) (sym l.n_is) (sym l.m_is)
      (cross_out ax ay bx by u v (omega (arith, l.n_is)) (omega (arith, l.m_is)) x))))

  pub not_blocked : (u v : ℕ) → shut b ax ay bx by u v ≡ false → cell_there b ax ay bx by u v ≡ Clear
  unfolding cell_stop
  not_blocked u v e = rw (e, and_false (crossed ax ay bx by (cell_at ax bx u) (cell_at ay by v)) refl)

  -- the leg does not go through the vertex
  pub not_through : (u v : ℕ) → u < n → v < m → (m * u ≡ n * v → ⊥) → vertex_there b ax ay bx by u v ≡ Clear
  not_through u v hu hv f =
      outside_clear b ax ay bx by _ _ (λ i. f (subst₂ (λ (n m : ℕ). m * u ≡ n * v) (sym l.n_is) (sym l.m_is)
      (inside_through ax ay bx by u v (omega (arith, l.n_is)) (omega (arith, l.m_is)) i).on))

  pub both_clear : (u v : ℕ) → vertex_there b ax ay bx by u v ≡ Clear → cell_there b ax ay bx by u v ≡ Clear → place_stop b ax ay bx by u v ≡ Clear
  unfolding place_stop
  both_clear u v e f = rw e f

  pub hit_cell : (u v : ℕ) → u < n → v < m → Crosses n m u v → shut b ax ay bx by u v ≡ true → vertex_there b ax ay bx by u v ≡ Clear
      → place_stop b ax ay bx by u v ≡ Cell (cell_at ax bx u) (cell_at ay by v)
  unfolding place_stop cell_stop
  hit_cell u v hu hv x e f =
      rw (
        f,
        cross_in ax ay bx by u v (omega (arith, l.n_is)) (omega (arith, l.m_is))
            (subst₂ (λ (n m : ℕ). Crosses n m u v) l.n_is l.m_is x),
        e,
      )

  pub hit_vertex : (u v : ℕ) → 0 < u → u < n → v < m → m * u ≡ n * v → pinched b (vertex_at ax bx u) (vertex_at ay by v) ≡ true
      → place_stop b ax ay bx by u v ≡ Vertex (vertex_at ax bx u) (vertex_at ay by v)
  unfolding place_stop
  hit_vertex u v some hu hv e w =
      let t : Through (far ax bx) (far ay by) u v =
      record {
        on = subst₂ (λ (n m : ℕ). m * u ≡ n * v) l.n_is l.m_is e;
        u_on = omega (arith, l.n_is);
        v_on = omega (arith, l.m_is);
        begun = omega arith;
        unended = omega (arith, l.n_is, l.m_is);
      } in
      rw (vertex_stops b ax ay bx by _ _ (inside_in ax ay bx by u v t) w)

  -- ---- it is on the board

  pub x_in : (u : ℕ) → u < n → cell_at ax bx u < b.width
  x_in u h = axis_on ax bx u (omega (arith, l.n_is)) b.width l.ends.first.x_on l.ends.second.x_on

  pub y_in : (v : ℕ) → v < m → cell_at ay by v < b.height
  y_in v h = axis_on ay by v (omega (arith, l.m_is)) b.height l.ends.first.y_on l.ends.second.y_on

  pub place_in : (u v : ℕ) → u < n → v < m → place_at b ax ay bx by u v < length b.cells
  place_in u v hu hv =
      omega (arith, l.sound.full, cell_index b.width b.height (cell_at ax bx u) (cell_at ay by v) (x_in u hu) (y_in v hv))

  -- ---- steps from place to place

  -- one row on, and one column on
  pub row_step : (u v : ℕ) → v + 1 < m → place_at b ax ay bx by u (v + 1) + step.up ≡ place_at b ax ay bx by u v + step.down
  row_step u v hv = omega (arith, l.steps.up_is, l.steps.down_is, cell_next ay by b.width v (omega (arith, l.m_is)))

  pub column_step : (u v : ℕ) → u + 1 < n → place_at b ax ay bx by (u + 1) v + step.left ≡ place_at b ax ay bx by u v + step.right
  column_step u v hu = omega (arith, l.steps.left_is, l.steps.right_is, cell_next ax bx 1 u (omega (arith, l.n_is)))

  -- the first cell lies ahead of the first end
  pub start_place : ay * b.width + ax ≡ place_at b ax ay bx by 0 0 + step.up + step.left
  start_place =
      let y : cell_at ay by 0 * b.width + step.up ≡ ay * b.width =
      rw (l.steps.up_is, cell_step ay by b.width 0 (omega (arith, l.m_some, l.m_is)), vertex_start ay by 0 refl) in
      let x : cell_at ax bx 0 * 1 + step.left ≡ ax * 1 =
      rw (l.steps.left_is, cell_step ax bx 1 0 (omega (arith, l.n_some, l.n_is)), vertex_start ax bx 0 refl) in
      omega (arith, x, y)

  -- and the last one before the second
  pub end_place : (u v : ℕ) → u + 1 ≡ n → v + 1 ≡ m → by * b.width + bx ≡ place_at b ax ay bx by u v + step.down + step.right
  end_place u v hu hv =
      omega (arith, l.steps.down_is, l.steps.right_is, cell_end ay by b.width v (hv ∙ l.m_is), cell_end ax bx 1 u (hu ∙ l.n_is))

  pub start_fits : step.up + step.left ≤ ay * b.width + ax
  start_fits = omega (arith, start_place)

  pub end_fits : step.down + step.right ≤ by * b.width + bx
  end_fits = omega (arith, end_place (n - 1) (m - 1) (omega (arith, l.n_some)) (omega (arith, l.m_some)))

  -- ---- where row and column end together

  -- the next corner is pinched exactly if it is between blocked cells and both cells that the leg crosses are free
  pub pinch_is : (u v beside below next : ℕ) → u + 1 < n → v + 1 < m → shut b ax ay bx by u v ≡ false
      → beside ≡ place_at b ax ay bx by (u + 1) v → below ≡ place_at b ax ay bx by u (v + 1) → next ≡ place_at b ax ay bx by (u + 1) (v + 1)
      → pinch b.cells beside below next ≡ pinched b (vertex_at ax bx (u + 1)) (vertex_at ay by (v + 1))
  unfolding pinch
  pinch_is u v beside below next hu hv free e f g =
      rw (
        ← (byte_is b _ _ beside (x_in (u + 1) hu) (y_in v (omega arith)) e),
        ← (byte_is b _ _ below (x_in u (omega arith)) (y_in (v + 1) hv) f),
        ← (byte_is b _ _ next (x_in (u + 1) hu) (y_in (v + 1) hv) g),
        pinched_slanted b ax ay bx by u v (omega (arith, l.n_is)) (omega (arith, l.m_is)) l.ends.first.x_on l.ends.second.x_on l.ends.first.y_on l.ends.second.y_on,
        free,
      )

  -- and is told by the cell behind it
  pub stop_at_corner : (u v next : ℕ) → u < n → v < m → next ≡ place_at b ax ay bx by u v
      → stop_at b.width ax ay bx by (Pinch next) ≡ Vertex (vertex_at ax bx u) (vertex_at ay by v)
  unfolding stop_at corner_of
  stop_at_corner u v next hu hv e =
      let x : next % b.width + forward bx ax 1 ≡ vertex_at ax bx u =
      rw (column_is b _ _ next (x_in u hu) (y_in v hv) e) (omega (arith, cell_step ax bx 1 u (omega (arith, l.n_is)))) in
      let y : next / b.width + forward by ay 1 ≡ vertex_at ay by v =
      rw (row_is b _ _ next (x_in u hu) (y_in v hv) e) (omega (arith, cell_step ay by 1 v (omega (arith, l.m_is)))) in
      ap₂ Vertex x y

  -- ---- the sums stay small

  pub n_small : n ≤ largest_side
  n_small =
      omega (arith, l.n_is, l.sound.narrow, l.ends.first.x_on, l.ends.second.x_on)

  pub m_small : m ≤ largest_side
  m_small =
      omega (arith, l.m_is, l.sound.low, l.ends.first.y_on, l.ends.second.y_on)

  pub place_small : (u v : ℕ) → u < n → v < m → (place_at b ax ay bx by u v + step.right < 4 * most_vertices) × (place_at b ax ay bx by u v + step.down < 4 * most_vertices)
  place_small u v hu hv =
      let s = l.sound in
      let few = mul-le-mul s.narrow s.low in (
        omega (arith, few, s.full, place_in u v hu hv, l.steps.right_is, forward_most ax bx 1),
        omega (arith, few, s.full, s.narrow, place_in u v hu hv, l.steps.down_is, forward_most ay by b.width),
      )

  -- so does the index of a cell
  pub cell_small : {i : ℕ} → i < length b.cells → i < 4 * most_vertices
  cell_small h = let s = l.sound in omega (arith, mul-le-mul s.narrow s.low, s.full, h)

  -- and so does the index of a vertex, as if it were a cell's
  pub corner_small : (x y : ℕ) → OnBoard b x y → y * b.width + x < 4 * most_vertices
  corner_small x y o =
      omega (arith, mul-le-mul (le_trans o.y_on l.sound.low) l.sound.narrow, o.x_on, l.sound.narrow)

  -- ---- an index tells its column

  pub come_to : (u v i : ℕ) → u < n → v < m → i ≡ place_at b ax ay bx by u v → come b ax ay bx by i ≡ u
  come_to u v i hu hv e =
      rw (column_is b (cell_at ax bx u) (cell_at ay by v) i (x_in u hu) (y_in v hv) e) (axis_far ax bx u (omega (arith, l.n_is)))
