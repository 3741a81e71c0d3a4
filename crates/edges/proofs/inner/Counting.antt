-- The walk along a leg's unit edges: what stops the leg at each step, and what the walk meets says of it. Assumes nothing.
use Prim.Native.Nat.{ℕ, zero, suc, ◌+◌, ◌-◌, ◌≤◌, ◌<◌, min}
use mathlib.Core.Path.{◌≡◌, refl, sym}
use mathlib.Core.Bool.{Bool, true, false, ◌&&◌, cond}
use native.Mathlib.Omega.{arith}
use borrow.Author.Count.{below_more}
use Rattle.board.specs.Board.{Board}
use Rattle.board.specs.Inner.{Sound}
use Rattle.board.specs.Limits.{largest_side}
use Rattle.legs.specs.declared.Stop.{Stop}
use Rattle.legs.specs.declared.Stop.TheVariants.{Clear}
use Rattle.legs.specs.Pinched.{crosswise}
use Rattle.legs.specs.Leg.{far, vertex_at, cell_at}
use Rattle.legs.specs.Stops.{is_clear, vertex_stop, walled, edge_from, edge_stop, corner_stop, step_stop, edges_stop}
use Rattle.edges.specs.declared.Along.TheVariants.{Nothing, Wall, Pinch}
use Rattle.edges.specs.Edges.{cell_on, vertex_from, stop_after}
use Rattle.legs.proofs.Axis.{axis_on}
use Rattle.legs.proofs.Inside.{inside_level, inside_upright}
use Rattle.legs.proofs.Pinches.{pinched_level, pinched_upright}
use Rattle.legs.proofs.First.{stop_stays, first_clear, first_at, edge_stops, first_corner}
use Rattle.walls.proofs.walls.Beside.{row_wall_read, column_wall_read}

-- ---- what is met

module _ (level : Bool) (c p q : ℕ) where
  vertex_not_clear : (k : ℕ) → is_clear (vertex_from level c k) ≡ false
  unfolding vertex_from
  vertex_not_clear k = go level
    where
      go : (level : Bool) → is_clear (vertex_from level c k) ≡ false
      go true = refl
      go false = refl

-- ---- the lines of cells along a leg of n steps, on both sides of it

pub record Lines (b : Board) (level : Bool) (c p q n low high : ℕ) : Type 0 where
  pub sound : Sound b
  pub c_on : c ≤ cond level b.height b.width
  pub p_on : p ≤ cond level b.width b.height
  pub q_on : q ≤ cond level b.width b.height
  pub n_is : n ≡ far p q
  pub low_is : low ≡ c - 1
  pub high_is : high ≡ min c (cond level b.height b.width - 1)

-- as the walk has them from the calls that it begins with
pub lines_from : {b : Board} {level : Bool} {c p q n low high across : ℕ} → Sound b → c ≤ cond level b.height b.width
    → (p ≤ cond level b.width b.height) × (q ≤ cond level b.width b.height)
    → n ≡ far p q → low ≡ c - 1 → across ≡ cond level b.height b.width → high ≡ min c (across - 1) → Lines b level c p q n low high
lines_from sound c_on ends n_is low_is across_is high_is =
    record {
      sound = sound;
      c_on = c_on;
      p_on = ends.0;
      q_on = ends.1;
      n_is = n_is;
      low_is = low_is;
      high_is = rw (← across_is) high_is;
    }

-- there are some lines across, and few cells along
pub lines_some : {b : Board} (level : Bool) → Sound b → 0 < cond level b.height b.width
lines_some true s = s.high
lines_some false s = s.wide

pub cells_few : {b : Board} (level : Bool) → Sound b → cond level b.width b.height ≤ largest_side
cells_few true s = s.narrow
cells_few false s = s.low

module _ {b : Board} {level : Bool} {c p q n low high : ℕ} (l : Lines b level c p q n low high) where
  pub steps_few : n ≤ largest_side
  steps_few = omega (arith, l.n_is, l.p_on, l.q_on, cells_few level l.sound)

  -- what the walk reads is on the board
  pub low_in : low < cond level b.height b.width
  low_in = omega (arith, l.low_is, l.c_on, lines_some level l.sound)

  pub high_in : high < cond level b.height b.width
  high_in = omega (arith, l.high_is, lines_some level l.sound)

  pub along_in : (u : ℕ) → u < n → cell_at p q u < cond level b.width b.height
  along_in u h = axis_on p q u (omega (arith, l.n_is)) (cond level b.width b.height) l.p_on l.q_on

module _ (b : Board) (c p q n low high u : ℕ) where
  -- the four cells round the vertex behind the step u
  abbrev round : (level : Bool) → Bool
  round level =
      crosswise (cell_on b level low (cell_at p q u)) (cell_on b level low (cell_at p q (u + 1))) (cell_on b level high (cell_at p q u)) (cell_on b level high (cell_at p q (u + 1)))

  corner_is : (level : Bool) → Lines b level c p q n low high → u + 1 < n
      → corner_stop b level c p q (u + 1) ≡ cond (round level) (vertex_from level c (vertex_at p q (u + 1))) Clear
  unfolding corner_stop vertex_stop vertex_from cell_on
  corner_is true l h =
      let k : u + 1 < far p q = omega (arith, l.n_is) in
      rw (inside_level c p q (u + 1) (omega arith) k, l.low_is, l.high_is, pinched_level b p q u c k l.sound.high l.c_on l.p_on l.q_on)
  corner_is false l h =
      let k : u + 1 < far p q = omega (arith, l.n_is) in
      rw (inside_upright c p q (u + 1) (omega arith) k, l.low_is, l.high_is, pinched_upright b p q u c k l.sound.wide l.c_on l.p_on l.q_on)

  walled_is : (level : Bool) → Lines b level c p q n low high → u < n
      → (cell_on b level low (cell_at p q u) && cell_on b level high (cell_at p q u)) ≡ walled b level c (cell_at p q u)
  unfolding cell_on walled
  walled_is true l h = row_wall_read b l.sound (cell_at p q u) c l.c_on refl refl l.low_is l.high_is
  walled_is false l h = column_wall_read b l.sound c (cell_at p q u) l.c_on refl refl l.low_is l.high_is

-- ---- the walk's turns

-- nothing at the first end, which is passed by no cells
no_pinch : (one other : Bool) → crosswise false one false other ≡ false
no_pinch true other = refl
no_pinch false other = refl

-- what is known u steps from the first end: no step passed stops the leg, and which cells were passed last
pub record AtEdge (b : Board) (level : Bool) (c p q n low high u : ℕ) (passed-low passed-high : Bool) : Type 0 where
  pub lines : Lines b level c p q n low high
  pub u_on : u ≤ n
  pub past : (k : ℕ) → k < u → step_stop b level c p q k ≡ Clear
  pub begun : u ≡ 0 → (passed-low ≡ false) × (passed-high ≡ false)
  pub passed : (k : ℕ) → u ≡ k + 1 → (passed-low ≡ cell_on b level low (cell_at p q k)) × (passed-high ≡ cell_on b level high (cell_at p q k))

pub edges_begun : {b : Board} {level : Bool} {c p q n low high : ℕ} → Lines b level c p q n low high → AtEdge b level c p q n low high 0 false false
edges_begun l =
    record {
      lines = l;
      u_on = omega arith;
      past = λ k h. absurd (omega arith);
      begun = λ e. (refl, refl);
      passed = λ k e. absurd (omega arith);
    }

module _ {b : Board} {level : Bool} {c p q n low high u : ℕ} {passed-low passed-high : Bool}
    (s : AtEdge b level c p q n low high u passed-low passed-high) where
  -- the walk is at the leg's end
  pub edges_done : u ≡ n → stop_after level c p q Nothing ≡ edges_stop b level c p q
  unfolding edges_stop stop_after
  edges_done e =
      sym (first_clear (far p q) _ (λ k h. s.past k (omega (arith, s.lines.n_is))))

  -- or it reads the cells on both sides of the next edge
  module _ (l : u < n) {at_low at_high : Bool} (low_read : at_low ≡ cell_on b level low (cell_at p q u)) (high_read : at_high ≡ cell_on b level high (cell_at p q u)) where
    abbrev pinch : Bool
    pinch = crosswise passed-low at_low passed-high at_high

    abbrev here : Stop
    here = vertex_from level c (vertex_at p q u)

    abbrev edge : Stop
    edge = edge_from level c (vertex_at p q u) (vertex_at p q (u + 1))

    -- the vertex is one to stop at exactly if they are so with those passed last
    begun_unpinched : u ≡ 0 → pinch ≡ false
    begun_unpinched e = let (f, g) = s.begun e in rw (f, g) (no_pinch at_low at_high)

    corner_read : corner_stop b level c p q u ≡ cond pinch here Clear
    corner_read = go u refl
      where
        go : (k : ℕ) → u ≡ k → corner_stop b level c p q u ≡ cond pinch here Clear
        go zero e = rw (begun_unpinched e, e) (first_corner b level c p q)
        go (suc k) e =
            let f : u ≡ k + 1 = omega arith in
            let (g, h) = s.passed k f in
            rw (g, h, low_read, high_read, f) (corner_is b c p q n low high k level s.lines (omega arith))

    edge_read : edge_stop b level c p q u ≡ cond (at_low && at_high) edge Clear
    unfolding edge_stop
    edge_read = rw (low_read, high_read, walled_is b c p q n low high u level s.lines l)

    pub vertex_found : pinch ≡ true → stop_after level c p q (Pinch u) ≡ edges_stop b level c p q
    unfolding edges_stop step_stop stop_after
    vertex_found e =
        sym (first_at (far p q) _ u here (omega (arith, s.lines.n_is)) s.past
        (rw (corner_read, e) (stop_stays here (edge_stop b level c p q u) (vertex_not_clear level c p q (vertex_at p q u))))
        (vertex_not_clear level c p q (vertex_at p q u)))

    pub edge_found : pinch ≡ false → (at_low && at_high) ≡ true → stop_after level c p q (Wall u) ≡ edges_stop b level c p q
    unfolding edges_stop step_stop stop_after
    edge_found e f =
        sym (first_at (far p q) _ u edge (omega (arith, s.lines.n_is)) s.past (rw (corner_read, e, edge_read, f))
        (edge_stops level c (vertex_at p q u) (vertex_at p q (u + 1))))

    pub edge_passed : pinch ≡ false → (at_low && at_high) ≡ false → AtEdge b level c p q n low high (u + 1) at_low at_high
    unfolding step_stop
    edge_passed e f =
        record {
          lines = s.lines;
          u_on = omega arith;
          past = below_more _ u s.past (rw (corner_read, e, edge_read, f));
          begun = λ e. absurd (omega arith);
          passed = λ k e. let g : k ≡ u = omega arith in (rw g low_read, rw g high_read);
        }
