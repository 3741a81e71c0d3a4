-- The contest of a board is fair; and the look through a group has the first open vertex so far. Assumes nothing.
use mathlib.Core.Path.{◌≡◌, refl, sym, ap, ◌∙◌}
use mathlib.Core.Logic.{◌≢◌}
use mathlib.Core.Bool.{Bool, true, false, cond}
use mathlib.Core.List.{List}
use Prim.Native.Nat.{ℕ, ◌+◌, ◌-◌, ◌*◌, ◌^◌, ◌≤◌, ◌<◌}
use native.Mathlib.Omega.{arith}
use lib.IntN.{nat_abs}
use borrow.Author.Tests.{eqb-true, eq-eqb, ne_eqb}
use Rattle.board.specs.Limits.{largest_side, most_vertices}
use Rattle.board.specs.Board.{number_of, column_of, row_of}
use Rattle.board.proofs.Numbers.{column_number, row_number, vertices_few, column_on, row_on}
use Rattle.spans.specs.Legs.{step}
use Rattle.length.specs.Units.{units}
use Rattle.length.proofs.Units.{units_fit}
use Rattle.spans.proofs.Legs.{step_size}
use Rattle.reach.specs.Turns.{at}
use Rattle.theta.specs.Order.{ranked, sooner}
use Rattle.ranks.specs.Ranks.{seen, numbers}
use Rattle.tournament.specs.Contest.{no_key, WellRanked, Leads, Between}
use Rattle.tournament.specs.Tournament.{Shown}
use Rattle.open.specs.Groups.{group_start, group_end}
use Rattle.open.specs.Marked.{to_goal, board_contest, Sited, Small, Looked}
use Rattle.tournament.proofs.Leading.{leads_part}
use Rattle.tournament.proofs.Scanning.{scan_none, scan_closed, scan_open}
use Rattle.open.proofs.Grouping.{leaf_strip, strip_leaf, strip_on}

-- ---- the contest

pub contest_shown : (width height gx gy : ℕ) (g m l : List ℕ) → Shown (board_contest width height gx gy g m l) (seen g l)
contest_shown width height gx gy g m l = record { key = λ v k. refl; own = λ v l. refl }

-- no leg is long
pub units_small : (ax ay bx by : ℕ) → ax ≤ largest_side → ay ≤ largest_side → bx ≤ largest_side → by ≤ largest_side → units (step ax bx) (step ay by) < 2 ^ 62
units_small ax ay bx by a b c d =
    let p : nat_abs (step ax bx) ≤ largest_side = omega (arith, step_size ax bx) in
    let q : nat_abs (step ay by) ≤ largest_side = omega (arith, step_size ay by) in
    omega (arith, units_fit (nat_abs (step ax bx)) (nat_abs (step ay by)) p q)

-- h by the vertex's place
pub to_goal_lem : (width gx gy x y : ℕ) → x ≤ width → to_goal width gx gy (number_of width x y) ≡ units (step x gx) (step y gy)
to_goal_lem width gx gy x y l = rw (column_number width x y l, row_number width x y l) refl

module _ {width height x y gx gy : ℕ} (D : Sited width height x y gx gy) where
  goal_small : (v : ℕ) → v < (width + 1) * (height + 1) → to_goal width gx gy v < 2 ^ 62
  goal_small v l =
      units_small (column_of width v) (row_of width v) gx gy (omega (arith, column_on width v, D.narrow))
      (omega (arith, row_on width height v l, D.low)) (omega (arith, D.goal_x, D.narrow)) (omega (arith, D.goal_y, D.low))

  -- an open vertex's f is a key
  pub contest_fair : {g m l : List ℕ} → Small ((width + 1) * (height + 1)) g m l → WellRanked (board_contest width height gx gy g m l)
  contest_fair {g} {m} {l} S = record {
    numbered = λ v. refl;
    keyed = λ v k o. omega (arith, goal_small v k, S.small v k (eqb-true (at m v) 1 o));
  }

  -- there are few vertices, and each has its entries in g and legs
  pub vertices_most : (width + 1) * (height + 1) ≤ most_vertices
  vertices_most = vertices_few width height D.narrow D.low

  pub numbers_most : {g m l : List ℕ} → Small ((width + 1) * (height + 1)) g m l → (width + 1) * (height + 1) ≤ numbers g l
  numbers_most S = omega (arith, S.room_g, S.room_l, vertices_most)

  -- the group is a strip of the board
  pub group_filled : group_start x < group_end width x
  group_filled = omega (arith, D.column)

  pub strip_below : (v : ℕ) → v < y * (width + 1) + group_end width x → (v - y * (width + 1) ≤ width) × (v < (width + 1) * (height + 1))
  strip_below v l = (omega arith, omega (arith, strip_on width height x y D.column D.row))

-- ---- the look

-- r leads the vertices of the group below v, with the key k
pub record Looking (width height x y gx gy : ℕ) (g m l : List ℕ) (v r k : ℕ) : Type 0 where
  pub on : r < (width + 1) * (height + 1)
  pub leads : Leads (board_contest width height gx gy g m l) (Between (y * (width + 1) + group_start x) v) r k

module _ {width height x y gx gy : ℕ} (D : Sited width height x y gx gy) {g m l : List ℕ} (S : Small ((width + 1) * (height + 1)) g m l) where
  pub looking_start : Looking width height x y gx gy g m l (y * (width + 1) + group_start x) (y * (width + 1) + group_start x) no_key
  looking_start = record {
    on = (strip_below D (y * (width + 1) + group_start x) (omega (arith, group_filled D))).1;
    leads = scan_none (board_contest width height gx gy g m l) (y * (width + 1) + group_start x) (y * (width + 1) + group_start x);
  }

  module _ {v r k : ℕ} (L : Looking width height x y gx gy g m l v r k) where
    pub looking_closed : at m v ≢ 1 → Looking width height x y gx gy g m l (v + 1) r k
    looking_closed d = record { on = L.on; leads = scan_closed (ne_eqb (at m v) 1 d) L.leads }

    -- it is open, u is its leg to the goal, and b says whether it is ahead of the leader so far
    pub looking_open : y * (width + 1) + group_start x ≤ v → v < y * (width + 1) + group_end width x
        → (u : ℕ) → at m v ≡ 1 → u ≡ units (step (v - y * (width + 1)) gx) (step y gy) → {answer : Bool}
        → answer ≡ sooner (ranked (at g v + u) (at g v) (at l v) v) (seen g l r k)
        → (b : Bool) → answer ≡ b
        → Looking width height x y gx gy g m l (v + 1) (cond b v r) (cond b (at g v + u) k)
    looking_open past inside u o e s b t = record {
      on = on b;
      leads = scan_open (contest_fair D S) (contest_shown width height gx gy g m l) past below.1 (eq-eqb (at m v) 1 o) (at g v + u)
          (ap (λ (z : ℕ). at g v + z) (e ∙ sym h)) L.leads b (sym s ∙ t);
    }
      where
        below : (v - y * (width + 1) ≤ width) × (v < (width + 1) * (height + 1))
        below = strip_below D v inside

        -- its place has its number
        back : v ≡ number_of width (v - y * (width + 1)) y
        back = omega arith

        h : to_goal width gx gy v ≡ units (step (v - y * (width + 1)) gx) (step y gy)
        h = ap (to_goal width gx gy) back ∙ to_goal_lem width gx gy (v - y * (width + 1)) y below.0

        on : (z : Bool) → cond z v r < (width + 1) * (height + 1)
        on true = below.1
        on false = L.on

  pub looked : {v r k : ℕ} → Looking width height x y gx gy g m l v r k → v ≡ y * (width + 1) + group_end width x → Looked width height x y gx gy g m l r k
  looked L e = record {
    on = L.on;
    leads = leads_part (λ v o t. strip_leaf width height x y D.column D.row v (rw e at t))
        (λ v o t. rw e (leaf_strip width height x y D.column D.row v t)) L.leads;
  }
