-- Visible neighbours are so both ways, never oneself, and on the board, as the search's theory asks; which vertices are admitted.
-- Assumes nothing.
use Prim.Native.Nat.{ℕ, ◌+◌, ◌<◌}
use mathlib.Core.Path.{◌≡◌, refl}
use mathlib.Core.Logic.{◌≢◌}
use mathlib.Core.Bool.{Bool, true, false, not, ◌&&◌, and_comm}
use lib.Dec.{leb, ltb, eqb}
use borrow.Author.Tests.{lt-ltb, ltb-true, eq-eqb, ne_eqb}
use Rattle.laws.proofs.Tests.{and_both, and_left, and_right, and_false, or_left, or_right, or_false}
use Rattle.board.specs.Board.{Board, vertices, column, row}
use Rattle.legs.specs.Sight.{sees}
use Rattle.legs.specs.Pinched.{pinched, admitted}
use Rattle.legs.specs.Neighbours.{neighbours, visible}
use Rattle.legs.proofs.Symmetric.{eqb_swap, sees_symmetric}

-- ---- who is admitted

module _ (b : Board) (start goal : ℕ) where
  -- the ends always are
  pub start_admitted : admitted b start goal start ≡ true
  unfolding admitted
  start_admitted =
      or_right (not (pinched b (column b start) (row b start))) (or_left _ (eq-eqb start start refl))

  pub goal_admitted : admitted b start goal goal ≡ true
  unfolding admitted
  goal_admitted =
      or_right (not (pinched b (column b goal) (row b goal))) (or_right (eqb goal start) (eq-eqb goal goal refl))

  -- of the others those that are not pinched, and they alone
  pub other_admitted : (v : ℕ) → v ≢ start → v ≢ goal → admitted b start goal v ≡ not (pinched b (column b v) (row b v))
  unfolding admitted
  other_admitted v s g = rw (ne_eqb v start s, ne_eqb v goal g) (or_false (not (pinched b (column b v) (row b v))))

  pub unpinched_admitted : (v : ℕ) → pinched b (column b v) (row b v) ≡ false → admitted b start goal v ≡ true
  unfolding admitted
  unpinched_admitted v h = rw h

-- ---- what it says

module _ (b : Board) (start goal u v : ℕ) where
  abbrev in_range : Bool
  in_range = ltb u (vertices b) && ltb v (vertices b)

  abbrev both_admitted : Bool
  both_admitted = admitted b start goal u && admitted b start goal v

  abbrev next_to : Bool
  next_to = neighbours (column b u) (row b u) (column b v) (row b v)

  abbrev in_sight : Bool
  in_sight = sees b (column b u) (row b u) (column b v) (row b v)

  pub visible_admitted : visible b start goal u v ≡ true → admitted b start goal v ≡ true
  unfolding visible
  visible_admitted h =
      and_right (admitted b start goal u) (admitted b start goal v)
      (and_right in_range both_admitted (and_left (in_range && both_admitted) (next_to && in_sight) h))

  parts : visible b start goal u v ≡ true → (in_range ≡ true) × (next_to ≡ true) × (in_sight ≡ true)
  unfolding visible
  parts h =
      let l = and_left (in_range && both_admitted) (next_to && in_sight) h in
      let r = and_right (in_range && both_admitted) (next_to && in_sight) h in
      (and_left in_range both_admitted l, and_left next_to in_sight r, and_right next_to in_sight r)

  pub visible_below : visible b start goal u v ≡ true → v < vertices b
  visible_below h = ltb-true v (vertices b) (and_right (ltb u (vertices b)) (ltb v (vertices b)) (parts h).0)

  pub visible_neighbours : visible b start goal u v ≡ true → neighbours (column b u) (row b u) (column b v) (row b v) ≡ true
  visible_neighbours h = (parts h).1

  pub visible_sees : visible b start goal u v ≡ true → sees b (column b u) (row b u) (column b v) (row b v) ≡ true
  visible_sees h = (parts h).2

  -- and they are visible neighbours where all of it holds
  pub visible_of : u < vertices b → v < vertices b → admitted b start goal u ≡ true → admitted b start goal v ≡ true
      → next_to ≡ true → in_sight ≡ true → visible b start goal u v ≡ true
  unfolding visible
  visible_of hu hv au av n s =
      and_both (and_both (and_both (lt-ltb u (vertices b) hu) (lt-ltb v (vertices b) hv)) (and_both au av)) (and_both n s)

-- ---- both ways, and never oneself

neighbours_symmetric : (ax ay bx by : ℕ) → neighbours ax ay bx by ≡ neighbours bx by ax ay
unfolding neighbours
neighbours_symmetric ax ay bx by =
    rw (
      eqb_swap ax bx,
      eqb_swap ay by,
      and_comm (leb ax (bx + 1)) (leb bx (ax + 1)),
      and_comm (leb ay (by + 1)) (leb by (ay + 1)),
    )

neighbours_irreflexive : (x y : ℕ) → neighbours x y x y ≡ false
unfolding neighbours
neighbours_irreflexive x y = rw (eq-eqb x x refl, eq-eqb y y refl)

pub visible_symmetric : (b : Board) (start goal u v : ℕ) → visible b start goal u v ≡ visible b start goal v u
unfolding visible
visible_symmetric b start goal u v =
    rw (
      and_comm (ltb u (vertices b)) (ltb v (vertices b)),
      and_comm (admitted b start goal u) (admitted b start goal v),
      neighbours_symmetric (column b u) (row b u) (column b v) (row b v),
      sees_symmetric b (column b u) (row b u) (column b v) (row b v),
    )

pub visible_irreflexive : (b : Board) (start goal u : ℕ) → visible b start goal u u ≡ false
unfolding visible
visible_irreflexive b start goal u =
    rw (
      neighbours_irreflexive (column b u) (row b u),
      and_false ((ltb u (vertices b) && ltb u (vertices b)) && (admitted b start goal u && admitted b start goal u)) refl,
    )
