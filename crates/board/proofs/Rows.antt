-- The rows 1 to 5: which one a request gets, and what an accepted one is known to be. Assumes nothing.
use mathlib.Core.Path.{◌≡◌}
use mathlib.Core.Bool.{Bool, true, false, not, ◌&&◌}
use Prim.Native.Nat.{ℕ, ◌*◌, ◌≤◌, ◌<◌}
use native.Mathlib.Nat.{mul-le-mul}
use lib.Dec.{leb, ltb, eqb}
use lib.ListN.{length}
use borrow.Author.Tests.{not-false, leb-true, eqb-true, lt-ltb, le-ltb, eq-eqb, ne_eqb}
use Rattle.laws.proofs.Tests.{and_left, and_right, and_false}
use Rattle.board.specs.Limits.{largest_side}
use Rattle.board.specs.Board.{Board, is_vertex}
use Rattle.board.specs.Inner.{Sound, OnBoard}
use Rattle.board.specs.Handed.{passes, refused, row, side_fits, side_row, first_bad, cell_rows, board_rows, end_rows, leg_rows}
use Rattle.board.proofs.Verdicts.{row_passes, both_pass, Within, row_within, then_within}

-- ---- the rows 1 to 3, case by case

module _ (b : Board) where
  pub rows_width : side_fits b.width ≡ false → board_rows b ≡ refused 1 0 0
  unfolding board_rows
  rows_width e = rw e

  pub rows_height : side_fits b.height ≡ false → board_rows b ≡ refused 1 0 0
  unfolding board_rows
  rows_height e = rw (and_false (side_fits b.width) e)

  -- both sides fit
  module _ (s : (side_fits b.width && side_fits b.height) ≡ true) where
    pub rows_count : (length b.cells ≡ b.width * b.height → ⊥) → board_rows b ≡ refused 2 0 0
    unfolding board_rows
    rows_count e = rw (s, ne_eqb _ _ e)

    module _ (f : length b.cells ≡ b.width * b.height) where
      pub rows_byte : first_bad b.cells < length b.cells → board_rows b ≡ refused 3 (first_bad b.cells) 0
      unfolding board_rows
      rows_byte l = rw (s, eq-eqb _ _ f, lt-ltb _ _ l)

      pub rows_pass : length b.cells ≤ first_bad b.cells → board_rows b ≡ passes
      unfolding board_rows
      rows_pass l = rw (s, eq-eqb _ _ f, le-ltb _ _ l)

-- ---- a side that fits

pub side_least : (n : ℕ) → side_fits n ≡ true → 1 ≤ n
side_least n e = leb-true 1 n (and_left (leb 1 n) (leb n largest_side) e)

pub side_le : (n : ℕ) → side_fits n ≡ true → n ≤ largest_side
side_le n e = leb-true n largest_side (and_right (leb 1 n) (leb n largest_side) e)

pub cells_few : (w h : ℕ) → side_fits w ≡ true → side_fits h ≡ true → w * h ≤ largest_side * largest_side
cells_few w h p q = mul-le-mul (side_le w p) (side_le h q)

-- ---- what an accepted board and an accepted leg are known to be

pub board_sound : (b : Board) → board_rows b ≡ passes → Sound b
unfolding board_rows
board_sound b e =
    let t = both_pass (side_row b.width b.height) (cell_rows b) e in
    let s = not-false _ (row_passes (not (side_fits b.width && side_fits b.height)) 1 0 t.0) in
    let counted : Bool = not (eqb (length b.cells) (b.width * b.height)) in
    let bad : Bool = ltb (first_bad b.cells) (length b.cells) in
    let q = both_pass (row counted 2 0) (row bad 3 (first_bad b.cells)) t.1 in
    let w = and_left (side_fits b.width) (side_fits b.height) s in
    let h = and_right (side_fits b.width) (side_fits b.height) s in
    record {
      wide = side_least b.width w;
      narrow = side_le b.width w;
      high = side_least b.height h;
      low = side_le b.height h;
      full = eqb-true _ _ (not-false _ (row_passes counted 2 0 q.0));
    }

on_board : (b : Board) (x y : ℕ) → is_vertex b x y ≡ true → OnBoard b x y
on_board b x y e =
    let p : Bool = leb x b.width in
    let q : Bool = leb y b.height in
    record { x_on = leb-true x b.width (and_left p q e); y_on = leb-true y b.height (and_right p q e) }

module _ (b : Board) (ax ay bx by : ℕ) (e : leg_rows b ax ay bx by ≡ passes) where
  pub leg_sound : Sound b
  leg_sound = board_sound b (both_pass (board_rows b) (end_rows b ax ay bx by) e).0

  ends : (row (not (is_vertex b ax ay)) 4 0 ≡ passes) × (row (not (is_vertex b bx by)) 5 0 ≡ passes)
  unfolding end_rows
  ends =
      both_pass (row (not (is_vertex b ax ay)) 4 0) (row (not (is_vertex b bx by)) 5 0)
      (both_pass (board_rows b) (end_rows b ax ay bx by) e).1

  pub leg_first : OnBoard b ax ay
  leg_first = on_board b ax ay (not-false _ (row_passes (not (is_vertex b ax ay)) 4 0 ends.0))

  pub leg_second : OnBoard b bx by
  leg_second = on_board b bx by (not-false _ (row_passes (not (is_vertex b bx by)) 5 0 ends.1))

-- ---- the rows 4 and 5, case by case

module _ (b : Board) (ax ay bx by : ℕ) where
  pub ends_first : is_vertex b ax ay ≡ false → end_rows b ax ay bx by ≡ refused 4 0 0
  unfolding end_rows
  ends_first e = rw e

  pub ends_second : is_vertex b ax ay ≡ true → is_vertex b bx by ≡ false → end_rows b ax ay bx by ≡ refused 5 0 0
  unfolding end_rows
  ends_second e f = rw (e, f)

  pub ends_pass : is_vertex b ax ay ≡ true → is_vertex b bx by ≡ true → end_rows b ax ay bx by ≡ passes
  unfolding end_rows
  ends_pass e f = rw (e, f)

-- ---- the rows 1 to 5 refuse with nothing but 1 to 5

pub leg_within : (test : ℕ → Bool) (b : Board) (ax ay bx by : ℕ) → test 1 ≡ true → test 2 ≡ true → test 3 ≡ true → test 4 ≡ true → test 5 ≡ true
    → Within test (leg_rows b ax ay bx by)
unfolding board_rows end_rows
leg_within test b ax ay bx by one two three four five =
    let sides : Bool = not (side_fits b.width && side_fits b.height) in
    let count : Bool = not (eqb (length b.cells) (b.width * b.height)) in
    let bad : Bool = ltb (first_bad b.cells) (length b.cells) in
    then_within test (board_rows b) (end_rows b ax ay bx by)
    (then_within test (side_row b.width b.height) (cell_rows b) (row_within test sides 1 0 one)
    (then_within test (row count 2 0) (row bad 3 (first_bad b.cells)) (row_within test count 2 0 two)
    (row_within test bad 3 (first_bad b.cells) three)))
    (then_within test (row (not (is_vertex b ax ay)) 4 0) (row (not (is_vertex b bx by)) 5 0)
    (row_within test (not (is_vertex b ax ay)) 4 0 four) (row_within test (not (is_vertex b bx by)) 5 0 five))
