-- The rows of a path depend on its n points alone. Assumes nothing.
use Prim.Native.Nat.{ℕ, zero, suc, ◌+◌, ◌-◌, ◌≤◌, ◌<◌}
use mathlib.Core.Path.{◌≡◌, refl, ap, ap₂, ◌∙◌}
use mathlib.Core.Bool.{Bool, true}
use mathlib.Core.List.{List, [], ◌∷◌}
use native.Mathlib.Omega.{arith}
use lib.Dec.{leb, eqb}
use lib.ListN.{length}
use borrow.Author.Tests.{not-false, leb-true}
use Rattle.std.specs.Prelude.{None}
use Rattle.laws.specs.Below.{first_where}
use Rattle.laws.proofs.Tests.{and_left, and_right}
use Rattle.laws.proofs.Below.{first_before}
use Rattle.board.specs.Board.{Board, is_vertex}
use Rattle.board.specs.Handed.{passes, row}
use Rattle.board.proofs.Verdicts.{both_pass}
use Rattle.kinds.specs.Job.{Net}
use Rattle.tracks.specs.Tracks.{Point}
use Rattle.bureau.specs.Paths.{point_at, is_end_wrong, is_off, off_place, is_leg_wrong, leg_place, start_of, goal_of, place_row, path_rows, net_rows}
use Rattle.bureau.specs.Inner.{place_before, PointsOn}
use Rattle.bureau.proofs.Finding.{place_none}
use Rattle.bureau.proofs.Answering.{row_none}

first_same : (t s : ℕ → Bool) (n : ℕ) → ((i : ℕ) → i < n → t i ≡ s i) → first_where n t ≡ first_where n s
unfolding first_where
first_same t s zero h = refl
first_same t s (suc n) h = rw (first_same t s n (λ i l. h i (omega arith)), h n (omega arith))

module _ (b : Board) (n : ℕ) (p q : ℕ → Point) (h : (k : ℕ) → k < n → p k ≡ q k) where
  off_same : off_place b n p ≡ off_place b n q
  unfolding off_place
  off_same = first_same _ _ n (λ k l. ap (λ (r : Point). is_off b r) (h k l))

  leg_same : leg_place b n p ≡ leg_place b n q
  unfolding leg_place
  leg_same =
      first_same _ _ (n - 1) (λ k l. ap₂ (λ (r s : Point). is_leg_wrong b r s (eqb (k + 2) n)) (h k (omega arith)) (h (k + 1) (omega arith)))

  pub path_same : (net : Net) → 0 < n → path_rows b net n p ≡ path_rows b net n q
  unfolding path_rows is_end_wrong
  path_same net l = rw (h 0 l, h (n - 1) (omega arith), off_same, leg_same)

-- the same where points are a list that is not empty
pub net_same : (b : Board) (net : Net) (ps : List Point) (n : ℕ) (q : ℕ → Point) → 0 < n → length ps ≡ n → ((k : ℕ) → k < n → point_at ps k ≡ q k)
    → net_rows b net ps ≡ path_rows b net n q
net_same b net [] n q l e h = absurd (omega arith)
net_same b net (p ∷ ps) n q l e h =
    ap (λ (m : ℕ). path_rows b net m (point_at (p ∷ ps))) e ∙ path_same b n (point_at (p ∷ ps)) q h net l

-- ---- where 26 passes, all points are on the board

pub points_on : (b : Board) (n : ℕ) (p : ℕ → Point) → n ≤ off_place b n p → PointsOn b n p
unfolding off_place
points_on b n p l = record {
  on = λ k h.
      let on : is_vertex b (p k).x (p k).y ≡ true = not-false _ (first_before (λ (i : ℕ). is_off b (p i)) n k (omega arith)) in
      record {
        x_on = leb-true (p k).x b.width (and_left (leb (p k).x b.width) (leb (p k).y b.height) on);
        y_on = leb-true (p k).y b.height (and_right (leb (p k).x b.width) (leb (p k).y b.height) on);
      };
}

pub points_left : (b : Board) (n : ℕ) (p : ℕ → Point) → None ≡ place_before (off_place b n p) n → PointsOn b n p
points_left b n p e = points_on b n p (place_none (off_place b n p) n e)

pub path_on : (b : Board) (net : Net) (n : ℕ) (p : ℕ → Point) → path_rows b net n p ≡ passes → PointsOn b n p
unfolding path_rows
path_on b net n p e =
    let (by-25, after-25) = both_pass (row (is_end_wrong (start_of net) (goal_of net) n p) 25 net.number) _ e in
    let (by-26, by-27) = both_pass (place_row (off_place b n p) n 26 net.number) _ after-25 in
    points_on b n p (row_none (off_place b n p) n 26 net.number by-26)
