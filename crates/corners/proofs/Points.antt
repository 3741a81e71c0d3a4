-- A path's vertices as points: which are off every board, what the call answers, and that a point is its vertex. Assumes nothing.
use Prim.Native.Nat.{ℕ, zero, suc, ◌+◌, ◌*◌, ◌≤◌, ◌<◌}
use mathlib.Core.Path.{◌≡◌, refl, sym, ap, ◌∙◌}
use mathlib.Core.Bool.{Bool, true, false, ◌||◌}
use mathlib.Core.List.{List, [], ◌∷◌, ◌++◌}
use native.Mathlib.Omega.{arith}
use lib.Dec.{ltb}
use lib.ListN.{length, get_or, drop}
use borrow.Author.Tests.{ltb-false, le-ltb}
use Rattle.std.specs.List.{list_any}
use Rattle.laws.specs.Below.{some, first_where}
use Rattle.laws.proofs.Tests.{or_neither, or_false}
use Rattle.laws.proofs.Below.{first_before, some_first, some_none}
use Rattle.board.specs.Limits.{largest_side}
use Rattle.board.specs.Board.{number_of, column_of, row_of}
use Rattle.board.specs.Handed.{Verdict, passes, refused, side_fits}
use Rattle.board.proofs.Numbers.{number_back, row_on}
use Rattle.packed.specs.Answers.{slice_after}
use Rattle.bits.proofs.Entries.{entries_length, entries_at}
use Rattle.corners.specs.Corners.{columns, rows, has_off, point_rows, PointsTold}

-- ---- some entry of a list passes: as the library's search finds it, and by index

or_then : (a b c : Bool) → ((a || b) || c) ≡ (a || (b || c))
or_then true b c = refl
or_then false b c = refl

some_front : (n : ℕ) (t : ℕ → Bool) → some (suc n) t ≡ (t 0 || some n (λ (k : ℕ). t (suc k)))
unfolding some
some_front zero t = sym (or_false (t 0))
some_front (suc n) t = ap (λ (b : Bool). b || t (suc n)) (some_front n t) ∙ or_then (t 0) (some n (λ (k : ℕ). t (suc k))) (t (suc n))

pub some_is : (t : ℕ → Bool) (xs : List ℕ) → list_any t xs ≡ some (length xs) (λ (k : ℕ). t (get_or xs k 0))
unfolding some
some_is t [] = refl
some_is t (x ∷ xs) = ap (λ (b : Bool). t x || b) (some_is t xs) ∙ sym (some_front (length xs) (λ (k : ℕ). t (get_or (x ∷ xs) k 0)))

module _ (path : List ℕ) (width : ℕ) where
  -- ---- a vertex off every board

  abbrev pub is_off : ℕ → Bool
  is_off k = ltb largest_side (row_of width (get_or path k 0))

  pub is_on_lem : has_off path width ≡ false → (k : ℕ) → k < length path → row_of width (get_or path k 0) ≤ largest_side
  unfolding has_off
  is_on_lem e k l =
      let n = ltb-false (first_where (length path) is_off) (length path) (sym (some_first is_off (length path)) ∙ e) in
      ltb-false largest_side (row_of width (get_or path k 0)) (first_before is_off (length path) k (omega arith))

  -- the vertices of a board are on it
  pub board_on : (height : ℕ) → height ≤ largest_side → ((k : ℕ) → k < length path → get_or path k 0 < (width + 1) * (height + 1)) → has_off path width ≡ false
  unfolding has_off
  board_on height h all =
      some_none is_off (length path) (λ (k : ℕ) (l : k < length path).
      le-ltb largest_side (row_of width (get_or path k 0)) (omega (arith, row_on width height (get_or path k 0) (all k l))))

  -- ---- a point is its vertex

  pub point_is : (k : ℕ) → k < length path → number_of width (get_or (columns path width) k 0) (get_or (rows path width) k 0) ≡ get_or path k 0
  point_is k l =
      rw (entries_at (λ (n : ℕ). column_of width (get_or path n 0)) (length path) k l, entries_at (λ (n : ℕ). row_of width (get_or path n 0)) (length path) k l)
      (number_back width (get_or path k 0))

  -- ---- what the call answers

  module _ (xs ys : List ℕ) where
    pub told_side : side_fits width ≡ false → PointsTold path width xs ys (refused 1 0 0) xs ys
    unfolding point_rows
    told_side s = record { row_is = rw s; xs_are = rw s; ys_are = rw s }

    module _ (s : side_fits width ≡ true) where
      pub told_off : has_off path width ≡ true → PointsTold path width xs ys (refused 4 0 0) xs ys
      unfolding point_rows
      told_off o = record { row_is = rw (s, o); xs_are = rw (s, o); ys_are = rw (s, o) }

      module _ (o : has_off path width ≡ false) where
        -- the code's test
        abbrev short : Bool
        short = ltb (length xs) (length path) || ltb (length ys) (length path)

        pub told_short : short ≡ true → PointsTold path width xs ys (refused 21 0 0) xs ys
        unfolding point_rows
        told_short t = record { row_is = rw (s, o, t); xs_are = rw (s, o, t); ys_are = rw (s, o, t) }

        module _ (t : short ≡ false) where
          pub roomy : (length path ≤ length xs) × (length path ≤ length ys)
          roomy =
              let (a, b) = or_neither (ltb (length xs) (length path)) (ltb (length ys) (length path)) t in
              (ltb-false (length xs) (length path) a, ltb-false (length ys) (length path) b)

          pub told_done : {xs' ys' : List ℕ} → xs' ≡ columns path width ++ drop (length path) xs → ys' ≡ rows path width ++ drop (length path) ys
              → PointsTold path width xs ys passes xs' ys'
          unfolding point_rows
          told_done a b =
              let v : point_rows path width (length xs) (length ys) ≡ passes = rw (s, o, t) in
              let n = entries_length (λ (k : ℕ). column_of width (get_or path k 0)) (length path) in
              let m = entries_length (λ (k : ℕ). row_of width (get_or path k 0)) (length path) in
              record {
                row_is = sym v;
                xs_are = a ∙ ap (λ (l : ℕ). columns path width ++ drop l xs) (sym n) ∙ ap (λ (w : Verdict). slice_after w (columns path width) xs) (sym v);
                ys_are = b ∙ ap (λ (l : ℕ). rows path width ++ drop l ys) (sym m) ∙ ap (λ (w : Verdict). slice_after w (rows path width) ys) (sym v);
              }
