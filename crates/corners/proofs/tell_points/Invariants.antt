-- `corners::tell_points` writes point after point. The loop's invariant: those before are written.
use mathlib.Core.Path.{◌≡◌}
use mathlib.Core.List.{◌++◌}
use Prim.Native.Nat.{ℕ}
use lib.ListN.{get_or, drop}
use Rattle.board.specs.Board.{column_of, row_of}
use Rattle.bits.specs.Packed.{entries}
use Rattle.corners.proofs.tell_points.Given as goal

abbrev pub invariant-loop-k : goal.invariant-loop-k
invariant-loop-k l =
    (l.xs ≡ entries l.k (λ (n : ℕ). column_of l.width (get_or l.path n 0)) ++ drop l.k l.initial.xs)
    × (l.ys ≡ entries l.k (λ (n : ℕ). row_of l.width (get_or l.path n 0)) ++ drop l.k l.initial.ys)
