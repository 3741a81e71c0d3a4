-- The beginning: what the states are like that a search begins with, on lists of the size or longer. Assumes nothing.
use mathlib.Core.Path.{◌≡◌, refl, ◌∙◌}
use mathlib.Core.List.{List, ◌++◌}
use Prim.Native.Nat.{ℕ, ◌<◌}
use native.Mathlib.Omega.{arith}
use lib.ListN.{length, set, replicate, length-set, length-append, length-replicate, get_or-replicate, get_or-append}
use lib.Seq.{set-append_left}
use Rattle.reach.specs.Turns.{at}
use Rattle.reach.proofs.Marks.{one_entry}
use Rattle.theta.specs.Search.{Problem, State, initial}
use Rattle.theta.specs.Fair.{Fair}
use Rattle.theta.specs.Lent.{Begins}

-- the state with what lies beyond the vertices
unfoldable pub beyond : State → List ℕ → List ℕ → List ℕ → List ℕ → State
beyond s gs ps ms ls = record {
  g = s.g ++ gs;
  parent = s.parent ++ ps;
  mark = s.mark ++ ms;
  legs = s.legs ++ ls;
  expansions = s.expansions;
  tests = s.tests;
}

abbrev zeros : ℕ → List ℕ
zeros n = replicate n 0

zeros_at : (n v : ℕ) → v < n → at (zeros n) v ≡ 0
zeros_at n v l = get_or-replicate n v 0 0 l

module _ {p : Problem} (F : Fair p) where
  start_on_zeros : p.start < length (zeros p.size)
  start_on_zeros = rw length-replicate F.ground.start_on

  pub begins_initial : Begins p (initial p)
  unfolding initial
  begins_initial = record {
    room_g = rw length-replicate (omega arith);
    room_p = simp (length-set, length-replicate) (omega arith);
    room_m = simp (length-set, length-replicate) (omega arith);
    room_l = rw length-replicate (omega arith);
    g_at = zeros_at p.size;
    parent_at = one_entry (zeros p.size) p.size p.start p.start start_on_zeros (zeros_at p.size);
    mark_at = one_entry (zeros p.size) p.size p.start 1 start_on_zeros (zeros_at p.size);
    legs_at = zeros_at p.size;
    expansions_none = refl;
    tests_none = refl;
  }

  -- as a loop writes it: zeros, then the start's two entries, what lies beyond kept
  pub beyond_initial : (gs ps ms ls : List ℕ) → beyond (initial p) gs ps ms ls ≡ record {
    g = replicate p.size 0 ++ gs;
    parent = set (replicate p.size 0 ++ ps) p.start p.start;
    mark = set (replicate p.size 0 ++ ms) p.start 1;
    legs = replicate p.size 0 ++ ls;
    expansions = 0;
    tests = 0;
  }
  unfolding initial beyond
  beyond_initial gs ps ms ls =
      rw (
        set-append_left (zeros p.size) ps p.start p.start start_on_zeros,
        set-append_left (zeros p.size) ms p.start 1 start_on_zeros,
      ) refl

  -- longer lists begin the same
  pub begins_beyond : {s : State} → Begins p s → (gs ps ms ls : List ℕ) → Begins p (beyond s gs ps ms ls)
  unfolding beyond
  begins_beyond {s} B gs ps ms ls = record {
    room_g = rw length-append (omega (arith, B.room_g));
    room_p = rw length-append (omega (arith, B.room_p));
    room_m = rw length-append (omega (arith, B.room_m));
    room_l = rw length-append (omega (arith, B.room_l));
    g_at = λ v l. get_or-append s.g gs 0 v (omega (arith, B.room_g)) ∙ B.g_at v l;
    parent_at = λ v l. get_or-append s.parent ps 0 v (omega (arith, B.room_p)) ∙ B.parent_at v l;
    mark_at = λ v l. get_or-append s.mark ms 0 v (omega (arith, B.room_m)) ∙ B.mark_at v l;
    legs_at = λ v l. get_or-append s.legs ls 0 v (omega (arith, B.room_l)) ∙ B.legs_at v l;
    expansions_none = B.expansions_none;
    tests_none = B.tests_none;
  }
