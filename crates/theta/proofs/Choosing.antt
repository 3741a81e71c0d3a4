-- What is chosen is open, nothing is chosen only if nothing is open, and what the least vertex says of the choice. Assumes nothing.
use mathlib.Core.Path.{◌≡◌, refl}
use mathlib.Core.Logic.{◌≢◌}
use mathlib.Core.Bool.{Bool, true, false}
use Prim.Native.Nat.{ℕ, ◌<◌}
use native.Mathlib.Omega.{arith}
use lib.Dec.{eqb}
use borrow.Author.Tests.{eqb-true, eqb-false, eq-eqb, ne_eqb}
use Rattle.reach.specs.Turns.{at, nothing, arrived, vertex}
use Rattle.theta.specs.Order.{least}
use Rattle.theta.specs.Search.{Problem, State, contest_of, choice_of, choose}
use Rattle.theta.proofs.Least.{Chosen, nobody, somebody, least_chosen}

choice_nothing : (c d : Bool) (u : ℕ) → choice_of c d u ≡ nothing → c ≡ true
choice_nothing true d u e = refl
choice_nothing false true u e = cc
choice_nothing false false u e = cc

choice_arrived : (c d : Bool) (u : ℕ) → choice_of c d u ≡ arrived → (c ≡ false) × (d ≡ true)
choice_arrived true d u e = (cc, cc)
choice_arrived false true u e = (refl, refl)
choice_arrived false false u e = (refl, cc)

choice_vertex : (c d : Bool) (u v : ℕ) → choice_of c d u ≡ vertex v → (c ≡ false) × (d ≡ false) × (u ≡ v)
choice_vertex true d u v e = (cc, cc, cc)
choice_vertex false true u v e = (refl, cc, cc)
choice_vertex false false u v e = (refl, refl, cc)

module _ (p : Problem) (s : State) where
  least_now : ℕ
  least_now = least (contest_of p s) p.size

  now : Chosen (contest_of p s) p.size least_now
  unfolding least_now
  now = least_chosen (contest_of p s) p.size (omega arith)

  now_open : eqb least_now p.size ≡ false → (least_now < p.size) × (at s.mark least_now ≡ 1)
  now_open f = go now
    where
      go : Chosen (contest_of p s) p.size least_now → (least_now < p.size) × (at s.mark least_now ≡ 1)
      go (nobody e h) = absurd (eqb-false least_now p.size f e)
      go (somebody l o h) = (l, eqb-true (at s.mark least_now) 1 o)

  now_none : least_now ≡ p.size → (v : ℕ) → v < p.size → at s.mark v ≡ 1 → ⊥
  now_none f v l o = go now
    where
      go : Chosen (contest_of p s) p.size least_now → ⊥
      go (nobody e h) = h v l (eq-eqb (at s.mark v) 1 o)
      go (somebody m q h) = omega arith

  pub choose_nothing : choose p s ≡ nothing → (v : ℕ) → v < p.size → at s.mark v ≡ 1 → ⊥
  unfolding choose least_now
  choose_nothing e = now_none (eqb-true least_now p.size (choice_nothing _ _ _ e))

  pub choose_arrived : choose p s ≡ arrived → (p.goal < p.size) × (at s.mark p.goal ≡ 1)
  unfolding choose least_now
  choose_arrived e =
      let q = choice_arrived (eqb least_now p.size) (eqb least_now p.goal) least_now e in
      rw (eqb-true least_now p.goal q.1) at (now_open q.0)

  pub choose_vertex : (u : ℕ) → choose p s ≡ vertex u → (u < p.size) × (at s.mark u ≡ 1) × (u ≢ p.goal)
  unfolding choose least_now
  choose_vertex u e =
      let q = choice_vertex (eqb least_now p.size) (eqb least_now p.goal) least_now u e in
      let h = rw q.2 at (now_open q.0) in
      (h.0, h.1, eqb-false u p.goal (rw q.2 at q.1))

  -- ---- a loop that has found the least vertex u knows the choice

  module _ (u : ℕ) (e : u ≡ least (contest_of p s) p.size) where
    pub chosen_nothing : u ≡ p.size → choose p s ≡ nothing
    unfolding choose
    chosen_nothing z = rw (← e, eq-eqb u p.size z) refl

    pub chosen_arrived : u ≢ p.size → u ≡ p.goal → choose p s ≡ arrived
    unfolding choose
    chosen_arrived n z = rw (← e, ne_eqb u p.size n, eq-eqb u p.goal z) refl

    pub chosen_vertex : u ≢ p.size → u ≢ p.goal → choose p s ≡ vertex u
    unfolding choose
    chosen_vertex n z = rw (← e, ne_eqb u p.size n, ne_eqb u p.goal z) refl
