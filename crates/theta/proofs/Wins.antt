-- What is asked of `wins`. Here alone the proofs look into it. Assumes nothing.
use mathlib.Core.Path.{◌≡◌, refl, sym, ap, ◌∙◌}
use mathlib.Core.Logic.{◌⊎◌, inl, inr}
use mathlib.Core.Bool.{Bool, true, not, ◌||◌, false≢true}
use Prim.Native.Nat.{ℕ, ◌<◌}
use lib.Dec.{eqb, ltb}
use borrow.Author.Tests.{ltb-true}
use Rattle.laws.proofs.Tests.{or_cases}
use Rattle.reach.specs.Turns.{at, seen_in}
use Rattle.theta.specs.Order.{less_or}
use Rattle.theta.specs.Search.{Problem, State, cost, legs_by, wins}
use Rattle.theta.specs.Lent.{Better}
use Rattle.theta.proofs.Order.{less_cases}

-- the part of the test that does not ask whether the vertex is seen
pub better : (g legs g₀ legs₀ : ℕ) → less_or g g₀ (ltb legs legs₀) ≡ true → Better g legs g₀ legs₀
better g legs g₀ legs₀ e = go (less_cases g g₀ (ltb legs legs₀) e)
  where
    go : (g < g₀) ⊎ ((g ≡ g₀) × (ltb legs legs₀ ≡ true)) → Better g legs g₀ legs₀
    go (inl x) = inl x
    go (inr x) = inr (x.0, ltb-true legs legs₀ x.1)

module _ (p : Problem) (s : State) (c w : ℕ) where
  -- whether the candidate is better
  abbrev rest : Bool
  rest = less_or (cost p s c w) (at s.g w) (ltb (legs_by s c) (at s.legs w))

  -- an unseen vertex wins
  pub wins_unseen : at s.mark w ≡ 0 → wins p s c w ≡ true
  unfolding wins
  wins_unseen e = rw e refl

  -- a seen vertex wins only with a smaller g, or with the same and fewer legs
  pub wins_better : seen_in s.mark w ≡ true → wins p s c w ≡ true → Better (cost p s c w) (legs_by s c) (at s.g w) (at s.legs w)
  unfolding wins
  wins_better h e = go (or_cases (eqb (at s.mark w) 0) rest e)
    where
      go : (eqb (at s.mark w) 0 ≡ true) ⊎ (rest ≡ true) → Better (cost p s c w) (legs_by s c) (at s.g w) (at s.legs w)
      go (inl z) = absurd (false≢true (ap not (sym z) ∙ h))
      go (inr z) = better (cost p s c w) (legs_by s c) (at s.g w) (at s.legs w) z

  -- it reads no other entries
  pub wins_same : (r : State) → at r.mark w ≡ at s.mark w → at r.g w ≡ at s.g w → at r.g c ≡ at s.g c
      → at r.legs w ≡ at s.legs w → at r.legs c ≡ at s.legs c → wins p r c w ≡ wins p s c w
  unfolding wins
  wins_same r e₁ e₂ e₃ e₄ e₅ = rw (e₁, e₂, e₃, e₄, e₅) refl

  -- the test as the code makes it
  pub wins_test : wins p s c w ≡ (eqb (at s.mark w) 0 || rest)
  unfolding wins
  wins_test = refl
