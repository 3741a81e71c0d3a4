-- Two modes that go along with one another: where a map of states carries picks, takes and stops over, it carries the turns over.
-- Assumes nothing.
use mathlib.Core.Path.{◌≡◌, refl, sym, ap, ◌∙◌}
use Prim.Native.Nat.{ℕ, zero, suc}
use Rattle.reach.specs.Turns.{Choice, nothing, arrived, vertex, Mode, Result, turns}
use Rattle.reach.proofs.Turns.{turns_nothing, turns_arrived, turns_vertex}

abbrev pub carried : {S T : Type 0} → (S → T) → Result S → Result T
carried f r = record { found = r.found; state = f r.state }

-- f carries the mode M over to the mode O, from each state with I, and the turns keep I
pub record Carries {S T : Type 0} (M : Mode S) (O : Mode T) (f : S → T) (I : S → Type 0) : Type 0 where
  pub picks : (s : S) → I s → O.pick (f s) ≡ M.pick s
  pub takes : (u : ℕ) (s : S) → M.pick s ≡ vertex u → I s → O.take u (f s) ≡ f (M.take u s)
  pub stops : (s : S) → M.pick s ≡ arrived → I s → O.stop (f s) ≡ f (M.stop s)
  pub keeps : (u : ℕ) (s : S) → M.pick s ≡ vertex u → I s → I (M.take u s)

pub turns_carried : {S T : Type 0} {M : Mode S} {O : Mode T} {f : S → T} {I : S → Type 0} → Carries M O f I
    → (k : ℕ) (s : S) → I s → turns O k (f s) ≡ carried f (turns M k s)
unfolding turns
turns_carried C zero s i = refl
turns_carried {S} {T} {M} {O} {f} {I} C (suc k) s i = go (M.pick s) refl (λ u i'. turns_carried C k (M.take u s) i')
  where
    go : (c : Choice) → M.pick s ≡ c → ((u : ℕ) → I (M.take u s) → turns O k (f (M.take u s)) ≡ carried f (turns M k (M.take u s)))
        → turns O (suc k) (f s) ≡ carried f (turns M (suc k) s)
    go nothing e ih = turns_nothing O k (f s) (C.picks s i ∙ e) ∙ ap (carried f) (sym (turns_nothing M k s e))
    go arrived e ih =
        turns_arrived O k (f s) (C.picks s i ∙ e) ∙ rw (C.stops s e i) (ap (carried f) (sym (turns_arrived M k s e)))
    go (vertex u) e ih =
        turns_vertex O k (f s) u (C.picks s i ∙ e)
        ∙ ap (turns O k) (C.takes u s e i)
        ∙ ih u (C.keeps u s e i)
        ∙ ap (carried f) (sym (turns_vertex M k s u e))
