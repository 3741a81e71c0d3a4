-- The rule for a loop that runs a search: what remains to be done from here is the whole that was to be done. Assumes nothing.
use mathlib.Core.Path.{◌≡◌, sym, ◌∙◌}
use mathlib.Core.Bool.{Bool, true, false}
use Prim.Native.Nat.{ℕ, suc, ◌-◌, ◌<◌}
use native.Mathlib.Omega.{arith}
use Rattle.reach.specs.Reach.{Ground}
use Rattle.reach.specs.Turns.{nothing, arrived, vertex, Mode, Result, turns}
use Rattle.reach.proofs.Turns.{
  Disciplined,
  Sane,
  Keeps,
  turns_nothing,
  turns_arrived,
  turns_vertex,
  sane_take,
  pick_room,
  expansions_le,
}

-- the state s of a loop: it is sane, it has whatever I the turns keep, and from it the turns give the whole
pub record Going {S : Type 0} (M : Mode S) (n : ℕ) (near : ℕ → ℕ → Bool) (start goal : ℕ) (I : S → Type 0) (whole : Result S) (s : S) : Type 0 where
  pub sane : Sane M n near start goal s
  pub kept : I s
  pub rest : turns M (suc n - M.expansions s) s ≡ whole

module _ {S : Type 0} {M : Mode S} {n : ℕ} {near : ℕ → ℕ → Bool} {start goal : ℕ} {I : S → Type 0} where
  pub going_start : (s : S) → Sane M n near start goal s → I s → M.expansions s ≡ 0 → Going M n near start goal I (turns M (suc n) s) s
  going_start s G i e = record { sane = G; kept = i; rest = let z : suc n - M.expansions s ≡ suc n = omega arith in rw z }

  module _ (F : Ground n near start) {whole : Result S} {s : S} (W : Going M n near start goal I whole s) where
    -- one more turn than is done is left
    fuel : suc n - M.expansions s ≡ suc (n - M.expansions s)
    fuel = omega (arith, expansions_le F W.sane)

    pub going_nothing : M.pick s ≡ nothing → whole ≡ record { found = false; state = s }
    going_nothing e = sym (rw fuel at W.rest) ∙ turns_nothing M (n - M.expansions s) s e

    pub going_arrived : M.pick s ≡ arrived → whole ≡ record { found = true; state = M.stop s }
    going_arrived e = sym (rw fuel at W.rest) ∙ turns_arrived M (n - M.expansions s) s e

    module _ (D : Disciplined M n near goal) (u : ℕ) (e : M.pick s ≡ vertex u) where
      -- the measure: the expansions stay below the vertices
      pub going_room : M.expansions s < n
      going_room = pick_room F D u s W.sane e

      pub going_step : Keeps M n near start goal I → Going M n near start goal I whole (M.take u s)
      going_step K =
          let f : suc n - M.expansions (M.take u s) ≡ n - M.expansions s = omega (arith, D.take_expansions u s, going_room) in
          record {
            sane = sane_take F D u s W.sane e;
            kept = K.on_take u s W.sane e W.kept;
            rest = rw f (sym (turns_vertex M (n - M.expansions s) s u e) ∙ (rw fuel at W.rest));
          }
