-- A lent slice that is written, or not: the new entries in front, and beyond them the old ones. Assumes nothing.
use mathlib.Core.Path.{◌≡◌, refl, ap, ◌∙◌}
use mathlib.Core.Bool.{Bool, true, false}
use mathlib.Core.List.{List}
use Prim.Native.Nat.{ℕ, ◌<◌}
use native.Mathlib.Omega.{arith}
use lib.ListN.{length, take, drop, get_or-append}
use lib.Seq.{take_at, drop_at}
use Rattle.reach.specs.Turns.{at}
use Rattle.answer.specs.Answers.{written}

-- the slice gets these n new entries if the test passes
pub record Filled (test : Bool) (n : ℕ) (new before after : List ℕ) : Type 0 where
  pub is : after ≡ written test new before
  pub size : test ≡ true → length new ≡ n

keeps : (test : Bool) (n : ℕ) (new old : List ℕ) → (test ≡ true → length new ≡ n) → drop n (written test new old) ≡ drop n old
keeps true n new old e = drop_at new (drop (length new) old) n (e refl) ∙ ap (λ (k : ℕ). drop k old) (e refl)
keeps false n new old e = refl

module _ {test : Bool} {n : ℕ} {new before after : List ℕ} (S : Filled test n new before after) where
  -- what lies beyond is kept, written or not
  pub filled_beyond : drop n after ≡ drop n before
  filled_beyond = ap (drop n) S.is ∙ keeps test n new before S.size

  module _ (t : test ≡ true) where
    now : after ≡ written true new before
    now = S.is ∙ ap (λ (x : Bool). written x new before) t

    pub filled_front : take n after ≡ new
    filled_front = ap (take n) now ∙ take_at new (drop (length new) before) n (S.size t)

    pub filled_at : (v : ℕ) → v < n → at after v ≡ at new v
    filled_at v l = ap (λ (x : List ℕ). at x v) now ∙ get_or-append new (drop (length new) before) 0 v (omega (arith, S.size t))
