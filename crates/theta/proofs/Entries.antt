-- What taking a vertex makes of each entry of g, parent and legs, in closed form: as if its vertex alone had been looked at. Assumes nothing.
use mathlib.Core.Path.{◌≡◌, refl, ap, ◌∙◌}
use mathlib.Core.Logic.{◌≢◌}
use mathlib.Core.Bool.{Bool, true, false, ◌&&◌, cond}
use mathlib.Core.List.{List}
use Prim.Native.Nat.{ℕ, zero, suc, ◌≤◌, ◌<◌}
use native.Mathlib.Omega.{arith}
use native.Mathlib.Decide.{ℕ_discrete}
use lib.ListN.{length}
use lib.Seq.{get_or-set_same, get_or-set_other}
use Rattle.laws.proofs.Tests.{and_false}
use Rattle.reach.specs.Turns.{at, done_in}
use Rattle.reach.proofs.Marks.{Marks, turned_later}
use Rattle.theta.specs.Search.{Problem, State, due, via, cost, legs_by, wins, store, relax, around}
use Rattle.theta.proofs.Wins.{wins_same}
use Rattle.theta.proofs.Taking.{around_mark}
use Rattle.theta.proofs.Tidy.{around_sizes}

pub record Entry : Type 0 where
  pub g : ℕ
  pub parent : ℕ
  pub legs : ℕ

-- what a state holds for v
abbrev pub entry_of : State → ℕ → Entry
entry_of s v = record { g = at s.g v; parent = at s.parent v; legs = at s.legs v }

-- what v would get, u being taken
abbrev pub offered : Problem → ℕ → State → ℕ → Entry
offered p u s v = record { g = cost p s (via p s u v) v; parent = via p s u v; legs = legs_by s (via p s u v) }

-- v is due, and gets it
abbrev pub won : Problem → ℕ → State → ℕ → Bool
won p u s v = due p u v s && wins p s (via p s u v) v

-- ---- one neighbour

store_else : (d : Bool) (w c g : ℕ) (s : State) (v : ℕ) → v ≢ w → entry_of (store d w c g s) v ≡ entry_of s v
store_else true w c g s v h =
    rw (get_or-set_other s.g w v g 0 h, get_or-set_other s.parent w v c 0 h, get_or-set_other s.legs w v (legs_by s c) 0 h) refl
store_else false w c g s v h = refl

store_here : (d : Bool) (w c g : ℕ) (s : State) → w < length s.g → w < length s.parent → w < length s.legs
    → entry_of (store d w c g s) w ≡ cond d (record { g = g; parent = c; legs = legs_by s c }) (entry_of s w)
store_here true w c g s lg lp ll =
    rw (get_or-set_same s.g w g 0 lg, get_or-set_same s.parent w c 0 lp, get_or-set_same s.legs w (legs_by s c) 0 ll) refl
store_here false w c g s lg lp ll = refl

module _ (p : Problem) (u w : ℕ) (s : State) where
  relax_else : (x : Bool) (v : ℕ) → v ≢ w → entry_of (relax x p u w s) v ≡ entry_of s v
  relax_else true v h = store_else (wins p s (via p s u w) w) w (via p s u w) (cost p s (via p s u w) w) s v h
  relax_else false v h = refl

  relax_here : (x : Bool) → w < length s.g → w < length s.parent → w < length s.legs
      → entry_of (relax x p u w s) w ≡ cond (x && wins p s (via p s u w) w) (offered p u s w) (entry_of s w)
  relax_here true lg lp ll = store_here (wins p s (via p s u w) w) w (via p s u w) (cost p s (via p s u w) w) s lg lp ll
  relax_here false lg lp ll = refl

pub cond_of : (x : Bool) (a b : ℕ) (P : ℕ → Type 0) → P a → P b → P (cond x a b)
cond_of true a b P i j = i
cond_of false a b P i j = j

-- ---- all of them, the taken vertex u and its parent being expanded

module _ (p : Problem) (u : ℕ) (s : State) (M : Marks p.size s.mark) (room_g : p.size ≤ length s.g) (room_p : p.size ≤ length s.parent)
    (room_l : p.size ≤ length s.legs) (du : done_in s.mark u ≡ true) (dp : done_in s.mark (at s.parent u) ≡ true) where
  later : (k v : ℕ) → k ≤ v → entry_of (around p u k s) v ≡ entry_of s v
  unfolding around
  later zero v l = refl
  later (suc k) v l =
      let r = around p u k s in
      relax_else p u k r (due p u k r) v (omega arith) ∙ later k v (omega arith)

  mark_later : (k v : ℕ) → k ≤ p.size → k ≤ v → at (around p u k s).mark v ≡ at s.mark v
  mark_later k v m l =
      ap (λ (x : List ℕ). at x v) (around_mark p u s k (λ w h. M w (omega arith))) ∙ turned_later p.near u s.mark k v l

  -- an expanded vertex keeps its entry
  pub kept : (k v : ℕ) → k ≤ p.size → done_in s.mark v ≡ true → entry_of (around p u k s) v ≡ entry_of s v
  unfolding around
  kept zero v m d = refl
  kept (suc k) v m d = go (ℕ_discrete v k) (kept k v (omega arith) d)
    where
      r : State
      r = around p u k s

      go : Dec (v ≡ k) → entry_of r v ≡ entry_of s v → entry_of (relax (due p u k r) p u k r) v ≡ entry_of s v
      go (yes e) ih =
          let f : due p u k r ≡ false = rw (mark_later k k (omega arith) (omega arith), ← e, d) (and_false (p.near u v) refl) in
          rw f ih
      go (no e) ih = relax_else p u k r (due p u k r) v e ∙ ih

  -- what is offered to k depends on u's parent, on k and on the candidate parent
  same_offer : (k : ℕ) (r : State) → at r.mark k ≡ at s.mark k → at r.parent u ≡ at s.parent u → entry_of r k ≡ entry_of s k
      → entry_of r (via p s u k) ≡ entry_of s (via p s u k) → (won p u r k ≡ won p u s k) × (offered p u r k ≡ offered p u s k)
  same_offer k r e₁ e₂ e₃ e₄ =
      let gk : at r.g k ≡ at s.g k = ap (λ (x : Entry). x.g) e₃ in
      let lk : at r.legs k ≡ at s.legs k = ap (λ (x : Entry). x.legs) e₃ in
      let gc : at r.g (via p s u k) ≡ at s.g (via p s u k) = ap (λ (x : Entry). x.g) e₄ in
      let lc : at r.legs (via p s u k) ≡ at s.legs (via p s u k) = ap (λ (x : Entry). x.legs) e₄ in
      (rw (e₁, e₂, wins_same p s (via p s u k) k r e₁ gk gc lk lc) refl, rw (e₂, gc, lc) refl)

  pub entry : (k v : ℕ) → v < k → k ≤ p.size → entry_of (around p u k s) v ≡ cond (won p u s v) (offered p u s v) (entry_of s v)
  unfolding around
  entry zero v l m = absurd (omega arith)
  entry (suc k) v l m = go (ℕ_discrete v k) (λ l'. entry k v l' (omega arith))
    where
      r : State
      r = around p u k s

      go : Dec (v ≡ k) → (v < k → entry_of r v ≡ cond (won p u s v) (offered p u s v) (entry_of s v))
          → entry_of (relax (due p u k r) p u k r) v ≡ cond (won p u s v) (offered p u s v) (entry_of s v)
      go (yes e) ih =
          let dv : done_in s.mark (via p s u k) ≡ true =
          cond_of (p.sees (at s.parent u) k) (at s.parent u) u (λ x. done_in s.mark x ≡ true) dp du in
          let size = around_sizes p u s k (omega arith) in
          let now = later k k (omega arith) in
          let parent : at r.parent u ≡ at s.parent u = ap (λ (x : Entry). x.parent) (kept k u (omega arith) du) in
          let q = same_offer k r (mark_later k k (omega arith) (omega arith)) parent now (kept k (via p s u k) (omega arith) dv) in
          rw e
          (relax_here p u k r (due p u k r) (omega (arith, size.g_same)) (omega (arith, size.parent_same)) (omega (arith, size.legs_same))
          ∙ rw (q.0, q.1, now) refl)
      go (no e) ih = relax_else p u k r (due p u k r) v e ∙ ih (omega arith)
