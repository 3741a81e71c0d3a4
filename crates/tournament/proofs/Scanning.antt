-- A range of vertices is looked through, one after another; and `least` is the first of all. Assumes nothing.
use mathlib.Core.Path.{◌≡◌, refl, sym, ◌∙◌}
use mathlib.Core.Logic.{◌⊎◌, inl, inr, ◌≢◌}
use mathlib.Core.Bool.{Bool, true, false, cond, false≢true}
use mathlib.Core.List.{List}
use Prim.Native.Nat.{ℕ, ◌+◌, ◌≤◌, ◌<◌}
use native.Mathlib.Omega.{arith}
use native.Mathlib.Decide.{ℕ_discrete}
use Rattle.reach.specs.Turns.{at}
use Rattle.theta.specs.Order.{Rank, sooner, Contest, least}
use Rattle.tournament.specs.Contest.{no_key, WellRanked, Runs, First, Leads, none, some, Between, everyone}
use Rattle.tournament.specs.Tournament.{Shown, Groups, Planted, Tournament}
use Rattle.theta.proofs.Order.{sooner_irrefl}
use Rattle.theta.proofs.Least.{Chosen, nobody, somebody, least_chosen}
use Rattle.tournament.proofs.Leading.{leads_move, leads_join, first_unique, leads_open, leads_none}
use Rattle.tournament.proofs.Playing.{root_leads}

-- ---- the leader of a range

pub scan_none : (C : Contest) (lo r : ℕ) → Leads C (Between lo lo) r no_key
scan_none C lo r = none refl (λ v u. omega (arith, u.within.low, u.within.high))

more : {lo v u : ℕ} → Between lo v u → Between lo (v + 1) u
more b = record { low = b.low; high = omega (arith, b.high) }

module _ {C : Contest} {lo v : ℕ} where
  -- v is not open
  pub scan_closed : {r k : ℕ} → C.is_open v ≡ false → Leads C (Between lo v) r k → Leads C (Between lo (v + 1)) r k
  scan_closed shut =
      leads_move
      (λ u x. (record { on = x.on; within = more x.within; opened = x.opened }, refl))
      (λ u x. (
        record {
          on = x.on;
          within = record { low = x.within.low; high = before u x (ℕ_discrete u v) };
          opened = x.opened;
        },
        refl,
      ))
    where
      before : (u : ℕ) → Runs C (Between lo (v + 1)) u → Dec (u ≡ v) → u < v
      before u x (yes e) = absurd (false≢true (sym shut ∙ (rw e at x.opened)))
      before u x (no d) = omega (arith, x.within.high)

  -- v is open, with the f h, and x says whether it is ahead of the leader so far
  pub scan_open : {show : ℕ → ℕ → Rank} {r k : ℕ} → WellRanked C → Shown C show → lo ≤ v → v < C.size → C.is_open v ≡ true → (h : ℕ) → h ≡ (C.rank v).f
      → Leads C (Between lo v) r k → (x : Bool) → sooner (show v h) (show r k) ≡ x → Leads C (Between lo (v + 1)) (cond x v r) (cond x h k)
  scan_open fair S l o opens h e L x y =
      leads_join fair S {A = Between lo v} {B = λ u. u ≡ v} {P = Between lo (v + 1)}
      (λ u q b. by u b (ℕ_discrete u v))
      (λ u b. more b)
      (λ u z. record { low = omega arith; high = omega arith })
      L
      (some (record { runs = record { on = o; within = refl; opened = opens }; foremost = λ u q t. alone u q t }) e)
      x
      y
    where
      by : (u : ℕ) → Between lo (v + 1) u → Dec (u ≡ v) → Between lo v u ⊎ (u ≡ v)
      by u b (yes z) = inr z
      by u b (no d) = inl (record { low = b.low; high = omega (arith, b.high) })

      alone : (u : ℕ) → Runs C (λ t. t ≡ v) u → sooner (C.rank u) (C.rank v) ≡ true → ⊥
      alone u q t = sooner_irrefl (C.rank v) (rw q.within at t)

-- ---- the root of a tournament is the least

module _ {G : Groups} {C : Contest} {leads keys : List ℕ} (fair : WellRanked C) (P : Planted G C.size) (l : 0 < G.leaves) (T : Tournament G C leads keys) where
  -- the least, or the size where nothing is open
  chosen : Chosen C C.size (least C C.size)
  chosen = least_chosen C C.size (omega arith)

  first : at keys 1 ≢ no_key → First C everyone (at leads 1)
  first = leads_open fair (root_leads P l T)

  pub root_least : at keys 1 ≢ no_key → at leads 1 ≡ least C C.size
  root_least d = go chosen
    where
      go : Chosen C C.size (least C C.size) → at leads 1 ≡ least C C.size
      go (nobody e f) = let u = (first d).runs in absurd (f (at leads 1) u.on u.opened)
      go (somebody m o f) =
          first_unique fair (first d)
          (record { runs = record { on = m; within = refl; opened = o }; foremost = λ v u s. f v u.on (u.opened, s) })

  pub root_on : at keys 1 ≢ no_key → at leads 1 < C.size
  root_on d = (first d).runs.on

  pub root_none : at keys 1 ≡ no_key → least C C.size ≡ C.size
  root_none z = go chosen
    where
      go : Chosen C C.size (least C C.size) → least C C.size ≡ C.size
      go (nobody e f) = e
      go (somebody m o f) =
          absurd (leads_none fair (root_leads P l T) z (least C C.size) (record { on = m; within = refl; opened = o }))
