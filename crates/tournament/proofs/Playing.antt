-- The tournament: the root leads all, and how the two climbs keep it. Assumes nothing.
use mathlib.Core.Path.{◌≡◌, refl, sym, ◌∙◌}
use mathlib.Core.Logic.{◌≢◌, ⊎_elim}
use mathlib.Core.Bool.{Bool, true, false, cond, false≢true}
use mathlib.Core.List.{List}
use Prim.Native.Nat.{ℕ, ◌*◌, ◌/◌, ◌≤◌, ◌<◌}
use native.Mathlib.Omega.{arith}
use native.Mathlib.Decide.{ℕ_discrete}
use lib.ListN.{length, set, length-set}
use lib.Seq.{get_or-set_same, get_or-set_other}
use Rattle.reach.specs.Turns.{at}
use Rattle.theta.specs.Order.{Rank, sooner, Contest}
use Rattle.tournament.specs.Contest.{no_key, WellRanked, Leads, none, some, everyone}
use Rattle.tournament.specs.Tournament.{Under, here, above, Groups, Planted, of_leaf, of_node, Tournament, Else, Opened, Shown}
use Rattle.tournament.proofs.Leading.{leads_part, leads_else, leads_join, leads_ahead, leads_behind}
use Rattle.tournament.proofs.Halving.{under_le, under_cases, under_half, under_trans, under?, under_root, under_child}

-- ---- the ends

-- the root leads all the vertices
pub root_leads : {G : Groups} {C : Contest} {leads keys : List ℕ} → Planted G C.size → 0 < G.leaves → Tournament G C leads keys
    → Leads C everyone (at leads 1) (at keys 1)
root_leads {G} P l T =
    leads_part
    (λ v o u. refl)
    (λ v o e. under_root (G.leaf v) (G.leaf v) (omega arith) (omega (arith, P.low v o)))
    (T.lead 1 (omega arith) (omega arith))

-- a leader's key is its f as it is now
pub key_now : {G : Groups} {C : Contest} {leads keys : List ℕ} → Tournament G C leads keys → (i : ℕ) → 0 < i → i < 2 * G.leaves
    → at keys i ≢ no_key → at keys i ≡ (C.rank (at leads i)).f
key_now {C = C} {leads = leads} {keys = keys} T i p l d = go (T.lead i p l)
  where
    go : {part : ℕ → Type 0} → Leads C part (at leads i) (at keys i) → at keys i ≡ (C.rank (at leads i)).f
    go (none e f) = absurd (d e)
    go (some F e) = e

-- nothing is open, and every key says so
pub tournament_none : {G : Groups} {C : Contest} {leads keys : List ℕ} → ((v : ℕ) → v < C.size → C.is_open v ≡ false)
    → 2 * G.leaves ≤ length leads → 2 * G.leaves ≤ length keys → ((i : ℕ) → i < 2 * G.leaves → at keys i ≡ no_key) → Tournament G C leads keys
tournament_none {C = C} shut rl rk blank = record {
  room_l = rl;
  room_k = rk;
  lead = λ i p l. none (blank i l) (λ v u. let z = sym (shut v u.on) ∙ u.opened in false≢true z);
}

-- ---- one node changes

module _ {C : Contest} {part : ℕ → Type 0} (leads keys : List ℕ) {i j : ℕ} where
  set_here : i < length leads → i < length keys → {r k : ℕ} → j ≡ i → Leads C part r k → Leads C part (at (set leads i r) j) (at (set keys i k) j)
  set_here l h {r} {k} e L = rw (e, get_or-set_same leads i r 0 l, get_or-set_same keys i k 0 h) L

  set_other : (r k : ℕ) → j ≢ i → Leads C part (at leads j) (at keys j) → Leads C part (at (set leads i r) j) (at (set keys i k) j)
  set_other r k d L = rw (get_or-set_other leads i j r 0 d, get_or-set_other keys i j k 0 d) L

-- ---- a vertex w opens with the rank a, or gets it: it climbs while it is ahead

-- the climb is at node i: what it has yet to come by is as it was, and all else is right
pub record Entering (G : Groups) (C C' : Contest) (w i : ℕ) (leads keys : List ℕ) : Type 0 where
  pub room_l : 2 * G.leaves ≤ length leads
  pub room_k : 2 * G.leaves ≤ length keys
  pub inside : i < 2 * G.leaves
  pub way : 0 < i → Under i (G.leaf w)
  pub old : (j : ℕ) → 0 < j → j < 2 * G.leaves → Under j i → Leads C (of_node G j) (at leads j) (at keys j)
  pub new : (j : ℕ) → 0 < j → j < 2 * G.leaves → (Under j i → ⊥) → Leads C' (of_node G j) (at leads j) (at keys j)

module _ {G : Groups} {C C' : Contest} {w : ℕ} {a : Rank} (O : Opened C C' w a) where
  pub entering_start : {leads keys : List ℕ} → Planted G C.size → Tournament G C leads keys → Entering G C C' w (G.leaf w) leads keys
  entering_start P T = record {
    room_l = T.room_l;
    room_k = T.room_k;
    inside = P.high w O.on;
    way = λ _. here;
    old = λ j p l u. T.lead j p l;
    new = λ j p l d. leads_else O.others (λ v u e. d (rw e at u)) (T.lead j p l);
  }

  module _ {show : ℕ → ℕ → Rank} (S : Shown C show) {i : ℕ} {leads keys : List ℕ} (E : Entering G C C' w i leads keys) where
    pub entering_step : 0 < i → sooner a (show (at leads i) (at keys i)) ≡ true → Entering G C C' w (i / 2) (set leads i w) (set keys i a.f)
    entering_step p x = record {
      room_l = rw length-set E.room_l;
      room_k = rw length-set E.room_k;
      inside = omega (arith, E.inside);
      way = λ _. under_half (E.way p);
      old = λ j q l u. set_other leads keys w a.f (λ e. omega (arith, under_le u)) (E.old j q l (above u));
      new = λ j q l d. go j q l d (ℕ_discrete j i);
    }
      where
        go : (j : ℕ) → 0 < j → j < 2 * G.leaves → (Under j (i / 2) → ⊥) → Dec (j ≡ i)
            → Leads C' (of_node G j) (at (set leads i w) j) (at (set keys i a.f) j)
        go j q l d (yes e) =
            set_here leads keys (omega (arith, E.room_l, E.inside)) (omega (arith, E.room_k, E.inside)) e
            (rw e (leads_ahead O S {part = of_node G i} (E.way p) (E.old i p E.inside here) x))
        go j q l d (no e) = set_other leads keys w a.f e (E.new j q l (λ u. ⊎_elim e d (under_cases u)))

    -- the climb stops where it is not ahead
    pub entering_stop : WellRanked C → WellRanked C' → 0 < i → sooner a (show (at leads i) (at keys i)) ≡ false → Tournament G C' leads keys
    entering_stop fair fair' p x = record { room_l = E.room_l; room_k = E.room_k; lead = λ j q l. go j q l (under? i j i (omega arith)) }
      where
        go : (j : ℕ) → 0 < j → j < 2 * G.leaves → Dec (Under j i) → Leads C' (of_node G j) (at leads j) (at keys j)
        go j q l (yes u) =
            leads_behind O S {part = of_node G i} fair fair' (λ v h. under_trans u h) (E.old i p E.inside here) x (E.old j q l u)
        go j q l (no d) = E.new j q l d

  -- or past the root
  pub entering_end : {leads keys : List ℕ} → Entering G C C' w 0 leads keys → Tournament G C' leads keys
  entering_end E = record {
    room_l = E.room_l;
    room_k = E.room_k;
    lead = λ j p l. E.new j p l (λ u. omega (arith, under_le u));
  }

-- ---- a vertex changes, its leaf is looked through, and the nodes above are made anew

-- node i is right, and so is all but what is above it
pub record Mending (G : Groups) (C : Contest) (i : ℕ) (leads keys : List ℕ) : Type 0 where
  pub room_l : 2 * G.leaves ≤ length leads
  pub room_k : 2 * G.leaves ≤ length keys
  pub on : 0 < i
  pub inside : i < 2 * G.leaves
  pub right : (j : ℕ) → 0 < j → j < 2 * G.leaves → (Under j (i / 2) → ⊥) → Leads C (of_node G j) (at leads j) (at keys j)

-- the vertices of a leaf
leaf_part : {G : Groups} {C : Contest} {i r k : ℕ} → Planted G C.size → G.leaves ≤ i → Leads C (of_leaf G i) r k → Leads C (of_node G i) r k
leaf_part {G} {i = i} P l =
    leads_part
    (λ v o e. rw e here)
    (λ v o u. ⊎_elim (λ e. sym e) (λ h. absurd (omega (arith, under_le h, P.high v o))) (under_cases u))

pub mending_start : {G : Groups} {C C' : Contest} {w r k : ℕ} {leads keys : List ℕ} → Else C C' w → Planted G C.size → w < C.size
    → Tournament G C leads keys → Leads C' (of_leaf G (G.leaf w)) r k → Mending G C' (G.leaf w) (set leads (G.leaf w) r) (set keys (G.leaf w) k)
mending_start {G} {C} {C'} {w} {r} {k} {leads} {keys} E P o T L = record {
  room_l = rw length-set T.room_l;
  room_k = rw length-set T.room_k;
  on = omega (arith, P.low w o, P.high w o);
  inside = P.high w o;
  right = λ j p l d. go j p l d (ℕ_discrete j (G.leaf w));
}
  where
    go : (j : ℕ) → 0 < j → j < 2 * G.leaves → (Under j (G.leaf w / 2) → ⊥) → Dec (j ≡ G.leaf w)
        → Leads C' (of_node G j) (at (set leads (G.leaf w) r) j) (at (set keys (G.leaf w) k) j)
    go j p l d (yes e) =
        set_here leads keys (omega (arith, P.high w o, T.room_l)) (omega (arith, P.high w o, T.room_k)) e
        (rw e (leaf_part (rw E.size_same P) (P.low w o) L))
    go j p l d (no e) =
        set_other leads keys r k e (leads_else E (λ v u z. ⊎_elim e d (under_cases (rw z at u))) (T.lead j p l))

module _ {G : Groups} {C : Contest} {i : ℕ} {leads keys : List ℕ} (M : Mending G C i leads keys) where
  -- s is the other child of the parent of i
  pub mending_step : WellRanked C → {show : ℕ → ℕ → Rank} → Shown C show → Planted G C.size → (s : ℕ) → 1 < i → s / 2 ≡ i / 2 → s ≢ i → (x : Bool)
      → sooner (show (at leads s) (at keys s)) (show (at leads i) (at keys i)) ≡ x
      → Mending G C (i / 2) (set leads (i / 2) (cond x (at leads s) (at leads i))) (set keys (i / 2) (cond x (at keys s) (at keys i)))
  mending_step fair {show} S P s p e d x y = record {
    room_l = rw length-set M.room_l;
    room_k = rw length-set M.room_k;
    on = omega arith;
    inside = omega (arith, M.inside);
    right = λ j q l h. go j q l h (ℕ_discrete j (i / 2));
  }
    where
      low : s < 2 * G.leaves
      low = omega (arith, M.inside)

      own : Leads C (of_node G i) (at leads i) (at keys i)
      own = M.right i M.on M.inside (λ u. omega (arith, under_le u))

      beside : Leads C (of_node G s) (at leads s) (at keys s)
      beside = M.right s (omega arith) low (λ u. omega (arith, under_le u))

      joined : Leads C (of_node G (i / 2)) (cond x (at leads s) (at leads i)) (cond x (at keys s) (at keys i))
      joined =
          leads_join fair S {A = of_node G i} {B = of_node G s} {P = of_node G (i / 2)}
          (λ v o u. under_child i s refl e (λ z. d (sym z)) (omega (arith, P.low v o, M.inside)) u)
          (λ v u. under_half u)
          (λ v u. rw e at (under_half u))
          own beside x y

      go : (j : ℕ) → 0 < j → j < 2 * G.leaves → (Under j (i / 2 / 2) → ⊥) → Dec (j ≡ i / 2)
          → Leads C (of_node G j) (at (set leads (i / 2) (cond x (at leads s) (at leads i))) j) (at (set keys (i / 2) (cond x (at keys s) (at keys i))) j)
      go j q l h (yes z) =
          set_here leads keys (omega (arith, M.inside, M.room_l)) (omega (arith, M.inside, M.room_k)) z (rw z joined)
      go j q l h (no z) =
          set_other leads keys (cond x (at leads s) (at leads i)) (cond x (at keys s) (at keys i)) z
          (M.right j q l (λ u. ⊎_elim z h (under_cases u)))

  -- at the root all is right
  pub mending_end : i ≤ 1 → Tournament G C leads keys
  mending_end l = record {
    room_l = M.room_l;
    room_k = M.room_k;
    lead = λ j p h. M.right j p h (λ u. omega (arith, under_le u));
  }
