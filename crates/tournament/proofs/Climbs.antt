-- The two climbs of the code, over every tournament at once. Assumes nothing.
use mathlib.Core.Path.{◌≡◌, refl}
use mathlib.Core.Logic.{◌≢◌}
use mathlib.Core.Bool.{Bool, true, false, cond}
use mathlib.Core.List.{List}
use Prim.Native.Nat.{ℕ, ◌/◌, ◌≤◌, ◌<◌}
use native.Mathlib.Decide.{ℕ_discrete}
use lib.ListN.{length, set, length-set}
use lib.Seq.{get_or-set_same, get_or-set_other}
use Rattle.reach.specs.Turns.{at}
use Rattle.theta.specs.Order.{Rank, sooner, Contest}
use Rattle.tournament.specs.Contest.{WellRanked}
use Rattle.tournament.specs.Tournament.{Groups, Planted, Opened, Shown}
use Rattle.tournament.specs.Nodes.{Seated, Entered, Renewed}
use Rattle.tournament.proofs.Playing.{Entering, entering_start, entering_step, entering_stop, entering_end, Mending, mending_start, mending_step, mending_end}

pub seated_set : {n : ℕ} {leads : List ℕ} (i v : ℕ) → i < length leads → v < n → Seated n leads → Seated n (set leads i v)
seated_set {n} {leads} i v l o S = record { on = λ j. go j (ℕ_discrete j i) }
  where
    go : (j : ℕ) → Dec (j ≡ i) → at (set leads i v) j < n
    go j (yes e) = rw (e, get_or-set_same leads i v 0 l) o
    go j (no d) = rw (get_or-set_other leads i j v 0 d) (S.on j)

-- ---- a vertex of rank a enters

-- from the leaf to node i
pub record Climbing (show : ℕ → ℕ → Rank) (n : ℕ) (a : Rank) (leaf : ℕ) (leads₀ keys₀ : List ℕ) (i : ℕ) (leads keys : List ℕ) : Type 0 where
  pub seated : Seated n leads
  pub same_l : length leads ≡ length leads₀
  pub same_k : length keys ≡ length keys₀
  pub is : (G : Groups) (C C' : Contest) → Shown C show → Opened C C' a.number a → Entering G C C' a.number leaf leads₀ keys₀
      → Entering G C C' a.number i leads keys

pub climbing_start : (show : ℕ → ℕ → Rank) {n : ℕ} (a : Rank) (leaf : ℕ) {leads : List ℕ} (keys : List ℕ) → Seated n leads
    → Climbing show n a leaf leads keys leaf leads keys
climbing_start show a leaf keys S = record { seated = S; same_l = refl; same_k = refl; is = λ G C C' _ _ E. E }

module _ {show : ℕ → ℕ → Rank} {n : ℕ} {a : Rank} {leaf : ℕ} {leads₀ keys₀ : List ℕ} {i : ℕ} {leads keys : List ℕ}
    (K : Climbing show n a leaf leads₀ keys₀ i leads keys) where
  pub climbing_step : 0 < i → i < length leads₀ → a.number < n → sooner a (show (at leads i) (at keys i)) ≡ true
      → Climbing show n a leaf leads₀ keys₀ (i / 2) (set leads i a.number) (set keys i a.f)
  climbing_step p l o x = record {
    seated = seated_set i a.number (rw K.same_l l) o K.seated;
    same_l = rw length-set K.same_l;
    same_k = rw length-set K.same_k;
    is = λ G C C' S O E. entering_step O S (K.is G C C' S O E) p x;
  }

  pub climbing_stop : 0 < i → sooner a (show (at leads i) (at keys i)) ≡ false → Entered show n leaf a leads₀ keys₀ leads keys
  climbing_stop p x = record {
    seated = K.seated;
    kept = λ G C C' R fair' e O. entering_stop O R.shown
        (K.is G C C' R.shown O (rw e at (entering_start O R.planted R.played))) R.fair fair' p x;
  }

  pub climbing_end : i ≡ 0 → Entered show n leaf a leads₀ keys₀ leads keys
  climbing_end z = record {
    seated = K.seated;
    kept = λ G C C' R fair' e O. entering_end O
        (rw z at (K.is G C C' R.shown O (rw e at (entering_start O R.planted R.played))));
  }

-- ---- a leaf has a new leader

-- from the leaf, whose leader is r₀ with the key k₀, to node i, which is to have the leader r with the key k
pub record Renewing (show : ℕ → ℕ → Rank) (n leaf r₀ k₀ : ℕ) (leads₀ keys₀ : List ℕ) (i r k : ℕ) (leads keys : List ℕ) : Type 0 where
  pub seated : Seated n leads
  pub on : r < n
  pub same_l : length leads ≡ length leads₀
  pub same_k : length keys ≡ length keys₀
  pub is : (G : Groups) (C : Contest) → WellRanked C → Shown C show → Planted G C.size → Mending G C leaf (set leads₀ leaf r₀) (set keys₀ leaf k₀)
      → Mending G C i (set leads i r) (set keys i k)

pub renewing_start : (show : ℕ → ℕ → Rank) {n : ℕ} {leads : List ℕ} (keys : List ℕ) (leaf r k : ℕ) → r < n → Seated n leads
    → Renewing show n leaf r k leads keys leaf r k leads keys
renewing_start show keys leaf r k o S = record { seated = S; on = o; same_l = refl; same_k = refl; is = λ G C _ _ _ M. M }

module _ {show : ℕ → ℕ → Rank} {n leaf r₀ k₀ : ℕ} {leads₀ keys₀ : List ℕ} {i r k : ℕ} {leads keys : List ℕ}
    (N : Renewing show n leaf r₀ k₀ leads₀ keys₀ i r k leads keys) (a : i < length leads) where
  -- node i has its leader, and every leader is one of the numbers still
  pub renewing_seated : Seated n (set leads i r)
  renewing_seated = seated_set i r a N.on N.seated

  -- of node i, which has its leader, and its sibling s, the node above is to have the sooner leader
  pub renewing_step : i < length keys → (s : ℕ) → 1 < i → s / 2 ≡ i / 2 → s ≢ i → (x : Bool)
      → sooner (show (at (set leads i r) s) (at (set keys i k) s)) (show r k) ≡ x
      → (q : ℕ) → q ≡ cond x (at (set leads i r) s) r → (l : ℕ) → l ≡ cond x (at (set keys i k) s) k
      → Renewing show n leaf r₀ k₀ leads₀ keys₀ (i / 2) q l (set leads i r) (set keys i k)
  renewing_step b s p e d x y q qe l le = record {
    seated = renewing_seated;
    on = rw qe (on x);
    same_l = rw length-set N.same_l;
    same_k = rw length-set N.same_k;
    is = λ G C fair S P M. rw (qe, le) (rw (leader, key) at (mending_step (N.is G C fair S P M) fair S P s p e d x (rw (leader, key) y)));
  }
    where
      leader : at (set leads i r) i ≡ r
      leader = get_or-set_same leads i r 0 a

      key : at (set keys i k) i ≡ k
      key = get_or-set_same keys i k 0 b

      on : (z : Bool) → cond z (at (set leads i r) s) r < n
      on true = renewing_seated.on s
      on false = N.on

  -- at the root all is made anew
  pub renewing_end : i ≤ 1 → Renewed show n leaf r₀ k₀ leads₀ keys₀ (set leads i r) (set keys i k)
  renewing_end l = record {
    seated = renewing_seated;
    kept = λ G C C' w fair S P E o e T L.
        let P' : Planted G C'.size = rw E.size_same P in
        mending_end (N.is G C' fair S P' (rw (← e) (mending_start E P o T (rw e L)))) l;
  }
