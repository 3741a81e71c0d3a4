-- What taking open vertices one after another finds, whichever is taken: nothing here knows of orders, lengths or parents.
-- Two tests, `seen` and `done`, are all that is asked of a state; a vertex is open if it is seen and not done. Assumes nothing.
use mathlib.Core.Path.{◌≡◌, refl, sym, ap, ap₂, ◌∙◌, subst}
use mathlib.Core.Logic.{◌⊎◌, inl, inr, ◌≢◌}
use mathlib.Core.Bool.{Bool, true, false, not, ◌&&◌, ◌||◌, false≢true}
use Prim.Native.Nat.{ℕ, zero, suc, ◌+◌, ◌≤◌, ◌<◌}
use native.Mathlib.Omega.{arith}
use native.Mathlib.Decide.{ℕ_discrete}
use lib.Dec.{eqb}
use borrow.Author.Tests.{eqb-true, eq-eqb, ne_eqb}
use Rattle.laws.proofs.Tests.{and_left, and_right, and_both, and_false, or_cases, or_left, or_right}
use Rattle.laws.specs.Below.{as_number, how_many}
use Rattle.laws.proofs.Below.{many_le, many_but_one, many_add, many_none, many_fewer}
use Rattle.reach.specs.Number.{pairs, Decides, Number, Number²}
use Rattle.reach.specs.Reach.{Reach, here, move, NearPair, Near, Ground}
use Rattle.reach.proofs.Counting.{pairs_same, pairs_mono, pairs_none}

-- u is taken: it was open, it is done, its near neighbours are seen, and nothing else changes
pub record Step (n : ℕ) (near : ℕ → ℕ → Bool) (u : ℕ) (seen done seen' done' : ℕ → Bool) : Type 0 where
  pub below : u < n
  pub was_seen : seen u ≡ true
  pub not_done : done u ≡ false
  pub done_now : (v : ℕ) → v < n → done' v ≡ (eqb v u || done v)
  pub seen_now : (v : ℕ) → v < n → seen' v ≡ (near u v || seen v)

-- what holds between the steps, with e vertices taken
pub record Inv (n : ℕ) (near : ℕ → ℕ → Bool) (start : ℕ) (seen done : ℕ → Bool) (e : ℕ) : Type 0 where
  pub first : seen start ≡ true
  pub sound : (v : ℕ) → v < n → seen v ≡ true → Reach near start v
  pub within : (v : ℕ) → v < n → done v ≡ true → seen v ≡ true
  pub closed : (u v : ℕ) → u < n → done u ≡ true → near u v ≡ true → seen v ≡ true
  pub taken : e ≡ how_many n done

-- a near pair with at least one end done: those whose test has been made
abbrev pub touched : (ℕ → ℕ → Bool) → (ℕ → Bool) → ℕ → ℕ → Bool
touched near done u v = near u v && (done u || done v)

-- the near neighbours of u that are not done: the tests that taking u costs
abbrev pub unmet : (ℕ → ℕ → Bool) → (ℕ → Bool) → ℕ → ℕ → Bool
unmet near done u v = near u v && not (done v)

-- t tests have been made, one for each near pair with an end done
abbrev pub Tested : ℕ → (ℕ → ℕ → Bool) → (ℕ → Bool) → ℕ → Type 0
Tested n near done t = t ≡ pairs n (touched near done)

-- no vertex is open
abbrev pub Idle : ℕ → (ℕ → Bool) → (ℕ → Bool) → Type 0
Idle n seen done = (v : ℕ) → v < n → seen v ≡ true → done v ≡ true

-- ---- the tests: taking u makes, for each near neighbour that is not done, one pair touched that was not

split_both : (x a : Bool) → as_number (x && (a || true)) ≡ as_number (x && (a || false)) + as_number (x && not a)
split_both true true = refl
split_both true false = refl
split_both false a = refl

split_one : (x a c : Bool) → as_number (x && (true || c)) ≡ as_number (x && (false || a)) + as_number (x && not a)
split_one true true c = refl
split_one true false c = refl
split_one false a c = refl

module _ {n : ℕ} {near : ℕ → ℕ → Bool} (N : Near n near) (u : ℕ) (done done' : ℕ → Bool) (un : done u ≡ false) (gain : done' u ≡ true)
    (keep : (v : ℕ) → v < n → v ≢ u → done' v ≡ done v) where
  touch_before : (k : ℕ) → k ≤ n → k ≤ u → pairs k (touched near done') ≡ pairs k (touched near done)
  touch_before k l m =
      pairs_same k (touched near done') (touched near done)
      (λ a b p q. ap₂ (λ (x y : Bool). near a b && (x || y)) (keep a (omega arith) (omega arith)) (keep b (omega arith) (omega arith)))

  touch_at : suc u ≤ n → pairs (suc u) (touched near done') ≡ pairs (suc u) (touched near done) + how_many (suc u) (unmet near done u)
  unfolding how_many
  touch_at l = omega (
    arith,
    touch_before u (omega arith) (omega arith),
    ap (λ (b : Bool). as_number (b && not (done u))) (N.irreflexive u),
    many_add (λ a. touched near done a u) (unmet near done u) (λ a. touched near done' a u) u
        (λ a p. rw (keep a (omega arith) (omega arith), gain, un, N.symmetric u a) (split_both (near a u) (done a))),
  )

  touch_after : (k : ℕ) → u < k → k ≤ n → pairs k (touched near done') ≡ pairs k (touched near done) + how_many k (unmet near done u)
  unfolding how_many
  touch_after zero l m = omega arith
  touch_after (suc k) l m = go (ℕ_discrete k u) (λ l'. touch_after k l' (omega arith))
    where
      go : Dec (k ≡ u) → (u < k → pairs k (touched near done') ≡ pairs k (touched near done) + how_many k (unmet near done u))
          → pairs (suc k) (touched near done') ≡ pairs (suc k) (touched near done) + how_many (suc k) (unmet near done u)
      go (yes e) ih = rw e (touch_at (omega arith))
      go (no e) ih =
          let d : as_number (touched near done' u k) ≡ as_number (touched near done u k) + as_number (unmet near done u k) =
          rw (gain, un) (split_one (near u k) (done k) (done' k)) in
          omega (
            arith,
            ih (omega arith),
            many_but_one (λ a. touched near done a k) (λ a. touched near done' a k) k u (omega arith)
                (λ a p q. ap₂ (λ (x y : Bool). near a k && (x || y)) (keep a (omega arith) q) (keep k (omega arith) e)),
          )

module _ {n : ℕ} {near : ℕ → ℕ → Bool} {start : ℕ} (F : Ground n near start) where
  pub reach_below : {v : ℕ} → Reach near start v → v < n
  reach_below here = F.start_on
  reach_below (move {u} {v} r e) = F.near_laws.below u v e

  -- ---- at the beginning the start alone is seen

  pub inv_start : (seen done : ℕ → Bool) → ((v : ℕ) → v < n → seen v ≡ eqb v start) → ((v : ℕ) → v < n → done v ≡ false)
      → Inv n near start seen done 0
  inv_start seen done a b = record {
    first = a start F.start_on ∙ eq-eqb start start refl;
    sound = λ v l e. subst (λ (x : ℕ). Reach near start x) (sym (eqb-true v start (sym (a v l) ∙ e))) here;
    within = λ v l e. absurd (false≢true (sym (b v l) ∙ e));
    closed = λ u v l e. absurd (false≢true (sym (b u l) ∙ e));
    taken = sym (many_none done n b);
  }

  pub tested_start : (done : ℕ → Bool) → ((v : ℕ) → v < n → done v ≡ false) → Tested n near done 0
  tested_start done b =
      sym (pairs_none n (touched near done) (λ u v l k. and_false (near u v) (rw (b u (omega arith), b v k) refl)))

  -- ---- a step keeps it

  module _ {u : ℕ} {seen done seen' done' : ℕ → Bool} (st : Step n near u seen done seen' done') where
    gain : done' u ≡ true
    gain = st.done_now u st.below ∙ or_left (done u) (eq-eqb u u refl)

    keep : (v : ℕ) → v < n → v ≢ u → done' v ≡ done v
    keep v l h = st.done_now v l ∙ ap (λ (b : Bool). b || done v) (ne_eqb v u h)

    still_seen : (v : ℕ) → v < n → seen v ≡ true → seen' v ≡ true
    still_seen v l h = st.seen_now v l ∙ or_right (near u v) h

    now_seen : (v : ℕ) → v < n → near u v ≡ true → seen' v ≡ true
    now_seen v l h = st.seen_now v l ∙ or_left (seen v) h

    pub tested_step : (t : ℕ) → Tested n near done t → Tested n near done' (t + how_many n (unmet near done u))
    tested_step t i = omega (arith, touch_after F.near_laws u done done' st.not_done gain keep n st.below (omega arith))

    pub inv_step : {e : ℕ} → Inv n near start seen done e → Inv n near start seen' done' (e + 1)
    inv_step {e} i = record {
      first = still_seen start F.start_on i.first;
      sound = λ v l h. sound v l (or_cases (near u v) (seen v) (sym (st.seen_now v l) ∙ h));
      within = λ v l h. still_seen v l (within v l (or_cases (eqb v u) (done v) (sym (st.done_now v l) ∙ h)));
      closed = λ a b l h m. closed a b l m (or_cases (eqb a u) (done a) (sym (st.done_now a l) ∙ h));
      taken = omega (arith, i.taken, many_but_one done done' n u st.below keep, ap as_number gain, ap as_number st.not_done);
    }
      where
        sound : (v : ℕ) → v < n → (near u v ≡ true) ⊎ (seen v ≡ true) → Reach near start v
        sound v l (inl h) = move (i.sound u st.below st.was_seen) h
        sound v l (inr h) = i.sound v l h

        within : (v : ℕ) → v < n → (eqb v u ≡ true) ⊎ (done v ≡ true) → seen v ≡ true
        within v l (inl h) = ap seen (eqb-true v u h) ∙ st.was_seen
        within v l (inr h) = i.within v l h

        closed : (a b : ℕ) → a < n → near a b ≡ true → (eqb a u ≡ true) ⊎ (done a ≡ true) → seen' b ≡ true
        closed a b l m (inl h) = now_seen b (F.near_laws.below a b m) (rw (eqb-true a u h) at m)
        closed a b l m (inr h) = still_seen b (F.near_laws.below a b m) (i.closed a b l h m)

  -- ---- what it says between the steps, and at the end

  module _ {seen done : ℕ → Bool} {e : ℕ} (i : Inv n near start seen done e) where
    done_reach : (v : ℕ) → v < n → done v ≡ true → Reach near start v
    done_reach v l h = i.sound v l (i.within v l h)

    -- no vertex is open: every reachable vertex is done
    pub all_done : Idle n seen done → {v : ℕ} → Reach near start v → done v ≡ true
    all_done z here = z start F.start_on i.first
    all_done z (move {u} {v} r h) = z v (F.near_laws.below u v h) (i.closed u v (reach_below r) (all_done z r) h)

    idle_decides : Idle n seen done → Decides n (Reach near start) done
    idle_decides z = record { yes_has = done_reach; has_yes = λ v l r. all_done z r }

    pub idle_number : Idle n seen done → Number n (Reach near start) e
    idle_number z = (done, idle_decides z, i.taken)

    touched_pair : (u v : ℕ) → u < v → v < n → touched near done u v ≡ true → NearPair near start u v
    touched_pair u v l m h =
        go (and_left (near u v) (done u || done v) h) (or_cases (done u) (done v) (and_right (near u v) (done u || done v) h))
      where
        go : near u v ≡ true → (done u ≡ true) ⊎ (done v ≡ true) → NearPair near start u v
        go j (inl d) = record { joined = j; one = done_reach u (omega arith) d; other = move (done_reach u (omega arith) d) j }
        go j (inr d) = record { joined = j; one = move (done_reach v m d) (F.near_laws.symmetric v u ∙ j); other = done_reach v m d }

    pub idle_pairs : (t : ℕ) → Tested n near done t → Idle n seen done → Number² n (NearPair near start) t
    idle_pairs t m z = (
      touched near done,
      record { yes_has = touched_pair; has_yes = λ u v l m q. and_both q.joined (or_left (done v) (all_done z q.one)) },
      m,
    )

    -- a vertex that is open is reachable and not counted
    pub open_fewer : (v k : ℕ) → v < n → seen v ≡ true → done v ≡ false → Number n (Reach near start) k → e < k
    open_fewer v k l a b (p, d, q) = omega (
      arith,
      i.taken,
      q,
      many_fewer done p n v l b (d.has_yes v l (i.sound v l a)) (λ w m h. d.has_yes w m (done_reach w m h)),
    )

    -- a vertex that is not done leaves room for one more
    pub open_room : (v : ℕ) → v < n → done v ≡ false → e < n
    open_room v l b =
        omega (arith, i.taken, many_fewer done (λ _. true) n v l b refl (λ w m h. refl), many_le (λ _. true) n)

    pub tests_at_most : (t k : ℕ) → Tested n near done t → Number² n (NearPair near start) k → t ≤ k
    tests_at_most t k m (p, d, q) =
        omega (arith, m, q, pairs_mono n (touched near done) p (λ u v l m h. d.has_yes u v l m (touched_pair u v l m h)))
