-- The round goes over the places round the taken vertex: what holds once those below a place have been passed. Assumes nothing.
use mathlib.Core.Path.{◌≡◌, sym, ap, ◌∙◌}
use mathlib.Core.Logic.{⊎_elim}
use mathlib.Core.Bool.{true, ◌&&◌, true≢false}
use mathlib.Core.List.{List}
use Prim.Native.Nat.{ℕ, ◌+◌, ◌≤◌, ◌<◌}
use native.Mathlib.Omega.{arith}
use lib.Dec.{leb}
use lib.Pow.{pow_pos}
use borrow.Author.Tests.{lt-ltb, le-ltb, le-leb, leb-true, lt-leb}
use Rattle.laws.proofs.Tests.{order, and_both, and_left, and_right, false_of}
use Rattle.glance.specs.Glance.{bit, Lowest, Without, InSight, Glanced}
use Rattle.glance.proofs.Bits.{no_bit}
use Rattle.offers.specs.declared.request.Request.{Request}
use Rattle.offers.specs.declared.Spot.{Spot}
use Rattle.problem.specs.Problem.{problem}
use Rattle.offers.specs.Request.{board_of, asked, size_of}
use Rattle.theta.specs.Search.{State}
use Rattle.theta.specs.Lent.{Rounded, Looked}
use Rattle.offers.specs.Offers.{Taken}
use Rattle.theta.proofs.Tidy.{SameSizes}
use Rattle.theta.proofs.Rounds.{rounded_none, rounded_more, rounded_skip, rounded_sizes, rounded_tests, rounded_parent, rounded_ready}
use Rattle.round.proofs.inner.Places.{At, at_order, at_later, near_place}

-- of the mask's bits those from a place on are left, and the vertices below a number have been looked at: those at the places before
pub record Passed (q : Request) (u : Spot) (mask : ℕ) (before : State) (left : ℕ) (s : State) : Type 0 where
  pub glanced : Glanced (board_of q) u.x u.y mask
  pub place : ℕ
  pub number : ℕ
  pub on : number ≤ size_of q
  pub rest : (k : ℕ) → bit left k ≡ (leb place k && bit mask k)
  pub passed : (k v : ℕ) → At (board_of q) u k v → k < place → v < number
  pub to_come : (k v : ℕ) → At (board_of q) u k v → place ≤ k → number ≤ v
  pub rounded : Rounded (asked q) u.number number before s

-- nothing has been passed yet
pub passed_none : {q : Request} {u : Spot} {mask : ℕ} (before : State)
    → Glanced (board_of q) u.x u.y mask → Passed q u mask before mask before
passed_none {q} {u} before G = record {
  glanced = G;
  place = 0;
  number = 0;
  on = omega arith;
  rest = λ k. rw (le-leb 0 k (omega arith));
  passed = λ k v A h. absurd (omega arith);
  to_come = λ k v A h. omega arith;
  rounded = rounded_none (asked q) u.number before;
}

-- what a round leaves as it was, however far it has come
module _ {q : Request} {u from : Spot} {before : State} (T : Taken q u from before) {k : ℕ} {s : State}
    (R : Rounded (asked q) u.number k before s) (l : k ≤ size_of q) where
  -- the taken vertex
  pub still_taken : Taken q u from s
  unfolding problem
  still_taken = record {
    placed = T.placed;
    placed_parent = T.placed_parent;
    parent_is = rounded_parent R T.ready l ∙ T.parent_is;
    ready = rounded_ready R T.ready l;
  }

  -- no more tests than vertices
  pub few_tests : s.tests ≤ before.tests + k
  unfolding problem
  few_tests = rounded_tests R T.ready l

  pub same_sizes : SameSizes before s
  unfolding problem
  same_sizes = rounded_sizes R T.ready l

module _ {q : Request} {u from : Spot} {before : State} (T : Taken q u from before)
    {mask left : ℕ} {s : State} (P : Passed q u mask before left s) where
  -- a place from that one on has its bit, if its vertex is near
  near_left : (v : ℕ) → P.number ≤ v → (asked q).near u.number v ≡ true → (k : ℕ) × At (board_of q) u k v × (bit left k ≡ true)
  near_left v l h =
      let (k, A, other) = near_place (board_of q) q.sx q.sy q.gx q.gy T.placed v h in
      let later : P.place ≤ k =
      ⊎_elim (λ (e : k < P.place). absurd (omega (arith, P.passed k v A e))) (λ (g : P.place ≤ k). g) (order k P.place) in
      (k, A, rw (P.rest k) (and_both (le-leb P.place k later) (P.glanced.complete k A.sight other)))

  -- no bit is left: all vertices have been passed
  pub passed_all : left ≡ 0 → Rounded (asked q) u.number (size_of q) before s
  passed_all e =
      rounded_skip P.rounded (size_of q) P.on
      (λ v l _. false_of _ (λ h. let (k, A, set) = near_left v l h in true≢false (sym set ∙ ap (λ (n : ℕ). bit n k) e ∙ no_bit 0 k (pow_pos k))))

  -- the first place that is left
  module _ {z : ℕ} (L : Lowest left z) where
    left_both : (leb P.place z ≡ true) × (bit mask z ≡ true)
    left_both =
        let both = sym (P.rest z) ∙ L.set in
        (and_left (leb P.place z) (bit mask z) both, and_right (leb P.place z) (bit mask z) both)

    pub left_sight : InSight (board_of q) u.x u.y z
    left_sight = P.glanced.sound z left_both.1

    left_later : P.place ≤ z
    left_later = leb-true P.place z left_both.0

    module _ {n : ℕ} (A : At (board_of q) u z n) where
      -- the vertices before it are not near
      pub passed_before : Rounded (asked q) u.number n before s
      passed_before =
          rounded_skip P.rounded n (P.to_come z n A left_later) (λ v l h. false_of _ (λ e.
          let (k, B, set) = near_left v l e in
          ⊎_elim (λ (f : k < z). true≢false (sym set ∙ L.below k f)) (λ (g : z ≤ k). omega (arith, at_later A B g)) (order k z)))

      -- it has been looked at: the round goes on behind it
      pub passed_more : {r : ℕ} {after : State} → Without left r → n < size_of q → Looked (asked q) u.number n s after
          → Passed q u mask before r after
      passed_more {r} W l K = record {
        glanced = P.glanced;
        place = z + 1;
        number = n + 1;
        on = omega arith;
        rest = rest;
        passed = λ k v B h. omega (arith, at_later B A (omega arith));
        to_come = λ k v B h. omega (arith, at_order A B (omega arith));
        rounded = rounded_more passed_before K;
      }
        where
          rest : (k : ℕ) → bit r k ≡ (leb (z + 1) k && bit mask k)
          rest k =
              ⊎_elim
              (λ (f : z < k).
              rw (W.others z L k, P.rest k, lt-ltb z k f, le-leb (z + 1) k (omega arith), le-leb P.place k (omega (arith, left_later))))
              (λ (g : k ≤ z). rw (W.others z L k, le-ltb z k g, lt-leb (z + 1) k (omega arith))) (order z k)
