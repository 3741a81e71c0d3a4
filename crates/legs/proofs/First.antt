-- The first stop of a leg: none exactly where each is clear, and else the first that is not. Assumes nothing.
use Prim.Native.Nat.{ℕ, zero, suc, ◌≤◌, ◌<◌}
use mathlib.Core.Path.{◌≡◌, refl, sym, ap, ◌∙◌, subst}
use mathlib.Core.Logic.{◌⊎◌, inl, inr, ⊎_elim}
use mathlib.Core.Bool.{Bool, true, false, not, cond, false≢true, true≢false}
use native.Mathlib.Omega.{arith}
use borrow.Author.Tests.{eq-eqb, ne_eqb}
use Rattle.laws.proofs.Tests.{order, bool_cases, false_of, and_false}
use Rattle.board.specs.Board.{Board}
use Rattle.legs.specs.declared.Stop.{Stop}
use Rattle.legs.specs.declared.Stop.TheVariants.{Clear, Cell, Edge, Vertex}
use Rattle.legs.specs.Pinched.{pinched}
use Rattle.legs.specs.Sight.{strictly_inside}
use Rattle.legs.specs.Leg.{vertex_at}
use Rattle.legs.specs.Stops.{is_clear, or_else, first_of, vertex_stop, cells_stop, edge_from, corner_stop, edges_stop, first_stop}
use Rattle.legs.proofs.Axis.{vertex_start}
use Rattle.legs.proofs.Inside.{not_first}

pub stop_stays : (s t : Stop) → is_clear s ≡ false → or_else s t ≡ s
stop_stays Clear t h = absurd (true≢false h)
stop_stays (Cell x y) t h = refl
stop_stays (Edge x₁ y₁ x₂ y₂) t h = refl
stop_stays (Vertex x y) t h = refl

-- nothing stops the leg
pub first_clear : (n : ℕ) (f : ℕ → Stop) → ((k : ℕ) → k < n → f k ≡ Clear) → first_of n f ≡ Clear
unfolding first_of
first_clear zero f h = refl
first_clear (suc n) f h = rw (first_clear n f (λ k l. h k (omega arith))) (h n (omega arith))

-- the first thing that does is the one at k
pub first_at : (n : ℕ) (f : ℕ → Stop) (k : ℕ) (s : Stop) → k < n → ((j : ℕ) → j < k → f j ≡ Clear) → f k ≡ s → is_clear s ≡ false → first_of n f ≡ s
unfolding first_of
first_at zero f k s l h e q = absurd (omega arith)
first_at (suc n) f k s l h e q =
    ⊎_elim
    (λ (m : k < n). rw (first_at n f k s m h e q) (stop_stays s (f n) q))
    (λ (m : n ≤ k). let p : k ≡ n = omega arith in rw (first_clear n f (λ j b. h j (omega arith))) (rw p at e))
    (order k n)

-- where nothing stops it, nothing does at any place
pub clear_is : (s : Stop) → is_clear s ≡ true → s ≡ Clear
clear_is Clear h = refl
clear_is (Cell x y) h = absurd (false≢true h)
clear_is (Edge x₁ y₁ x₂ y₂) h = absurd (false≢true h)
clear_is (Vertex x y) h = absurd (false≢true h)

-- of two stops, the first and then the second
pub neither : (s t : Stop) → or_else s t ≡ Clear → (s ≡ Clear) × (t ≡ Clear)
neither Clear t e = (refl, e)
neither (Cell x y) t e = absurd (false≢true (ap is_clear e))
neither (Edge x₁ y₁ x₂ y₂) t e = absurd (false≢true (ap is_clear e))
neither (Vertex x y) t e = absurd (false≢true (ap is_clear e))

pub either : (r t s : Stop) → or_else r t ≡ s → (r ≡ s) ⊎ ((r ≡ Clear) × (t ≡ s))
either Clear t s e = inr (refl, e)
either (Cell x y) t s e = inl e
either (Edge x₁ y₁ x₂ y₂) t s e = inl e
either (Vertex x y) t s e = inl e

pub first_none : (n : ℕ) (f : ℕ → Stop) → first_of n f ≡ Clear → (k : ℕ) → k < n → f k ≡ Clear
unfolding first_of
first_none zero f e k l = absurd (omega arith)
first_none (suc n) f e k l =
    let (before, here) = neither (first_of n f) (f n) e in
    ⊎_elim (λ (m : k < n). first_none n f before k m)
    (λ (m : n ≤ k). let p : n ≡ k = omega arith in subst (λ (j : ℕ). f j ≡ Clear) p here) (order k n)

-- where something does, there is a place at which it does, the first
pub record Found (n : ℕ) (f : ℕ → Stop) (s : Stop) : Type 0 where
  pub place : ℕ
  pub below : place < n
  pub here : f place ≡ s
  pub past : (k : ℕ) → k < place → f k ≡ Clear

pub first_found : (n : ℕ) (f : ℕ → Stop) (s : Stop) → first_of n f ≡ s → is_clear s ≡ false → Found n f s
unfolding first_of
first_found zero f s e h = absurd (true≢false (ap is_clear e ∙ h))
first_found (suc n) f s e h =
    ⊎_elim
    (λ (c : is_clear (first_of n f) ≡ true).
    let d = clear_is (first_of n f) c in
    record { place = n; below = omega arith; here = rw d at e; past = first_none n f d })
    (λ (c : is_clear (first_of n f) ≡ false).
    let r = first_found n f s (sym (stop_stays (first_of n f) (f n) c) ∙ e) h in
    record { place = r.place; below = omega (arith, r.below); here = r.here; past = r.past })
    (bool_cases (is_clear (first_of n f)))

-- ---- a stop under a test

pub cond_clear : (t : Bool) (s : Stop) → is_clear s ≡ false → is_clear (cond t s Clear) ≡ not t
cond_clear true s e = e
cond_clear false s e = refl

pub cond_stops : (t : Bool) (r s : Stop) → cond t r Clear ≡ s → is_clear s ≡ false → (t ≡ true) × (r ≡ s)
cond_stops true r s e h = (refl, e)
cond_stops false r s e h = absurd (true≢false (ap is_clear e ∙ h))

pub edge_stops : (level : Bool) (c p q : ℕ) → is_clear (edge_from level c p q) ≡ false
unfolding edge_from
edge_stops true c p q = refl
edge_stops false c p q = refl

-- ---- a vertex

module _ (b : Board) (ax ay bx by x y : ℕ) where
  pub vertex_stops : strictly_inside ax ay bx by x y ≡ true → pinched b x y ≡ true → vertex_stop b ax ay bx by x y ≡ Vertex x y
  unfolding vertex_stop
  vertex_stops i w = rw (i, w)

  pub outside_clear : (strictly_inside ax ay bx by x y ≡ true → ⊥) → vertex_stop b ax ay bx by x y ≡ Clear
  unfolding vertex_stop
  outside_clear h = rw (false_of (strictly_inside ax ay bx by x y) h)

  pub unpinched_clear : pinched b x y ≡ false → vertex_stop b ax ay bx by x y ≡ Clear
  unfolding vertex_stop
  unpinched_clear e = rw (e, and_false (strictly_inside ax ay bx by x y) refl)

-- the leg's first end does not stop it
pub start_clear : (b : Board) (ax ay bx by : ℕ) → vertex_stop b ax ay bx by (vertex_at ax bx 0) (vertex_at ay by 0) ≡ Clear
start_clear b ax ay bx by =
    outside_clear b ax ay bx by _ _ (λ i. not_first ax ay bx by _ _ i (vertex_start ax bx 0 refl) (vertex_start ay by 0 refl))

-- nor does that of a leg along an axis
pub first_corner : (b : Board) (level : Bool) (c p q : ℕ) → corner_stop b level c p q 0 ≡ Clear
unfolding corner_stop
first_corner b true c p q = rw (vertex_start c c 0 refl) at (start_clear b p c q c)
first_corner b false c p q = rw (vertex_start c c 0 refl) at (start_clear b c p c q)

-- ---- the first stop in each direction

module _ (b : Board) (ax ay bx by : ℕ) where
  pub level_stop : ay ≡ by → first_stop b ax ay bx by ≡ edges_stop b true ay ax bx
  unfolding first_stop
  level_stop e = rw (eq-eqb ay by e)

  pub upright_stop : (ay ≡ by → ⊥) → ax ≡ bx → first_stop b ax ay bx by ≡ edges_stop b false ax ay by
  unfolding first_stop
  upright_stop n e = rw (ne_eqb ay by n, eq-eqb ax bx e)

  pub slanted_stop : (ay ≡ by → ⊥) → (ax ≡ bx → ⊥) → first_stop b ax ay bx by ≡ cells_stop b ax ay bx by
  unfolding first_stop
  slanted_stop n m = rw (ne_eqb ay by n, ne_eqb ax bx m)
