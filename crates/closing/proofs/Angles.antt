-- None means none at any angle: where legs with sight, of any lengths, lead from the start to the goal, single moves between visible
-- neighbours join the two, so that a search finds a path. Assumes nothing.
use Prim.Native.Nat.{ℕ, ◌+◌, ◌-◌, ◌≤◌, ◌<◌}
use mathlib.Core.Path.{◌≡◌, sym, ap, ◌∙◌, subst, subst₂}
use mathlib.Core.Logic.{◌⊎◌, inl, inr, ⊎_elim}
use mathlib.Core.Bool.{true}
use mathlib.Core.List.{List}
use native.Mathlib.Omega.{arith}
use lib.ListN.{length, take}
use Rattle.laws.proofs.Tests.{order}
use Rattle.board.specs.Board.{Board, vertices, number}
use Rattle.board.specs.Handed.{Handed}
use Rattle.legs.specs.Pinched.{admitted}
use Rattle.legs.specs.Neighbours.{visible}
use Rattle.legs.proofs.Visible.{start_admitted, goal_admitted, unpinched_admitted}
use Rattle.reach.specs.Reach.{Reach}
use Rattle.reach.specs.Turns.{at}
use Rattle.joined.proofs.Chains.{list_joined}
use Rattle.problem.specs.Problem.{sees_from, problem}
use Rattle.router.specs.Answers.{Route, Slices, Routed}
use Rattle.router.proofs.Demands.{route_exhaustive, route_rightly, route_unpinched}
use Rattle.closing.specs.Demands.{HasPath, the_path, Row, holds, passed, GivenBySearch, Given, Searched, Leads, AnyAngle}

-- ---- a list that leads

module _ {b : Board} {sx sy gx gy : ℕ} {list : List ℕ} (L : Leads b sx sy gx gy list) where
  abbrev start : ℕ
  start = number b sx sy

  abbrev goal : ℕ
  goal = number b gx gy

  -- each of its vertices is admitted: it is the start, or the goal, or not pinched
  leads_admitted : (i : ℕ) → i < length list → admitted b start goal (at list i) ≡ true
  leads_admitted i l =
      ⊎_elim (λ (z : i < 1). let e : i ≡ 0 = omega arith in carried (sym (ap (at list) e ∙ L.first)) (start_admitted b start goal))
      (λ (z : 1 ≤ i). ⊎_elim (λ (k : i + 1 < length list). unpinched_admitted b start goal (at list i) (L.unpinched i z k))
      (λ (k : length list ≤ i + 1).
      let e : i ≡ length list - 1 = omega arith in
      carried (sym (ap (at list) e ∙ L.last)) (goal_admitted b start goal))
      (order (i + 1) (length list)))
      (order i 1)
    where
      carried : {u v : ℕ} → u ≡ v → admitted b start goal u ≡ true → admitted b start goal v ≡ true
      carried e = subst (λ (v : ℕ). admitted b start goal v ≡ true) e

  -- so single moves join its first to its last
  pub leads_joined : HasPath b sx sy gx gy
  leads_joined =
      let few : 0 < length list = L.some in
      let on : (i : ℕ) → i ≤ length list - 1 → at list i < vertices b = λ i l. L.on_board i (omega arith) in
      let seen : (i : ℕ) → i < length list - 1 → sees_from b (at list i) (at list (i + 1)) ≡ true = λ i l. L.sight i (omega arith) in
      subst₂ (λ (s t : ℕ). Reach (visible b start goal) s t) L.first L.last
      (list_joined b start goal list (length list - 1) on seen (λ i l. leads_admitted i (omega arith)))

-- ---- what number such a request gets

-- a number that is not this row's is given by a later one
row_later : {k : ℕ} {C : ℕ → Type 0} {After : ℕ → ℕ → Type 0} {n p : ℕ} → (n ≡ k → ⊥) → Row k C After n p → After n p
row_later d (holds e c) = absurd (d e)
row_later d (passed x r) = r

-- 7 is given where the path is longer than the path slice
seven_short : (b : Board) (sx sy gx gy : ℕ) (lent : Slices) (n place : ℕ) → n ≡ 7 → Given b sx sy gx gy lent n place
    → length lent.path < length (the_path b sx sy gx gy)
seven_short b sx sy gx gy lent n place e G =
    short (row_later (λ f. omega arith) (row_later (λ f. omega arith) (row_later (λ f. omega arith)
    (row_later (λ f. omega arith) (row_later (λ f. omega arith) (row_later (λ f. omega arith) G))))))
  where
    short : GivenBySearch b sx sy gx gy lent n place → length lent.path < length (the_path b sx sy gx gy)
    short (holds f c) = omega (arith, c.0, c.2)
    short (passed x r) = absurd (row_later (λ f. omega arith) (row_later (λ f. omega arith) r))

-- ---- of every call, by its contract and the number that it is given

module _ {b : Board} {sx sy gx gy : ℕ} {before after : Slices} {h : Handed Route} (R : Routed b sx sy gx gy before after h) where
  -- not 8, where a list leads
  not_none : (list : List ℕ) → Leads b sx sy gx gy list → h.number ≡ 8 → ⊥
  not_none list L e = (route_exhaustive R).none_apart e (leads_joined L)

  -- with 0 the path is such a list
  path_leads : h.number ≡ 0 → Leads b sx sy gx gy (take h.values.vertices after.path)
  unfolding problem
  path_leads e =
      let r = (route_rightly R e).route in
      record { some = r.some; first = r.first; last = r.last; on_board = r.on; sight = r.sight; unpinched = (route_unpinched R e).between }

  pub any_angle : Given b sx sy gx gy before h.number h.place → AnyAngle b sx sy gx gy before after h
  any_angle G = record {
    path_given = λ list L. ⊎_elim (λ (e : h.number ≡ 0). e) (λ (e : h.number ≡ 8). absurd (not_none list L e));
    or_short = λ list L.
        ⊎_elim (λ (e : h.number ≡ 0). inl e)
        (⊎_elim (λ (e : h.number ≡ 7). inr (e, seven_short b sx sy gx gy before h.number h.place e G)) (λ (e : h.number ≡ 8). absurd (not_none list L e)));
    path_leads = path_leads;
  }
