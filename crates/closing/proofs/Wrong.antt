-- The wrong routers that document 01 names break the demands, on a board of one cell, and one that misses a slanted leg breaks item 10,
-- on a board of two; with no premise but the demand. Assumes nothing.
use mathlib.Core.Path.{◌≡◌, sym, ◌∙◌}
use mathlib.Core.Logic.{inr, ◌≢◌}
use Prim.Native.Nat.{ℕ, ◌<◌}
use native.Mathlib.Omega.{arith}
use Rattle.board.specs.Handed.{Handed}
use Rattle.router.specs.Answers.{Route, Slices}
use Rattle.router.specs.Demands.{Exhaustive}
use Rattle.closing.specs.Demands.{HasPath, Numbered, Left, AnyAngle}
use Rattle.closing.proofs.Closing.{route_demand_1, route_demand_3}
use Rattle.closing.proofs.Examples.{free, full, lent, routed, examples, wide, slant, slant_leads}

-- a path joins the corners of the free cell, and none those of the blocked one
joined : HasPath free 0 0 1 1
joined = (route_demand_3 (routed free 0 0 1 1 (lent 2))).path_joined examples.0

apart : HasPath full 0 0 1 1 → ⊥
apart = (route_demand_3 (routed full 0 0 1 1 (lent 2))).none_apart examples.2

module _ (h : Handed Route) where
  -- one that always refuses breaks demand 1
  pub always_refuses : 0 < h.number → Numbered free 0 0 1 1 (lent 2) h → ⊥
  always_refuses l N =
      let z : 0 ≡ h.number = sym examples.0 ∙ (N.only _ _ (route_demand_1 (routed free 0 0 1 1 (lent 2))).0.given).0 in
      omega arith

  -- one that always says none breaks demand 3
  pub always_none : h.number ≡ 8 → Exhaustive free 0 0 1 1 h → ⊥
  always_none e E = E.none_apart e joined

  -- and so does one that always gives a path
  pub always_a_path : h.number ≡ 0 → Exhaustive full 0 0 1 1 h → ⊥
  always_a_path e E = apart (E.path_joined e)

  -- one that says none where a slanted leg leads breaks item 10
  pub none_at_an_angle : {before after : Slices} → h.number ≡ 8 → AnyAngle wide 0 0 2 1 before after h → ⊥
  none_at_an_angle e A = let z = A.path_given slant slant_leads (inr e) in omega arith

  -- one that writes no work slice leaves the goal unseen
  pub writes_nothing : h.number ≢ 8 → Left free 0 0 1 1 (lent 2) h → ⊥
  writes_nothing d L = let z : ◌≡◌ {A = ℕ} 0 1 = L.goal_open d in omega arith
