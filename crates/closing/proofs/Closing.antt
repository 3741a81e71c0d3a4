-- The three demands, what the search leaves, that a path squeezes through no pinched vertex, and that none means none at any angle:
-- of every call of the route, and of every call from C. The only premise is the call's contract, that is what it hands back and
-- what the slices hold before and after it; specs/Demands.antt says each. Assumes nothing.
use mathlib.Core.Path.{◌≡◌, sym, ap, ◌∙◌, subst}
use Prim.Native.Nat.{ℕ}
use Rattle.board.specs.Board.{Board}
use Rattle.board.specs.Handed.{Handed}
use Rattle.router.specs.Answers.{Route, Slices, Routed}
use Rattle.router.specs.Demands.{Exhaustive}
use Rattle.router.proofs.Demands.{route_exhaustive, route_unpinched}
use Rattle.routing.specs.declared.Found.{Found}
use Rattle.routing.specs.Routing.{told_route}
use Rattle.routing.specs.Calls.{RoutedForC}
use Rattle.closing.specs.Demands.{Given, Numbered, Kept, Theta, Searched, Left, KeepsClear, AnyAngle, fields}
use Rattle.closing.proofs.Table.{row_first, row_only, row_known, row_bare}
use Rattle.closing.proofs.Leaving.{kept, as_theta, left}
use Rattle.closing.proofs.Angles.{any_angle}

-- ---- the route call, by its contract

module _ {b : Board} {sx sy gx gy : ℕ} {before after : Slices} {h : Handed Route} (R : Routed b sx sy gx gy before after h) where
  numbered : Numbered b sx sy gx gy before h
  numbered =
      let given : Given b sx sy gx gy before h.number h.place =
      subst (λ (x : Handed Route). Given b sx sy gx gy before x.number x.place) (sym R.row_is) (row_first b sx sy gx gy before) in
      let bare = row_bare b sx sy gx gy before in
      record {
        given = given;
        only = λ n place g. row_only b sx sy gx gy before n place h.number h.place g given;
        known = row_known b sx sy gx gy before given;
        second = ap (λ (x : Handed Route). x.second) R.row_is ∙ bare.0;
        no_values = rw R.row_is bare.1;
      }

  -- the number and the place, and what stays as it was
  pub route_demand_1 : Numbered b sx sy gx gy before h × Kept b before after h
  route_demand_1 = (numbered, kept R)

  -- the path of Basic Theta*, its length and its counts
  pub route_demand_2 : Theta b sx sy gx gy after h
  route_demand_2 = as_theta R

  -- a path exactly if there is one, and how much was searched
  pub route_demand_3 : Exhaustive b sx sy gx gy h
  route_demand_3 = route_exhaustive R

  -- the work slices
  pub route_leaves : Searched h.number → Left b sx sy gx gy after h
  route_leaves = left R

  -- the path squeezes through no pinched vertex
  pub route_keeps_clear : KeepsClear b after h
  route_keeps_clear = route_unpinched R

  -- none means none at any angle
  pub route_any_angle : AnyAngle b sx sy gx gy before after h
  route_any_angle = any_angle R numbered.given

-- ---- the call from C, by its contract: the same of the struct's fields

-- a route for C is a route, as its struct has it
pub c_routed : {b : Board} {sx sy gx gy : ℕ} {before after : Slices} {r : Found} → RoutedForC b sx sy gx gy before after r
    → Routed b sx sy gx gy before after (fields r)
c_routed R = record { row_is = ap fields R.told; after_is = R.after_is }

module _ {b : Board} {sx sy gx gy : ℕ} {before after : Slices} {r : Found} (R : RoutedForC b sx sy gx gy before after r) where
  pub c_demand_1 : Numbered b sx sy gx gy before (fields r) × Kept b before after (fields r)
  c_demand_1 = route_demand_1 (c_routed R)

  pub c_demand_2 : Theta b sx sy gx gy after (fields r)
  c_demand_2 = route_demand_2 (c_routed R)

  pub c_demand_3 : Exhaustive b sx sy gx gy (fields r)
  c_demand_3 = route_demand_3 (c_routed R)

  pub c_leaves : Searched r.number → Left b sx sy gx gy after (fields r)
  c_leaves = route_leaves (c_routed R)

  pub c_keeps_clear : KeepsClear b after (fields r)
  c_keeps_clear = route_keeps_clear (c_routed R)

  pub c_any_angle : AnyAngle b sx sy gx gy before after (fields r)
  c_any_angle = route_any_angle (c_routed R)
