use mathlib.Core.Path.{◌≡◌, refl}
use native.Mathlib.Omega.{arith}
use Rattle.spans.specs.Legs.{step}
use Rattle.length.specs.Units.{units}
use Rattle.table.proofs.Table.{known_leg}
use Rattle.open.proofs.Looking.{units_small}
use Rattle.open.proofs.Listing.{listed_opened}
use Rattle.open.proofs.list.open_vertex.Goals as goal

pub units_between-requires : goal.units_between-requires
units_between-requires c =
    let D = c.requires.sited in
    let (small, known) = known_leg c.requires.known (D.narrow, D.low) (omega (arith, D)) in
    record { ax_le_largest_side = small; known = known }

pub overflow_add-f : goal.overflow_add-f
overflow_add-f c =
    let a = c.args in
    let D = c.requires.sited in
    omega (
      arith,
      c.requires.lower.small,
      c.units_between.ensures,
      units_small a.x a.y a.gx a.gy (omega (arith, D)) (omega (arith, D)) (omega (arith, D)) (omega (arith, D)),
    )

-- h is the length of the leg to the goal
h_is : (k : goal.After-slice_known-7-1) → let a = k.args in k.units_between.result ≡ units (step a.x a.gx) (step a.y a.gy)
h_is k = k.units_between.ensures

pub returns : goal.returns
returns c =
    let O =
    listed_opened c.requires.sited c.requires.lower c.requires.listed (h_is c) (rw c.leaf.ensures at c.enter.ensures) in
    record { g_is = refl; legs_is = refl; mark_is = refl; listed = O.listed }
