use mathlib.Core.Bool.{true, false}
use mathlib.Core.Path.{sym, subst}
use Prim.Native.Nat.{◌+◌, ◌-◌, ◌*◌, ◌≤◌, ◌<◌}
use native.Mathlib.Omega.{arith}
use Rattle.table.proofs.Table.{known_leg}
use Rattle.tournament.specs.declared.tree.Leader.{Leader}
use Rattle.open.specs.Groups.{group_start, group_end}
use Rattle.open.proofs.Looking.{units_small, strip_below, Looking, looking_closed, looking_open, looked}
use Rattle.open.proofs.list.look.Goals as goal
use Rattle.open.proofs.list.look.Goals.{then-marks-v-eq1+then-ahead, then-marks-v-eq1+else-ahead, else-marks-v-eq1}

-- the vertex is one of the group's, and one of the board's, in the row y
pub units_between-requires : goal.units_between-requires
units_between-requires c =
    let D = c.requires.sited in
    let inside = strip_below D c.loop-v.v (omega (arith, c.loop-v-test.true, c.group_end.ensures)) in
    let (small, known) = known_leg c.requires.known (D.narrow, D.low) (omega (arith, D, inside.0)) in
    record { ax_le_largest_side = small; known = known }

pub overflow_add-f : goal.overflow_add-f
overflow_add-f c =
    let a = c.args in
    let v = c.loop-v.v in
    let D = c.requires.sited in
    let inside = strip_below D v (omega (arith, c.loop-v-test.true, c.group_end.ensures)) in
    omega (
      arith,
      c.requires.small.small v inside.1 c.if-marks-v-eq1.true,
      c.units_between.ensures,
      units_small (v - a.y * (a.width + 1)) a.y a.gx a.gy (omega (arith, D, inside.0)) (omega (arith, D)) (omega (arith, D)) (omega (arith, D)),
    )

pub loop-v-preserved : goal.loop-v-preserved
loop-v-preserved c =
    let a = c.args in
    let D = c.requires.sited in
    let S = c.requires.small in
    let L = c.loop-v.invariant in
    let P : Leader → Type 0 = λ first. Looking a.width a.height a.x a.y a.gx a.gy a.g.now a.marks.now a.legs.now (c.loop-v.v + 1) first.vertex first.f in
    let past : a.y * (a.width + 1) + group_start a.x ≤ c.loop-v.v = omega (arith, c.loop-v.auto.v) in
    let inside : c.loop-v.v < a.y * (a.width + 1) + group_end a.width a.x = omega (arith, c.loop-v-test.true, c.group_end.ensures) in
    elim c.if-marks-v-eq1.branch [
      | then-marks-v-eq1+then-ahead w ↦ subst P (sym w.first-is) (looking_open D S L past inside _ w.if-marks-v-eq1.true w.units_between.ensures w.ahead.ensures true w.if-ahead.true)
      | then-marks-v-eq1+else-ahead w ↦ subst P (sym w.first-is) (looking_open D S L past inside _ w.if-marks-v-eq1.true w.units_between.ensures w.ahead.ensures false w.if-ahead.false)
      | else-marks-v-eq1 w ↦ subst P (sym w.first-is) (looking_closed D S L w.if-marks-v-eq1.false)
    ]

pub returns : goal.returns
returns c =
    looked c.requires.sited c.requires.small c.loop-v.invariant (omega (arith, c.loop-v.auto, c.loop-v-test.false, c.group_end.ensures))
