use native.Mathlib.Nat.{mod-le, div-le_self}
use native.Mathlib.Omega.{arith}
use Rattle.walls.proofs.leg.Indices.{forward_fits}
use Rattle.slants.proofs.inner.corner_of.Goals as goal

pub overflow_add-result : goal.overflow_add-result
overflow_add-result c = let a = c.args in omega (arith, mod-le a.index a.width, forward_fits _ _ 1 c.forward.ensures)

pub overflow_add-result-2 : goal.overflow_add-result-2
overflow_add-result-2 c = let a = c.args in omega (arith, div-le_self a.index a.width, forward_fits _ _ 1 c.forward-2.ensures)
