use native.Mathlib.Omega.{arith}
use Rattle.path.proofs.Reading.{reading_start}
use Rattle.path.proofs.inner.count_path.Goals as goal

pub loop-v-init : goal.loop-v-init
loop-v-init c = (reading_start c.requires, omega (arith, (reading_start c.requires).fits))
