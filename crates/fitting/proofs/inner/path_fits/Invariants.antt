-- `fitting::inner::path_fits`: the bytes given, those of the vertices so far and what is left make up the room.
use Prim.Native.Nat.{◌+◌}
use mathlib.Core.Path.{◌≡◌}
use lib.ListN.{length, take}
use Rattle.lines.specs.Lines.{spaced, vertex_fields}
use Rattle.fitting.proofs.inner.path_fits.Given as goal

abbrev pub invariant-loop-v : goal.invariant-loop-v
invariant-loop-v l = l.words + length (spaced (vertex_fields l.width (take l.v-index l.path))) + l.left ≡ l.room
