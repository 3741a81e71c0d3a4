-- `laying::inner::lay_net` writes a net's records. The loop's invariant: those of the points before are written.
use mathlib.Core.Path.{◌≡◌}
use Prim.Native.Nat.{◌*◌, ◌+◌, ◌≤◌}
use lib.ListN.{length}
use Rattle.tracks.specs.Answers.{laid}
use Rattle.tracks.specs.Inner.{records_for}
use Rattle.laying.proofs.Written.{up_to}
use Rattle.laying.proofs.inner.lay_net.Given as goal

abbrev pub invariant-loop-place : goal.invariant-loop-place
invariant-loop-place l =
    (room : (l.at + records_for (length l.xs)) * 8 ≤ length l.initial.file)
    → l.file ≡ laid (up_to l.net l.at (length l.xs) l.xs l.ys l.initial.file room (length l.yielded)) l.initial.file
