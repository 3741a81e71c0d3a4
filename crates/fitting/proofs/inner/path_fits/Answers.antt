use Prim.Native.Nat.{ℕ, ◌+◌}
use mathlib.Core.Path.{sym}
use native.Mathlib.Omega.{arith}
use borrow.Author.Tests.{lt-leb}
use lib.ListN.{length}
use Rattle.lines.specs.Lines.{spaced, vertex_fields}
use Rattle.lines.proofs.Fields.{more_count, within_count}
use Rattle.fitting.proofs.inner.path_fits.Goals as goal

pub returns-then-left-bytes : goal.returns-then-left-bytes
returns-then-left-bytes c =
    let a = c.args in
    let l = c.loop-v in
    let all : ℕ = length (spaced (vertex_fields a.width a.path.now)) in
    let within = within_count a.width a.path.now l.v-index (omega arith) in
    sym (lt-leb (a.words + all) a.room (omega (arith, within, c.count_vertex-bytes.ensures.count, l.invariant)))

pub loop-v-preserved : goal.loop-v-preserved
loop-v-preserved c =
    let a = c.args in
    let l = c.loop-v in
    let more = more_count a.width a.path.now l.v-index (omega arith) in
    omega (arith, more, c.count_vertex-bytes.ensures.count, l.invariant)
