use mathlib.Core.Path.{◌≡◌, ap, ◌∙◌}
use mathlib.Core.List.{List, ◌++◌}
use Prim.Native.Nat.{ℕ, ◌*◌}
use native.Mathlib.Omega.{arith}
use lib.ListN.{length, take, drop}
use Rattle.std.proofs.lemmas.List.{length-take}
use Rattle.bits.specs.Packed.{cell_of}
use Rattle.bits.proofs.Entries.{entries_none, written_next, written_all}
use Rattle.bits.proofs.Trips.{cell_is}
use Rattle.packed.proofs.bytes.unpack.Goals as goal

pub loop-k-init : goal.loop-k-init
loop-k-init c = entries_none _ _

pub loop-k-preserved : goal.loop-k-preserved
loop-k-preserved c =
    let a = c.args in
    let k = c.loop-k in
    written_next (cell_of a.packed.now a.width) k.k (take (a.width * a.height) a.cells.now) k.invariant (c.bit_of.ensures ∙ cell_is a.packed.now a.width k.k) (omega arith)

pub returns : goal.returns
returns c =
    let a = c.args in
    let n = a.width * a.height in
    let k = c.loop-k in
    let all : length (take n a.cells.now) ≡ n = omega (arith, length-take n a.cells.now, c.requires.height_in_bounds) in
    ap (λ (l : List ℕ). l ++ drop n a.cells.now)
    (written_all (cell_of a.packed.now a.width) k.k (take n a.cells.now) k.invariant (omega arith) (omega (arith, all)))
