use mathlib.Core.Path.{◌≡◌, ap, ap₂, ◌∙◌}
use mathlib.Core.List.{List, ◌++◌}
use Prim.Native.Nat.{ℕ, ◌*◌}
use native.Mathlib.Omega.{arith}
use lib.ListN.{length, take, drop}
use Rattle.std.proofs.lemmas.List.{length-take}
use Rattle.bits.specs.Packed.{packed_bytes, byte_from}
use Rattle.bits.proofs.Entries.{entries_none, written_next, written_all}
use Rattle.bits.proofs.Trips.{byte_is}
use Rattle.packed.proofs.bytes.pack.Goals as goal

pub loop-i-init : goal.loop-i-init
loop-i-init c = entries_none _ _

pub loop-i-preserved : goal.loop-i-preserved
loop-i-preserved c =
    let a = c.args in
    let k = c.loop-i in
    written_next (byte_from a.cells.now a.width) k.i (take (c.row_bytes-row.result * a.height) a.packed.now) k.invariant
    (c.byte_from.ensures ∙ byte_is a.cells.now a.width k.i c.row_bytes-row.ensures) (omega arith)

pub returns : goal.returns
returns c =
    let a = c.args in
    let n = c.row_bytes-row.result * a.height in
    let e : n ≡ packed_bytes a.width a.height = ap (λ (d : ℕ). d * a.height) c.row_bytes-row.ensures in
    let all : length (take n a.packed.now) ≡ n = omega (arith, length-take n a.packed.now, c.requires.height_in_bounds, e) in
    ap₂ (λ (l : List ℕ) (m : ℕ). l ++ drop m a.packed.now)
    (written_all (byte_from a.cells.now a.width) c.loop-i.i (take n a.packed.now) c.loop-i.invariant (omega arith) (omega (arith, all, e))) e
