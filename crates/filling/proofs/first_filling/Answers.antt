use mathlib.Core.Path.{◌≡◌}
use Prim.Native.Nat.{◌+◌, ◌*◌, ◌-◌, ◌%◌, ◌^◌, ◌<◌, ◌≤◌}
use native.Mathlib.Nat.{mul-pos}
use native.Mathlib.Omega.{arith}
use lib.ListN.{length, get_or}
use Rattle.bits.proofs.Rows.{row_room, filling_begins, filling_found, filling_passed, filling_none}
use Rattle.filling.proofs.Checking.{some_place, none_place}
use Rattle.filling.proofs.first_filling.Goals as goal

pub loop-end-init : goal.loop-end-init
loop-end-init c = filling_begins c.args.packed.now c.args.width c.requires.sides.wide

pub returns-then-packed-last-ne0 : goal.returns-then-packed-last-ne0
returns-then-packed-last-ne0 c =
    let a = c.args in
    let k = c.loop-end in
    let room : k.end * c.row_bytes-row.result ≤ length a.packed.now =
    rw c.requires.full (row_room a.width a.height k.end c.row_bytes-row.ensures (omega arith)) in
    some_place _ _ a.height
    (filling_found a.packed.now a.width c.requires.sides.wide c.row_bytes-row.ensures (k.end - 1) (omega arith) k.invariant room
    (λ z. omega (arith, c.if-packed-last-ne0.true, z)))
    (let p : 0 < k.end * c.row_bytes-row.result = mul-pos (omega arith) (omega arith) in omega arith)

pub loop-end-preserved : goal.loop-end-preserved
loop-end-preserved c =
    let k = c.loop-end in
    let last = k.end * c.row_bytes-row.result - 1 in
    let fill = c.row_bytes-row.result * 8 - c.args.width in
    let unset : get_or c.args.packed.now last 0 % (1 * 2 ^ fill % 256) ≡ 0 = omega (arith, c.if-packed-last-ne0.false) in
    let back : k.end + 1 - 1 ≡ k.end = omega arith in
    rw back (filling_passed c.args.packed.now c.args.width c.requires.sides.wide c.row_bytes-row.ensures (k.end - 1) (omega arith) k.invariant unset)

pub returns : goal.returns
returns c =
    let a = c.args in
    let e : c.loop-end.end - 1 ≡ a.height = omega arith in
    none_place a.packed.now a.width a.height (filling_none a.packed.now a.width c.requires.sides.wide a.height c.requires.full (rw e at c.loop-end.invariant))
