use mathlib.Core.Path.{◌≡◌}
use mathlib.Core.Bool.{true, ◌&&◌}
use Prim.Native.Nat.{◌+◌, ◌*◌, ◌^◌, ◌≤◌}
use native.Mathlib.Nat.{mul-le-mul}
use native.Mathlib.Omega.{arith}
use borrow.Author.Rules.{rules}
use lib.Dec.{leb}
use Rattle.table.proofs.Table.{tested}
use Rattle.table.proofs.inner.units_beyond.Goals as goal

-- what passes the test is the root: its square is not above n, and the next square is
pub returns-then-square-n : goal.returns-then-square-n
returns-then-square-n c =
    let s = c.args.s in
    let u = c.guess_beyond-u.result in
    let passed : (leb (u * u) (s * 2 ^ 40) && leb (s * 2 ^ 40) (u * u + 2 * u)) ≡ true = c.if-square-n.true in
    tested s u passed
