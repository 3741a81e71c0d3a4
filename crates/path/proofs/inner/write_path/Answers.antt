use mathlib.Core.Path.{◌≡◌, sym}
use Prim.Native.Nat.{◌-◌}
use native.Mathlib.Omega.{arith}
use lib.ListN.{length}
use Rattle.theta.specs.Search.{trail}
use Rattle.path.proofs.Reading.{path_length, path_first, path_last, path_later, path_prev, write_none, write_more}
use Rattle.path.proofs.inner.write_path.Goals as goal

pub loop-i-init : goal.loop-i-init
loop-i-init c =
    let count = c.requires.count_value.0 in
    (omega (arith, count, path_length c.requires.traced), path_last c.requires.traced _ count, write_none _ _ _ count)

pub bounds-parents-v : goal.bounds-parents-v
bounds-parents-v c =
    let l = c.loop-i in
    rw l.invariant.1 (path_later c.requires.traced (l.i - 1) (omega arith) (omega arith))

pub loop-i-preserved : goal.loop-i-preserved
loop-i-preserved c =
    let l = c.loop-i in (
      omega arith,
      path_prev c.requires.traced (l.i - 1) l.v (omega arith) (omega arith) l.invariant.1,
      write_more _ _ _ l.i _ l.v (omega arith) (omega arith) (omega arith) l.invariant.1 l.invariant.2,
    )

pub returns : goal.returns
returns c =
    let l = c.loop-i in
    let e : l.i ≡ 1 = omega arith in
    let full = trail c.args.start c.args.parents.now (length c.args.parents.now) c.args.goal in
    let first = sym (path_first c.requires.traced) in
    write_more full c.args.path.now l.path 1 c.args.count c.args.start (omega arith) (omega arith) (omega arith) first (rw (← e) l.invariant.2)
