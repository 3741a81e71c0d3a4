use Prim.Native.Nat.{ℕ, suc, ◌-◌, ◌<◌}
use mathlib.Core.Path.{◌≡◌}
use mathlib.Core.List.{List}
use native.Mathlib.Omega.{arith}
use Rattle.tracks.specs.Layout.{Slices}
use Rattle.gather.proofs.Filling.{filled_length}
use Rattle.gather.proofs.Taking.{Taken, taken_none, point_room, net_room, taken_one}
use Rattle.gather.proofs.inner.gather.Goals as goal

pub loop-i-init : goal.loop-i-init
loop-i-init c = taken_none c.requires

-- where records are left one of them comes before
one_before : {file : List ℕ} {before now : Slices} {count points i k j : ℕ} → Taken file before now count points i k j → 0 < i
    → Taken file before now count points (suc (i - 1)) k j
one_before {i = i} t some = let up : i ≡ suc (i - 1) = omega arith in rw up at t

pub take_point-j-requires : goal.take_point-j-requires
take_point-j-requires c =
    let l = c.loop-i in
    let t = one_before l.invariant (omega arith) in
    let room = point_room c.requires t in record {
      i_bound = omega (arith, t.below);
      point_bound = (
        rw c.is_point-point.ensures room,
        omega (arith, filled_length l.invariant.xs, l.invariant.xs.ends, l.invariant.xs.room),
        omega (arith, filled_length l.invariant.ys, l.invariant.ys.ends, l.invariant.ys.room),
      );
    }

pub take_net-k-requires : goal.take_net-k-requires
take_net-k-requires c =
    rw (c.is_point-point.ensures, c.byte_at-net.ensures) (net_room c.requires (one_before c.loop-i.invariant (omega arith)) (omega arith))

pub loop-i-preserved : goal.loop-i-preserved
loop-i-preserved c =
    taken_one c.requires (one_before c.loop-i.invariant (omega arith)) c.is_point-point.ensures c.byte_at-net.ensures
    c.take_point-j.ensures c.take_net-k.ensures (omega arith)
