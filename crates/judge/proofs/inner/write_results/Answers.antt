use mathlib.Core.Path.{ap}
use native.Mathlib.Omega.{arith}
use borrow.Author.Rules.{rules}
use Rattle.kinds.specs.Job.{Net}
use Rattle.bits.proofs.Entries.{entries_none, kept_length}
use Rattle.judge.proofs.Judging.{net_small, units_next, counts_next}
use Rattle.judge.proofs.inner.write_results.Goals as goal

pub loop-index-init : goal.loop-index-init
loop-index-init c = (omega arith, search rules, omega arith, omega arith, entries_none _ _, entries_none _ _)

pub write_net-requires : goal.write_net-requires
write_net-requires c =
    let l = c.loop-index in record { file_value = l.invariant.1.clean; points_small = net_small l.index l.invariant.1 (ap (λ (n : Net). n.number) c.wanted_net-net.ensures) (omega (arith, l.invariant.1.many_is)); index_in_bounds = (omega (arith, l.invariant.2, kept_length _ l.index _ l.invariant.4 (omega arith)), omega (arith, l.invariant.3, kept_length _ l.index _ l.invariant.5 (omega arith))) }

pub loop-index-preserved : goal.loop-index-preserved
loop-index-preserved c =
    let l = c.loop-index in
    let number = ap (λ (n : Net). n.number) c.wanted_net-net.ensures in (
      omega arith,
      l.invariant.1,
      l.invariant.2,
      l.invariant.3,
      units_next _ _ l.index _ l.invariant.4 number c.write_net.ensures (omega arith),
      counts_next _ _ l.index _ l.invariant.5 number c.write_net.ensures (omega arith),
    )
