-- The net with an index, taken out of an accepted job. Assumes nothing.
use Prim.Native.Nat.{ℕ, ◌≤◌, ◌<◌}
use mathlib.Core.Path.{◌≡◌, sym}
use mathlib.Core.Logic.{⊎_elim}
use mathlib.Core.List.{List}
use borrow.Author.Tests.{le-leb, lt-leb}
use Rattle.laws.proofs.Tests.{order}
use Rattle.std.specs.Prelude.{Option}
use Rattle.kinds.specs.declared.Net as kinds-given
use Rattle.kinds.specs.Job.{nets}
use Rattle.job.specs.Answers.{handed_found, net_row}
use Rattle.faults.specs.Inner.{Accepted}
use Rattle.netlist.specs.Inner.{net_in, net_said}
use Rattle.netlist.proofs.Nets.{found_none, said_net}

module _ {job : List ℕ} (a : Accepted job) (index : ℕ) where
  -- a net read gives that net
  there : index < nets job → handed_found (net_in (net_said job index)) ≡ net_row job index
  unfolding net_row
  there l = rw (said_net a index l, a.passed, lt-leb (nets job) index l)

  missing : nets job ≤ index → handed_found (net_in (net_said job index)) ≡ net_row job index
  unfolding net_row
  missing g = rw (sym (found_none job index g), a.passed, le-leb (nets job) index g)

  pub net_taken : {n : Option kinds-given.Net} → n ≡ net_in (net_said job index) → handed_found n ≡ net_row job index
  net_taken e = rw e (⊎_elim there missing (order index (nets job)))
