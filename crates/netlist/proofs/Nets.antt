-- The net with an index: found among the records, and what it says in an accepted job. Assumes nothing.
use Prim.Native.Nat.{ℕ, ◌≤◌, ◌<◌}
use mathlib.Core.Path.{◌≡◌}
use mathlib.Core.Bool.{true}
use mathlib.Core.List.{List}
use borrow.Author.Tests.{eqb-true, le-leb, lt-leb}
use Rattle.laws.proofs.Below.{indexed_below, indexed_does_pass}
use Rattle.records.specs.Records.{records, byte}
use Rattle.kinds.specs.declared.Record.TheVariants.{Net}
use Rattle.kinds.specs.declared.RecordFault.TheVariants.{Unknown}
use mathlib.Core.Path.{refl}
use mathlib.Core.Bool.{Bool, false, cond}
use lib.Dec.{leb}
use borrow.Author.Tests.{leb-false}
use Rattle.std.specs.Prelude.{Ok, Err, Some, None}
use Rattle.kinds.specs.Job.{is_net, net_at, nets, net_record}
use Rattle.faults.specs.Inner.{Accepted}
use Rattle.kinds.specs.Inner.{as_said, record_at}
use Rattle.netlist.specs.Inner.{net_place, net_said}
use Rattle.faults.proofs.Accepted.{is_tidy}

-- ---- found among the records

-- a place that was found, and one that was not
some_place : (b : Bool) (r : ℕ) {i : ℕ} → Some i ≡ cond b None (Some r) → (b ≡ false) × (i ≡ r)
some_place true r e = cc
some_place false r e = (refl, cc)

none_place : (b : Bool) (r : ℕ) → None ≡ cond b None (Some r) → b ≡ true
none_place true r e = refl
none_place false r e = cc

module _ (job : List ℕ) (index : ℕ) where
  pub none_said : None ≡ net_place job index → Err Unknown ≡ net_said job index
  unfolding net_said
  none_said e = rw (none_place (leb (nets job) index) (net_record job index) e) refl

  pub found_none : nets job ≤ index → Err Unknown ≡ net_said job index
  unfolding net_said
  found_none l = rw (le-leb (nets job) index l)

  module _ {i : ℕ} (e : Some i ≡ net_place job index) where
    pub place_below : i < records job
    place_below =
        let p = some_place (leb (nets job) index) (net_record job index) e in
        rw p.1 (indexed_below (is_net job) (records job) index (leb-false (nets job) index p.0))

    pub place_said : record_at job i ≡ net_said job index
    unfolding net_said
    place_said = let p = some_place (leb (nets job) index) (net_record job index) e in rw (p.0, p.1) refl

-- ---- in an accepted job

module _ {job : List ℕ} (a : Accepted job) (index : ℕ) (l : index < nets job) where
  pub net_record_below : net_record job index < records job
  net_record_below = indexed_below (is_net job) (records job) index l

  pub net_record_is : is_net job (net_record job index) ≡ true
  net_record_is = indexed_does_pass (is_net job) (records job) index l

  pub said_net : net_said job index ≡ Ok (Net (as_said (net_at job (net_record job index))))
  unfolding net_said record_at
  said_net =
      let i : ℕ = net_record job index in
      rw (lt-leb (nets job) index l, is_tidy a i net_record_below, eqb-true (byte job i 0) 3 net_record_is)
