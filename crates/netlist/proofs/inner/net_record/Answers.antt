use mathlib.Core.Path.{sym, ◌∙◌}
use native.Mathlib.Omega.{arith}
use Rattle.std.proofs.Common.{rules, tests}
use Rattle.std.proofs.lemmas.Iterator.{YieldsList-from_range}
use Rattle.std.proofs.lemmas.Iterator.Consumers.{nth_from_yields_List, YieldsList-from_filter}
use Rattle.std.proofs.lemmas.Iterator.Adapters.{option_map_id}
use Rattle.records.specs.Records.{records}
use Rattle.kinds.specs.Job.{is_net}
use Rattle.netlist.proofs.Indexed.{found}
use Rattle.netlist.proofs.inner.net_record.Goals as goal

pub returns : goal.returns
returns c =
    let job = c.args.job.now in
    sym (option_map_id c.nth.result) ∙ nth_from_yields_List _ _ c.args.index c.nth.ensures.ran
    (YieldsList-from_filter _ (is_net job) (YieldsList-from_range 0 (records job) (records job) c.filter.ensures.source (omega arith)) c.filter.ensures.closure (λ x r q k. search (rules, tests)))
    ∙ found (is_net job) (records job) c.args.index
