use Rattle.std.proofs.Common.{ℕ, ◌&&◌, ◌∙◌, eqb, refl, arith, rules, tests}
use Rattle.std.proofs.lemmas.Iterator.{YieldsList-from_range}
use Rattle.std.proofs.lemmas.Iterator.Search.{any_from_yields_List}
use Rattle.records.specs.Records.{records}
use Rattle.kinds.specs.Job.{is_net, net_at}
use Rattle.bureau.specs.Nets.{in_job}
use Rattle.bureau.proofs.Finding.{some_found}
use Rattle.roster.proofs.inner.is_in_job.Goals as goal

pub returns : goal.returns
unfolding in_job
returns c =
    let j = c.args.job.now in
    let wanted = λ (i : ℕ). is_net j i && eqb (net_at j i).number c.args.number in
    any_from_yields_List wanted _ _ _ c.any.ensures.ran (YieldsList-from_range 0 (records j) (records j) refl (omega arith)) (λ x b q k. search (rules, tests))
    ∙ some_found wanted (records j)
