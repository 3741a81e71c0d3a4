use Rattle.std.proofs.Common.{◌∙◌, rules, tests, arith}
use Rattle.std.proofs.lemmas.Iterator.{YieldsList-from_slice, YieldsList-from_map}
use Rattle.std.proofs.lemmas.Iterator.Consumers.{sum_by_from_yields_List}
use lib.Count.{ones}
use Rattle.bits.proofs.Counting.{bits_summed}
use Rattle.bits.proofs.inner.count_bits.Goals as goal

pub returns : goal.returns
returns c =
    let packed = c.args.packed.now in
    sum_by_from_yields_List ones packed c.map.result c.sum.result c.sum.ensures.ran
    (YieldsList-from_map _ ones (YieldsList-from_slice packed cc) c.map.ensures.closure (λ x r q k. search (rules, tests)))
    ∙ bits_summed packed (λ i. omega (arith, c.type_inv.packed i))
