use Rattle.std.proofs.Common.{◌≡◌, rules, tests}
use Rattle.std.proofs.lemmas.Iterator.{first_from_Range}
use Rattle.records.specs.Records.{byte}
use Rattle.scan.proofs.Judging.{stray_found}
use Rattle.scan.proofs.inner.stray_byte.Goals as goal

pub returns : goal.returns
returns c =
    let a = c.args in
    stray_found _ _ _ c.first_unused.ensures.0 _
    (first_from_Range _ _ _ _ (λ k. byte a.file.now a.i k ≡ 0 → ⊥) (λ k. byte a.file.now a.i k ≡ 0) c.find.ensures.ran (λ x q k. search (rules, tests))
    (λ x q k. (search rules, search (rules, tests))))
