use mathlib.Core.Path.{◌≡◌}
use mathlib.Core.Bool.{true, false}
use Rattle.std.proofs.Common.{rules, tests}
use Rattle.std.proofs.lemmas.Iterator.{first_from_Range}
use Rattle.records.specs.Records.{is_stray_byte}
use Rattle.records.proofs.Stray.{found_first}
use Rattle.kinds.specs.Job.{used_by}
use Rattle.kinds.specs.Kind.{code_of}
use Rattle.kinds.proofs.inner.stray_byte.Goals as goal

pub returns : goal.returns
returns c =
    let a = c.args in
    let stray = is_stray_byte a.job.now (used_by (code_of a.kind)) a.i in
    found_first _ _ _ (first_from_Range _ _ _ _ (λ k. stray k ≡ true) (λ k. stray k ≡ false) c.find.ensures.ran
    (λ x q k. search (rules, tests))
    (λ x q k. (search rules, search (rules, tests))))
