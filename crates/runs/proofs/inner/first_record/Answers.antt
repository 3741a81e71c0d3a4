use Rattle.std.proofs.Common.{ℕ, ◌≡◌, true, false, rules, tests, eqb}
use Rattle.std.proofs.lemmas.Iterator.{first_from_Range}
use Rattle.tracks.specs.Tracks.{net_of}
use Rattle.bureau.specs.Inner.{first_record}
use Rattle.records.proofs.Stray.{found_first}
use Rattle.runs.proofs.inner.first_record.Goals as goal

pub returns : goal.returns
unfolding first_record
returns c =
    let is_net = λ (k : ℕ). eqb (net_of c.args.file.now k) c.args.number in
    found_first is_net _ _ (first_from_Range _ _ _ _ (λ k. is_net k ≡ true) (λ k. is_net k ≡ false) c.find.ensures.ran
    (λ x q k. search (rules, tests))
    (λ x q k. (search rules, search (rules, tests))))
