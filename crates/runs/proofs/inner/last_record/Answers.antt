use Rattle.std.proofs.Common.{ℕ, ◌≡◌, ◌-◌, ◌≤◌, true, false, rules, tests, sym}
use Rattle.std.proofs.lemmas.Iterator.{first_from_Range}
use Rattle.tracks.proofs.Theorems.{all_records}
use Rattle.bureau.specs.Inner.{LastOf}
use Rattle.runs.proofs.Standing.{is_other, last_told}
use Rattle.runs.proofs.inner.last_record.Goals as goal

last : (c : goal.After-unwrap_or) → (1 ≤ c.unwrap_or.result) × LastOf c.args.file.now c.args.first (c.unwrap_or.result - 1)
last c =
    let f = c.args.file.now in
    let b = c.requires.first_bound in
    let other = λ (k : ℕ). is_other f c.byte_of-number.result k in
    rw (sym c.unwrap_or.ensures) at (last_told f (all_records f c.requires.file_value) c.args.first b.0 b.1 b.2 c.byte_of-number.ensures _
    (first_from_Range _ _ _ _ (λ k. other k ≡ true) (λ k. other k ≡ false) c.find-next.ensures.ran
    (λ x q k. search (rules, tests))
    (λ x q k. (search rules, search (rules, tests)))))

pub overflow_sub-result : goal.overflow_sub-result
overflow_sub-result c = (last c).0

pub returns : goal.returns
returns c = (last c).1
