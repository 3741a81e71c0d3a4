use Rattle.std.proofs.Common.{ℕ, ◌≡◌, true, false, rules, tests}
use Rattle.std.proofs.lemmas.Iterator.{first_from_Range}
use Rattle.tracks.specs.Tracks.{routes_in}
use Rattle.bureau.specs.Nets.{is_odd, odd_net}
use Rattle.records.proofs.Stray.{found_first}
use Rattle.roster.proofs.inner.odd_net.Goals as goal

pub returns : goal.returns
unfolding odd_net
returns c =
    let odd = λ (k : ℕ). is_odd c.args.job.now (routes_in c.args.file.now) k in
    found_first odd _ _ (first_from_Range _ _ _ _ (λ k. odd k ≡ true) (λ k. odd k ≡ false) c.find.ensures.ran
    (λ x q k. search (rules, tests))
    (λ x q k. (search rules, search (rules, tests))))
