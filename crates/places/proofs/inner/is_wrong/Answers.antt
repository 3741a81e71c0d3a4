use Rattle.std.proofs.Common.{◌≡◌, ℕ, zero, suc, not, ◌&&◌, eqb, Some, arith, refl}
use Rattle.std.proofs.lemmas.Bool.Decides.{nat_tests}
use Rattle.std.specs.Option.{option_eq}
use Rattle.tracks.specs.Inner.{wanted, wrong_after}
use Rattle.places.proofs.inner.is_wrong.Goals as goal

pub returns-then-net-eq0-clause-told : goal.returns-then-net-eq0-clause-told
returns-then-net-eq0-clause-told c = grind (arith, nat_tests, c.then-net-eq0.either)

pub returns-then-net-eq0-clause-by_numbers : goal.returns-then-net-eq0-clause-by_numbers
unfolding wrong_after
returns-then-net-eq0-clause-by_numbers c = λ n p point a b. grind (arith, nat_tests, c.then-net-eq0.either)

pub returns-in-None-clause-told : goal.returns-in-None-clause-told
returns-in-None-clause-told c = grind (arith, nat_tests, c.in-None.is)

pub returns-in-None-clause-by_numbers : goal.returns-in-None-clause-by_numbers
unfolding wrong_after
returns-in-None-clause-by_numbers c = λ n p point a b. grind (arith, nat_tests, c.in-None.is)

-- a place is the wanted one if there is one, and it is that
other_place : (n at : ℕ) → not (option_eq eqb (wanted n) (Some at)) ≡ not (not (eqb n 0) && eqb at n)
other_place zero at = refl
other_place (suc n) at = grind (arith, nat_tests)

pub returns-in-Some-clause-told : goal.returns-in-Some-clause-told
returns-in-Some-clause-told c = grind (arith, nat_tests, c.in-Some.is, c.ne.ensures)

pub returns-in-Some-clause-by_numbers : goal.returns-in-Some-clause-by_numbers
unfolding wrong_after
returns-in-Some-clause-by_numbers c = λ n p point a b. grind (arith, nat_tests, c.in-Some.is, c.ne.ensures, other_place n c.in-Some.at)

pub returns-in-Some-2-clause-told : goal.returns-in-Some-2-clause-told
returns-in-Some-2-clause-told c = grind (arith, nat_tests, c.in-Some-2.is)

pub returns-in-Some-2-clause-by_numbers : goal.returns-in-Some-2-clause-by_numbers
unfolding wrong_after
returns-in-Some-2-clause-by_numbers c = λ n p point a b. grind (arith, nat_tests, c.in-Some-2.is)
