use Prim.Native.Nat.{ℕ}
use mathlib.Core.Path.{ap, ◌∙◌}
use lib.Dec.{leb}
use Rattle.fitting.proofs.inner.Counting.{net_counted, none_counted, refused_counted, refused_twice_counted}
use Rattle.fitting.proofs.inner.line_fits.Goals as goal

pub returns-in-Path : goal.returns-in-Path
returns-in-Path c =
    let a = c.args in
    let count =
    net_counted c.in-Path.number c.in-Path.units c.in-Path.expansions c.in-Path.tests a.width a.path.now c.count_both.ensures.count
    c.count_both-in-Path.ensures.count in
    rw c.in-Path.is (c.path_fits.ensures ∙ ap (λ (n : ℕ). leb n a.room) count)

pub returns-in-None : goal.returns-in-None
returns-in-None c =
    let a = c.args in
    let digits = c.count_digits.ensures.count in
    let count = none_counted c.in-None.number c.in-None.expansions c.in-None.tests digits c.count_both-in-None.ensures.count in
    rw c.in-None.is (ap (λ (n : ℕ). leb n a.room) count)

pub returns-in-Refused : goal.returns-in-Refused
returns-in-Refused c =
    let a = c.args in
    let count = refused_counted c.in-Refused.number c.in-Refused.place c.count_both-in-Refused.ensures.count in
    rw c.in-Refused.is (ap (λ (n : ℕ). leb n a.room) count)

pub returns-in-RefusedTwice : goal.returns-in-RefusedTwice
returns-in-RefusedTwice c =
    let a = c.args in
    let both = c.count_both-in-RefusedTwice.ensures.count in
    let count = refused_twice_counted c.in-RefusedTwice.number c.in-RefusedTwice.place c.in-RefusedTwice.second both c.count_digits-in-RefusedTwice.ensures.count in
    rw c.in-RefusedTwice.is (ap (λ (n : ℕ). leb n a.room) count)
