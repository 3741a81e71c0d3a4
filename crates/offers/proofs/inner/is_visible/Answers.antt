use mathlib.Core.Path.{sym, ◌∙◌}
use mathlib.Core.Logic.{◌≢◌}
use Rattle.offers.proofs.Places.{beside_near}
use Rattle.offers.proofs.inner.is_visible.Goals as goal

-- whoever was seen before was admitted then: only an unseen vertex may be a pinched one
was_seen : (c : goal.Then-mark-ne0) → c.args.mark ≢ 0
was_seen c = c.if-mark-ne0.true

pub returns-then-mark-ne0 : goal.returns-then-mark-ne0
returns-then-mark-ne0 c =
    let J = c.requires.judging in
    let a = c.args.asked.now in
    sym (J.seen_admitted (was_seen c)) ∙ beside_near J.placed J.beside J.apart a.ax a.ay a.bx a.by J.admitted

pub returns : goal.returns
returns c =
    let J = c.requires.judging in
    let a = c.args.asked.now in
    c.is_admitted.ensures ∙ beside_near J.placed J.beside J.apart a.ax a.ay a.bx a.by J.admitted
