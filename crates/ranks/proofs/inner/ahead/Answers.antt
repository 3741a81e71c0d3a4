use Rattle.theta.specs.Order.{Rank, ranked}
use Rattle.ranks.specs.Ranks.{seen}
use Rattle.theta.proofs.Order.{sooner_f, sooner_g, sooner_legs, sooner_number}
use Rattle.ranks.proofs.inner.ahead.Goals as goal

-- what the two are ordered by
abbrev new : goal.Then-f-key → Rank
new s = ranked s.args.f s.args.own s.args.count s.args.v

abbrev old : goal.Then-f-key → Rank
old s = seen s.args.g.now s.args.legs.now s.args.holder s.args.key

pub returns-then-f-key : goal.returns-then-f-key
returns-then-f-key c = sooner_f (new c) (old c) c.if-f-key.true

-- what the two are ordered by
abbrev new_2 : goal.Then-own-held → Rank
new_2 s = ranked s.args.f s.args.own s.args.count s.args.v

abbrev old_2 : goal.Then-own-held → Rank
old_2 s = seen s.args.g.now s.args.legs.now s.args.holder s.args.key

pub returns-then-own-held : goal.returns-then-own-held
returns-then-own-held c = sooner_g (new_2 c) (old_2 c) c.if-f-key.false c.if-own-held.true

-- what the two are ordered by
abbrev new_3 : goal.Then-count-fewest → Rank
new_3 s = ranked s.args.f s.args.own s.args.count s.args.v

abbrev old_3 : goal.Then-count-fewest → Rank
old_3 s = seen s.args.g.now s.args.legs.now s.args.holder s.args.key

pub returns-then-count-fewest : goal.returns-then-count-fewest
returns-then-count-fewest c =
    sooner_legs (new_3 c) (old_3 c) c.if-f-key.false c.if-own-held.false c.if-count-fewest.true

-- what the two are ordered by
abbrev new_4 : goal.Else-count-fewest → Rank
new_4 s = ranked s.args.f s.args.own s.args.count s.args.v

abbrev old_4 : goal.Else-count-fewest → Rank
old_4 s = seen s.args.g.now s.args.legs.now s.args.holder s.args.key

pub returns : goal.returns
returns c =
    sooner_number (new_4 c) (old_4 c) c.if-f-key.false c.if-own-held.false c.if-count-fewest.false
