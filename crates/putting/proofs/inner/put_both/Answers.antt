use Rattle.lines.specs.Inner.{numbered}
use Rattle.lines.proofs.Fields.{joined}
use Rattle.putting.proofs.Puts.{put_two}
use Rattle.putting.proofs.inner.put_both.Goals as goal

pub returns : goal.returns
returns c =
    let a = c.args in
    put_two (joined (numbered a.text.now a.n) (numbered a.more.now a.m)) c.requires c.put_number-next.ensures c.put_number.ensures
