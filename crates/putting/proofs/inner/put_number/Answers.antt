use Rattle.lines.specs.Lines.{decimal}
use Rattle.lines.proofs.Fields.{joined}
use Rattle.putting.proofs.Puts.{put_two}
use Rattle.putting.proofs.inner.put_number.Goals as goal

pub returns : goal.returns
returns c =
    let a = c.args in
    put_two (joined a.text.now (decimal a.n)) c.requires c.put_text-next.ensures c.put_decimal.ensures
