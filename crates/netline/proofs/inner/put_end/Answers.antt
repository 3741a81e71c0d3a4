use Rattle.lines.proofs.Fields.{end_parts}
use Rattle.putting.proofs.Puts.{put_three}
use Rattle.netline.proofs.inner.put_end.Goals as goal

pub returns : goal.returns
returns c =
    put_three (end_parts c.args.width c.args.path.now) c.requires c.put_text-start.ensures c.put_path-end.ensures
    c.put_newline.ensures
