-- `replies::inner::print_refusal` sends the one line of a refused job.
use Rattle.replies.proofs.Refusing.{refusal_bytes}
use Rattle.replies.proofs.inner.print_refusal.Goals as goal

pub print-requires-clause-path_value : goal.print-requires-clause-path_value
print-requires-clause-path_value g c =
    refusal_bytes c.args.job.now c.args.why c.requires.job_value c.row.ensures c.refusal_line-line.ensures 0 _
