use Rattle.std.proofs.Common.{◌∙◌}
use Rattle.runs.proofs.Standing.{record_told}
use Rattle.roster.proofs.inner.is_in_file.Goals as goal

pub returns : goal.returns
returns c = c.is_some.ensures ∙ record_told _ _ c.first_record.ensures
