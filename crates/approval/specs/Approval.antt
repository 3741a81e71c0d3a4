-- What C gets of the check: the table's number and its two places, and the number of nets.
use Rattle.board.specs.Handed.{Handed}
use Rattle.bureau.specs.Answers.{Nets}
use Rattle.approval.specs.declared.Approval.{Approval}

abbrev pub told_check : Handed Nets → Approval
told_check h = record { number = h.number; place = h.place; second = h.second; nets = h.values.nets }
