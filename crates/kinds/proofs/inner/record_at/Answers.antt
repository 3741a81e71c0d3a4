use Rattle.std.proofs.lemmas.Result.{err_from_is_err_and}
use Rattle.kinds.proofs.Says.{says_unknown, says_unused, says_board, says_keepout, says_net}
use Rattle.kinds.proofs.inner.record_at.Goals as goal

pub returns-in_err-kind : goal.returns-in_err-kind
returns-in_err-kind c =
    let p = err_from_is_err_and c.from_residual.result c.from_residual.ensures.1 in
    rw (p.1, p.2) (says_unknown _ _ c.byte_of.ensures c.in_err-kind.ensures)

pub returns-in-Some : goal.returns-in-Some
returns-in-Some c = says_unused _ _ c.byte_of.ensures c.in_ok-kind.ensures c.in-Some.ensures

pub returns-in-Board : goal.returns-in-Board
returns-in-Board c =
    says_board _ _ c.byte_of.ensures c.in_ok-kind.ensures c.in_default.ensures c.in-Board.is c.coordinate_of.ensures c.coordinate_of-in-Board.ensures

pub returns-in-Keepout : goal.returns-in-Keepout
returns-in-Keepout c =
    says_keepout _ _ c.byte_of.ensures c.in_ok-kind.ensures c.in_default.ensures c.in-Keepout.is c.rectangle_at.ensures

pub returns-in-Net : goal.returns-in-Net
returns-in-Net c =
    says_net _ _ c.byte_of.ensures c.in_ok-kind.ensures c.in_default.ensures c.in-Net.is c.net_at.ensures
