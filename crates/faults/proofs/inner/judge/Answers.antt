use mathlib.Core.Path.{sym, ◌∙◌}
use native.Mathlib.Omega.{arith}
use Rattle.kinds.proofs.Says.{said_so, said_fault}
use Rattle.faults.proofs.Judging.{row_unknown, row_unused, row_board, row_keepout, row_net, nets_few}
use Rattle.faults.proofs.inner.judge.Goals as goal

pub net_step-requires : goal.net_step-requires
net_step-requires c = omega (arith, nets_few _ _ c.requires.past_value)

pub returns-in-Ok-Board : goal.returns-in-Ok-Board
returns-in-Ok-Board c = c.board_step.ensures ∙ sym (row_board _ _ (said_so _ _ c.in-Ok-Board.field-0-is c.in-Ok-Board.ensures))

pub returns-in-Ok-Keepout : goal.returns-in-Ok-Keepout
returns-in-Ok-Keepout c = c.keepout_step.ensures ∙ sym (row_keepout _ _ c.requires.past_value (said_so _ _ c.in-Ok-Keepout.field-0-is c.in-Ok-Keepout.ensures))

pub returns-in-Ok-Net : goal.returns-in-Ok-Net
returns-in-Ok-Net c = c.net_step.ensures ∙ sym (row_net _ _ c.requires.past_value (said_so _ _ c.in-Ok-Net.field-0-is c.in-Ok-Net.ensures))

pub returns-in-Err-Unknown : goal.returns-in-Err-Unknown
returns-in-Err-Unknown c = sym (row_unknown _ _ (said_fault _ _ c.in-Err-Unknown.field-0-is c.in-Err-Unknown.ensures))

pub returns-in-Err-Unused : goal.returns-in-Err-Unused
returns-in-Err-Unused c = rw c.in-Err-Unused.k-is (sym (row_unused _ _ (said_fault _ _ c.in-Err-Unused.field-0-is c.in-Err-Unused.ensures)))
