use mathlib.Core.Path.{◌≡◌, sym, ap, ◌∙◌}
use mathlib.Core.Bool.{false}
use Rattle.laws.proofs.Tests.{false_of}
use Rattle.board.specs.Checked.{board_of}
use Rattle.legs.specs.declared.Stop.{Stop}
use Rattle.legs.specs.declared.Stop.TheVariants.{Clear}
use Rattle.legs.specs.Stops.{is_clear}
use Rattle.legs.proofs.First.{clear_is}
use Rattle.legs.proofs.Nearest.{sees_clear}
use Rattle.walks.proofs.inner.sees.Goals as goal

-- a leg has sight where nothing stops it
pub returns-in-Clear : goal.returns-in-Clear
returns-in-Clear c =
    let a = c.args.leg.now in
    sym (sees_clear (board_of a.board) a.ax a.ay a.bx a.by a.ends ∙ ap is_clear (sym c.first_stop-stop.ensures ∙ c.in-Clear.is))

stopped : (s : Stop) → (s ≡ Clear → ⊥) → is_clear s ≡ false
stopped s h = false_of (is_clear s) (λ e. h (clear_is s e))

pub returns-in_default : goal.returns-in_default
returns-in_default c =
    let a = c.args.leg.now in
    sym (sees_clear (board_of a.board) a.ax a.ay a.bx a.by a.ends ∙ ap is_clear (sym c.first_stop-stop.ensures) ∙ stopped _ c.in_default.not-Clear)
