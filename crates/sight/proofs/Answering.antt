-- The row of a sight request, from what the check says and what the walk says. Assumes nothing.
use mathlib.Core.Path.{◌≡◌, sym, ap, ◌∙◌}
use Prim.Native.Nat.{ℕ}
use Rattle.board.specs.Board.{Board}
use Rattle.board.specs.declared.Refusal.{Refusal}
use Rattle.board.specs.Handed.{Handed, Verdict, passes, answer, unless, judged, leg_rows, refusal_row}
use Rattle.board.proofs.Verdicts.{refusal_handed}
use Rattle.legs.specs.declared.Stop.{Stop}
use Rattle.legs.specs.Stops.{first_stop}
use Rattle.legs.specs.declared.leg.Leg.{Leg}
use Rattle.legs.specs.Checked.{Between}
use Rattle.board.specs.Checked.{board_of}
use Rattle.sight.specs.Answers.{Seen, unseen, values_of, sight_row}

module _ (b : Board) (ax ay bx by : ℕ) where
  abbrev rest : Handed Seen
  rest = answer (values_of (first_stop b ax ay bx by))

  pub refused_as : (why : Refusal) → refusal_row why ≡ leg_rows b ax ay bx by → judged unseen (refusal_row why) ≡ sight_row b ax ay bx by
  unfolding sight_row
  refused_as why e = refusal_handed unseen why rest e

  pub stopped_as : leg_rows b ax ay bx by ≡ passes → {s : Stop} → s ≡ first_stop b ax ay bx by → answer (values_of s) ≡ sight_row b ax ay bx by
  unfolding sight_row
  stopped_as e g = ap (λ (s : Stop). answer (values_of s)) g ∙ sym (ap (λ (v : Verdict). unless unseen v rest) e)

  -- of the leg that passed the checks
  pub stopped_on : leg_rows b ax ay bx by ≡ passes → {leg : Leg} {s : Stop} → Between b ax ay bx by leg
      → s ≡ first_stop (board_of leg.board) leg.ax leg.ay leg.bx leg.by → answer (values_of s) ≡ sight_row b ax ay bx by
  stopped_on e i g = stopped_as e (rw (← i.board_is, ← i.ax_is, ← i.ay_is, ← i.bx_is, ← i.by_is) g)
