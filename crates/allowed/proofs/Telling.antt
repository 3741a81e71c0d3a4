-- A leg's tests, as far as they are made. Assumes nothing.
use Prim.Native.Nat.{ℕ}
use mathlib.Core.Path.{◌≡◌, sym, ap, ◌∙◌}
use mathlib.Core.Bool.{Bool, true, false, not, ◌&&◌}
use lib.Dec.{eqb}
use Rattle.board.specs.Board.{Board}
use Rattle.legs.specs.Sight.{sees}
use Rattle.legs.specs.Pinched.{pinched}
use Rattle.legs.specs.declared.Stop.{Stop}
use Rattle.legs.specs.Stops.{is_clear, first_stop}
use Rattle.legs.specs.Inner.{EndsOn}
use Rattle.legs.proofs.Nearest.{sees_clear}
use Rattle.tracks.specs.Tracks.{Point}
use Rattle.bureau.specs.Paths.{is_leg_wrong}

-- a leg has sight exactly where nothing stops it
pub sees_told : {b : Board} {ax ay bx by : ℕ} {stop : Stop} {clear : Bool} → EndsOn b ax ay bx by → stop ≡ first_stop b ax ay bx by
    → is_clear stop ≡ clear → sees b ax ay bx by ≡ clear
sees_told {b} {ax} {ay} {bx} {by} on e f = sees_clear b ax ay bx by on ∙ sym (ap is_clear e) ∙ f

-- a leg's three tests, as far as they are made
module _ (b : Board) (p q : Point) (is_last : Bool) where
  pub leg_equal : (eqb p.x q.x && eqb p.y q.y) ≡ true → true ≡ is_leg_wrong b p q is_last
  unfolding is_leg_wrong
  leg_equal e = rw e

  module _ (unequal : (eqb p.x q.x && eqb p.y q.y) ≡ false) where
    pub leg_unseen : sees b p.x p.y q.x q.y ≡ false → true ≡ is_leg_wrong b p q is_last
    unfolding is_leg_wrong
    leg_unseen e = rw (unequal, e)

    pub leg_seen : sees b p.x p.y q.x q.y ≡ true → {r : Bool} → r ≡ pinched b q.x q.y → (r && not is_last) ≡ is_leg_wrong b p q is_last
    unfolding is_leg_wrong
    leg_seen e g = rw (unequal, e, g)
