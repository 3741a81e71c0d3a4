-- What document 01 says of a leg's direction beside its quotients. Laws show it of what the calls hand back.
use Rattle.std.specs.Prelude.{◌≡◌, false, ℤ, pos, T, Float}
use Rattle.std.specs.Int.Signed.{lt_z}
use Rattle.std.specs.Float.{nan, inf, fin}
use Rattle.std.specs.Float.Ieee.{le}
use Rattle.board.specs.Handed.{plus_zero}
use Rattle.direction.specs.Answers.{Toward}

-- a float without its sign
abbrev pub magnitude : Float → Float
magnitude nan = nan
magnitude (inf s) = inf false
magnitude (fin s m e) = fin false m e

-- a difference of 0 gives +0; on an axis the other number is exactly 1 or −1; neither exceeds 1 in size
pub record Directed (dx dy : ℤ) (d : Toward) : Type 0 where
  pub zero_x : dx ≡ pos 0 → d.x ≡ plus_zero
  pub zero_y : dy ≡ pos 0 → d.y ≡ plus_zero
  pub axis_x : dy ≡ pos 0 → d.x ≡ fin (lt_z dx (pos 0)) 1 (pos 0)
  pub axis_y : dx ≡ pos 0 → d.y ≡ fin (lt_z dy (pos 0)) 1 (pos 0)
  pub most_x : T (le (magnitude d.x) (fin false 1 (pos 0)))
  pub most_y : T (le (magnitude d.y) (fin false 1 (pos 0)))
