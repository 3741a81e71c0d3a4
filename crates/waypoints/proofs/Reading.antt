-- What is said of the points that are read from the records. Assumes nothing.
use Prim.Native.Nat.{ℕ, ◌-◌}
use mathlib.Core.Path.{◌≡◌}
use mathlib.Core.Bool.{Bool, not, ◌||◌}
use Rattle.tracks.specs.Tracks.{Point}
use Rattle.bureau.specs.Paths.{is_same, is_end_wrong}

pub ends_told : (start goal : Point) (n : ℕ) (p : ℕ → Point) {first last : Point} {begins ends : Bool} → first ≡ p 0 → last ≡ p (n - 1)
    → begins ≡ is_same first start → ends ≡ is_same last goal → (not begins || not ends) ≡ is_end_wrong start goal n p
unfolding is_end_wrong
ends_told start goal n p d e f g = rw (f, g, d, e)
