-- What the functions inside may rely on and say to each other and to the crates above. No public contract cites it, so nobody need believe this.
use Rattle.std.specs.Prelude.{ℕ, ◌*◌, ◌/◌, ◌%◌, ◌≤◌, List, [], ◌∷◌, length}
use Rattle.tracks.specs.Layout.{Slices, points_before}
use Rattle.tracks.specs.Answers.{file_for}

-- the bytes of a record
abbrev pub bytes_for : (kind net place x y : ℕ) → List ℕ
bytes_for kind net place x y = kind ∷ net ∷ place % 256 ∷ place / 256 % 256 ∷ x ∷ y ∷ 0 ∷ 0 ∷ []

-- all slices are long enough
pub record Fitting (s : Slices) (lent : ℕ) : Type 0 where
  pub counted : length s.nets ≤ length s.counts
  pub xs : points_before s.counts (length s.nets) ≤ length s.xs
  pub ys : points_before s.counts (length s.nets) ≤ length s.ys
  pub room : length (file_for s) ≤ lent
  pub few : length (file_for s) ≤ 255 * 65536 * 8
