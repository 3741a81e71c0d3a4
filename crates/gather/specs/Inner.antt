-- What the functions inside may rely on and say to each other and to the crates above. No public contract cites it, so nobody need believe this.
use Rattle.std.specs.Prelude.{ℕ, ◌+◌, ◌-◌, ◌^◌, ◌≤◌, ◌<◌, ◌≡◌, Bool, true, false, ◌&&◌, cond, List, ltb, eqb, length, get_or, set}
use Rattle.laws.specs.Below.{as_number}
use Rattle.board.specs.Handed.{passes}
use Rattle.tracks.specs.Tracks.{routes_in}
use Rattle.tracks.specs.Layout.{Slices, numbers_of, xs_of, laid_out}
use Rattle.tracks.specs.Answers.{slices_after}

-- a point of this net belongs to net k
abbrev pub goes_on : (nets : List ℕ) → (count k net : ℕ) → (point : Bool) → Bool
goes_on nets count k net point = point && (ltb k count && eqb net (get_or nets k 0))

-- a point, if it is one, is put before point j
pub record PointTaken (x y : ℕ) (point : Bool) (j : ℕ) (xs ys : List ℕ) (r : ℕ) (xs' ys' : List ℕ) : Type 0 where
  pub first : r ≡ j - as_number point
  pub xs_are : xs' ≡ cond point (set xs (j - 1) x) xs
  pub ys_are : ys' ≡ cond point (set ys (j - 1) y) ys

-- there is room for a net before net k, or for one point more of it
pub record NetRoom (nets counts : List ℕ) (count k net : ℕ) (point : Bool) : Type 0 where
  pub below : k ≤ count
  pub nets_fit : count ≤ length nets
  pub counts_fit : count ≤ length counts
  pub new : goes_on nets count k net point ≡ false → 1 ≤ k
  pub more : goes_on nets count k net point ≡ true → get_or counts k 0 + 1 < 2 ^ 64

-- a record of this net is put before net k, of which it is one point more, or a net of its own
pub record NetTaken (count k net : ℕ) (point : Bool) (nets counts : List ℕ) (r : ℕ) (nets' counts' : List ℕ) : Type 0 where
  pub first : r ≡ cond (goes_on nets count k net point) k (k - 1)
  pub nets_are : nets' ≡ cond (goes_on nets count k net point) nets (set nets (k - 1) net)
  pub counts_are : counts' ≡ cond (goes_on nets count k net point) (set counts k (get_or counts k 0 + 1)) (set counts (k - 1) (as_number point))

-- the slices have room for all nets and points
pub record Room (file : List ℕ) (lent : Slices) (count points : ℕ) : Type 0 where
  pub count_is : count ≡ length (numbers_of (routes_in file))
  pub points_are : points ≡ length (xs_of (routes_in file))
  pub nets : count ≤ length lent.nets
  pub counts : count ≤ length lent.counts
  pub xs : points ≤ length lent.xs
  pub ys : points ≤ length lent.ys

-- the routes are in the slices
abbrev pub Gathered : (file : List ℕ) (before after : Slices) → Type 0
Gathered file before after = after ≡ slices_after passes (laid_out (routes_in file)) before
