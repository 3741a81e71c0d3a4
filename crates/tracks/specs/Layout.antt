-- Routes as plain slices of numbers: the net numbers, how many points each net has, and all points' x and y, net after net.
use Rattle.std.specs.Prelude.{ℕ, zero, suc, ◌+◌, List, [], ◌∷◌, ◌++◌, length, get_or}
use Rattle.tracks.specs.Tracks.{Point, Route, route}

pub record Slices : Type 0 where
  pub nets : List ℕ
  pub counts : List ℕ
  pub xs : List ℕ
  pub ys : List ℕ

abbrev pub slices : (nets counts xs ys : List ℕ) → Slices
slices nets counts xs ys = record { nets = nets; counts = counts; xs = xs; ys = ys }

-- ---- routes laid out

unfoldable pub numbers_of : List Route → List ℕ
numbers_of [] = []
numbers_of (r ∷ rs) = r.net ∷ numbers_of rs

unfoldable pub counts_of : List Route → List ℕ
counts_of [] = []
counts_of (r ∷ rs) = length r.points ∷ counts_of rs

-- one coordinate of points, and of all routes' points
unfoldable pub each : (Point → ℕ) → List Point → List ℕ
each coordinate [] = []
each coordinate (p ∷ ps) = coordinate p ∷ each coordinate ps

unfoldable pub all : (Point → ℕ) → List Route → List ℕ
all coordinate [] = []
all coordinate (r ∷ rs) = each coordinate r.points ++ all coordinate rs

abbrev pub xs_of : List Route → List ℕ
xs_of = all (λ (p : Point). p.x)

abbrev pub ys_of : List Route → List ℕ
ys_of = all (λ (p : Point). p.y)

abbrev pub laid_out : List Route → Slices
laid_out rs = slices (numbers_of rs) (counts_of rs) (xs_of rs) (ys_of rs)

-- ---- the routes that slices lay out; what lies beyond the end of a slice reads as 0

-- the points from one on
unfoldable pub points_at : (xs ys : List ℕ) → (from count : ℕ) → List Point
points_at xs ys from zero = []
points_at xs ys from (suc n) = points_at xs ys from n ++ (record { x = get_or xs (from + n) 0; y = get_or ys (from + n) 0 } ∷ [])

-- how many points the first k nets have
unfoldable pub points_before : (counts : List ℕ) → (k : ℕ) → ℕ
points_before counts zero = 0
points_before counts (suc k) = points_before counts k + get_or counts k 0

abbrev pub route_at : Slices → (k : ℕ) → Route
route_at s k = route (get_or s.nets k 0) (points_at s.xs s.ys (points_before s.counts k) (get_or s.counts k 0))

-- the first k nets
unfoldable pub routes_up_to : Slices → (k : ℕ) → List Route
routes_up_to s zero = []
routes_up_to s (suc k) = routes_up_to s k ++ (route_at s k ∷ [])

abbrev pub routes_of : Slices → List Route
routes_of s = routes_up_to s (length s.nets)
