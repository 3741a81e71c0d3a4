-- A route file (document 02, item 1): nets, each with the points of its path or none, and the records of 8 bytes that say so.
use Rattle.std.specs.Prelude.{ℕ, zero, suc, ◌+◌, ◌*◌, ◌/◌, ◌%◌, Bool, cond, List, [], ◌∷◌, ◌++◌, eqb}
use Rattle.records.specs.Records.{records, byte}

-- ---- what a route file tells

pub record Point : Type 0 where
  pub x : ℕ
  pub y : ℕ

-- a net and its path, start first; no points: the net has no path
pub record Route : Type 0 where
  pub net : ℕ
  pub points : List Point

abbrev pub route : (net : ℕ) → (points : List Point) → Route
route net points = record { net = net; points = points }

-- ---- routes as records

-- type 4: the net, the place in the path counted from 0 in two bytes, low byte first, x, y, and two zero bytes
abbrev pub point_record : (net place : ℕ) → Point → List ℕ
point_record net place p = 4 ∷ net ∷ place % 256 ∷ place / 256 % 256 ∷ p.x ∷ p.y ∷ 0 ∷ 0 ∷ []

-- type 5: a net with no path, and six zeros
abbrev pub none_record : (net : ℕ) → List ℕ
none_record net = 5 ∷ net ∷ 0 ∷ 0 ∷ 0 ∷ 0 ∷ 0 ∷ 0 ∷ []

-- points with their places, counted on from this one
unfoldable pub points_from : (net place : ℕ) → List Point → List ℕ
points_from net place [] = []
points_from net place (p ∷ ps) = point_record net place p ++ points_from net (suc place) ps

abbrev pub net_records : (net : ℕ) → List Point → List ℕ
net_records net [] = none_record net
net_records net (p ∷ ps) = points_from net 0 (p ∷ ps)

-- the file of these routes
unfoldable pub file_of : List Route → List ℕ
file_of [] = []
file_of (r ∷ rs) = net_records r.net r.points ++ file_of rs

-- ---- records as routes

-- record i: its type, its net, and of a point its place and where it is
abbrev pub is_point : List ℕ → ℕ → Bool
is_point file i = eqb (byte file i 0) 4

abbrev pub is_none : List ℕ → ℕ → Bool
is_none file i = eqb (byte file i 0) 5

abbrev pub net_of : List ℕ → ℕ → ℕ
net_of file i = byte file i 1

unfoldable pub place_of : List ℕ → ℕ → ℕ
place_of file i = byte file i 2 + byte file i 3 * 256

abbrev pub point_of : List ℕ → ℕ → Point
point_of file i = record { x = byte file i 4; y = byte file i 5 }

-- a point before some routes: it begins the first of them where that is of its net, and else a route of its own
unfoldable pub with_point : (net : ℕ) → Point → List Route → List Route
with_point net p [] = route net (p ∷ []) ∷ []
with_point net p (r ∷ rs) = cond (eqb net r.net) (route net (p ∷ r.points) ∷ rs) (route net (p ∷ []) ∷ r ∷ rs)

-- record i before some routes
unfoldable pub with_record : List ℕ → (i : ℕ) → List Route → List Route
with_record file i rs = cond (is_point file i) (with_point (net_of file i) (point_of file i) rs) (route (net_of file i) [] ∷ rs)

-- the routes of n records from record i on, and of the whole file
unfoldable pub routes_from : List ℕ → (n i : ℕ) → List Route
routes_from file zero i = []
routes_from file (suc n) i = with_record file i (routes_from file n (suc i))

abbrev pub routes_in : List ℕ → List Route
routes_in file = routes_from file (records file) 0
