-- What the code reads of the vertices' ranks.
use Rattle.std.specs.Prelude.{List, ℕ, min, length}
use Rattle.board.specs.Limits.{most_vertices}
use Rattle.reach.specs.Turns.{at}
use Rattle.theta.specs.Order.{Rank, ranked}

-- the rank of v with this key, where g and legs are what is known of each vertex
abbrev pub seen : List ℕ → List ℕ → ℕ → ℕ → Rank
seen g legs v k = ranked k (at g v) (at legs v) v

-- the vertex numbers that have an entry in both
abbrev pub numbers : List ℕ → List ℕ → ℕ
numbers g legs = min (min (length g) (length legs)) most_vertices
