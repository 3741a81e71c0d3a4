-- What blocks a leg, where along the leg it lies, and which of it comes first from the leg's first end.
use Rattle.std.specs.Prelude.{ℕ, ◌+◌, ◌*◌, ◌<◌, min, max, ◌≡◌, ◌⊎◌, true}
use Rattle.board.specs.Board.{Board, blocked}
use Rattle.legs.specs.Pinched.{pinched}
use Rattle.legs.specs.declared.Stop.{Stop}
use Rattle.legs.specs.declared.Stop.TheVariants.{Clear, Cell, Edge, Vertex}
use Rattle.legs.specs.Sight.{crossed, row_wall, column_wall, between, strictly_inside}
use Rattle.legs.specs.Leg.{far}

-- ---- what blocks a leg

-- the unit edge from p to q lies between a and b, with its vertex nearer to a first
pub record UnitEdge (a b p q : ℕ) : Type 0 where
  pub unit : max p q ≡ min p q + 1
  pub on : between a b (min p q) ≡ true
  pub nearer_first : far a p < far a q

-- a blocked cell that the leg crosses; a unit edge on a horizontal or a vertical leg with blocked cells on both sides; a pinched
-- vertex strictly inside the leg
pub data Blocks (b : Board) (ax ay bx by : ℕ) : Stop → Type 0 where
  cell : {i j : ℕ} → crossed ax ay bx by i j ≡ true → blocked b i j ≡ true → Blocks b ax ay bx by (Cell i j)
  level : {p q : ℕ} → ay ≡ by → UnitEdge ax bx p q → row_wall b (min p q) ay ≡ true → Blocks b ax ay bx by (Edge p ay q ay)
  upright : {p q : ℕ} → ax ≡ bx → UnitEdge ay by p q → column_wall b ax (min p q) ≡ true → Blocks b ax ay bx by (Edge ax p ax q)
  vertex : {x y : ℕ} → strictly_inside ax ay bx by x y ≡ true → pinched b x y ≡ true → Blocks b ax ay bx by (Vertex x y)

-- ---- the points of a leg

-- a point of the leg, which is cut into equal parts: so many of them lie before it and so many behind it
pub record Point : Type 0 where
  pub before : ℕ
  pub behind : ℕ
  pub some : 0 < before + behind

abbrev pub parts : Point → ℕ
parts p = p.before + p.behind

-- p is nearer to the first end than q: a lesser share of the leg lies before it
abbrev pub Nearer : Point → Point → Type 0
Nearer p q = p.before * parts q < q.before * parts p

-- a coordinate of the point, times the parts, where the ends of the leg have the coordinates a and b
abbrev pub along : (a b : ℕ) → Point → ℕ
along a b p = a * p.behind + b * p.before

-- that coordinate lies strictly between c and d
abbrev pub Strictly : (a b c d : ℕ) → Point → Type 0
Strictly a b c d p = (min c d * parts p < along a b p) × (along a b p < max c d * parts p)

-- the point lies strictly inside the cell, or strictly between the ends of a unit edge on the leg, or is the vertex
abbrev pub Meets : (ax ay bx by : ℕ) → Point → Stop → Type 0
Meets ax ay bx by p Clear = ⊥
Meets ax ay bx by p (Cell i j) = Strictly ax bx i (i + 1) p × Strictly ay by j (j + 1) p
Meets ax ay bx by p (Edge x₁ y₁ x₂ y₂) = Strictly ax bx x₁ x₂ p ⊎ Strictly ay by y₁ y₂ p
Meets ax ay bx by p (Vertex x y) = (along ax bx p ≡ x * parts p) × (along ay by p ≡ y * parts p)

-- ---- the first

-- every point of the leg in s is nearer to the first end than every point of it in t
abbrev pub Before : (ax ay bx by : ℕ) → Stop → Stop → Type 0
Before ax ay bx by s t = (p q : Point) → Meets ax ay bx by p s → Meets ax ay bx by q t → Nearer p q

-- s blocks the leg, and comes before all else that does
pub record StopsFirst (b : Board) (ax ay bx by : ℕ) (s : Stop) : Type 0 where
  pub blocks : Blocks b ax ay bx by s
  pub nearest : (t : Stop) → Blocks b ax ay bx by t → (t ≡ s) ⊎ Before ax ay bx by s t
