-- What a search promises, over any problem: the route, and the work slices it leaves. (What it finds and counts: reach's Complete.antt.)
use Rattle.std.specs.Prelude.{◌≡◌, ◌≢◌, true, List, [], ◌∷◌, ℕ, ◌+◌, ◌-◌, ◌≤◌, ◌<◌, length}
use Rattle.reach.specs.Turns.{at}
use Rattle.theta.specs.Search.{Problem, State}

-- ---- the route

-- the sum of the lengths of the legs
abbrev pub units_along : Problem → List ℕ → ℕ
units_along p [] = 0
units_along p (v ∷ []) = 0
units_along p (v ∷ (w ∷ l)) = p.len v w + units_along p (w ∷ l)

-- from the start to the goal, on the board, each leg between two different vertices and with sight, and as long as it is said
pub record IsRoute (p : Problem) (path : List ℕ) (units : ℕ) : Type 0 where
  pub some : 0 < length path
  pub first : at path 0 ≡ p.start
  pub last : at path (length path - 1) ≡ p.goal
  pub on : (i : ℕ) → i < length path → at path i < p.size
  pub differ : (i : ℕ) → i + 1 < length path → at path i ≢ at path (i + 1)
  pub sight : (i : ℕ) → i + 1 < length path → p.sees (at path i) (at path (i + 1)) ≡ true
  pub total : units ≡ units_along p path

-- ---- the work slices

-- an entry for each vertex; marks 0 unseen, 1 open, 2 expanded; an unseen vertex has g 0, parent 0 and no legs
pub record Work (p : Problem) (s : State) : Type 0 where
  pub g_size : length s.g ≡ p.size
  pub parent_size : length s.parent ≡ p.size
  pub mark_size : length s.mark ≡ p.size
  pub legs_size : length s.legs ≡ p.size
  pub marks : (v : ℕ) → v < p.size → at s.mark v ≤ 2
  pub unseen_g : (v : ℕ) → v < p.size → at s.mark v ≡ 0 → at s.g v ≡ 0
  pub unseen_parent : (v : ℕ) → v < p.size → at s.mark v ≡ 0 → at s.parent v ≡ 0
  pub unseen_legs : (v : ℕ) → v < p.size → at s.mark v ≡ 0 → at s.legs v ≡ 0

-- the start has no legs, and any other vertex that is seen one more than its parent
pub record LegsCounted (p : Problem) (s : State) : Type 0 where
  pub start_legs : at s.legs p.start ≡ 0
  pub seen_legs : (v : ℕ) → v < p.size → at s.mark v ≢ 0 → v ≢ p.start → at s.legs v ≡ at s.legs (at s.parent v) + 1
