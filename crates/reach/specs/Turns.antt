-- A search as turns: each picks an open vertex and takes it, until the goal is picked or nothing is open.
use Rattle.std.specs.Prelude.{Bool, true, false, not, List, ℕ, zero, suc, eqb, get_or}

-- ---- the marks: one for each vertex, 0 unseen, 1 open, 2 expanded

-- the entry of a list at v
abbrev pub at : List ℕ → ℕ → ℕ
at l v = get_or l v 0

-- v is open or expanded
abbrev pub seen_in : List ℕ → ℕ → Bool
seen_in m v = not (eqb (at m v) 0)

-- v is expanded
abbrev pub done_in : List ℕ → ℕ → Bool
done_in m v = eqb (at m v) 2

-- ---- the turns

-- nothing is open; or the goal is picked; or another open vertex is
pub data Choice : Type 0 where
  nothing : Choice
  arrived : Choice
  vertex : ℕ → Choice

-- how to search with states S: what a state says of marks and expansions, what it picks, what arriving and taking do to it
pub record Mode (S : Type 0) : Type 0 where
  pub mark : S → List ℕ
  pub expansions : S → ℕ
  pub pick : S → Choice
  pub stop : S → S
  pub take : ℕ → S → S

pub record Result (S : Type 0) : Type 0 where
  pub found : Bool
  pub state : S

-- as many turns as the fuel says, until nothing is open or the goal is picked
unfoldable pub turns : {S : Type 0} → Mode S → ℕ → S → Result S
turns M zero s = record { found = false; state = s }
turns M (suc k) s = elim (M.pick s) [
  | nothing ↦ record { found = false; state = s }
  | arrived ↦ record { found = true; state = M.stop s }
  | vertex u ↦ turns M k (M.take u s)
]
