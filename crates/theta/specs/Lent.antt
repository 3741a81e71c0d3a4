-- The search in lent slices, for the code: what it begins with, one round of it, and what it leaves.
use Rattle.std.specs.Prelude.{◌≡◌, ◌⊎◌, ◌≢◌, Bool, cond, List, ◌++◌, ℕ, ◌≤◌, ◌<◌, eqb, length, set, replicate, drop}
use Rattle.reach.specs.Reach.{Reach}
use Rattle.reach.specs.Turns.{at}
use Rattle.theta.specs.Search.{Problem, State, due, relax, around, search}

-- what the slices hold, with these counts; where a count does not matter it is 0
abbrev pub state : List ℕ → List ℕ → List ℕ → List ℕ → ℕ → ℕ → State
state g parent mark legs expansions tests = record { g = g; parent = parent; mark = mark; legs = legs; expansions = expansions; tests = tests }

-- the same with another count of expansions
abbrev pub counting : ℕ → State → State
counting expansions s = state s.g s.parent s.mark s.legs expansions s.tests

-- the same with u marked expanded, not yet counted
abbrev pub marked : ℕ → State → State
marked u s = state s.g s.parent (set s.mark u 2) s.legs s.expansions s.tests

-- ---- the beginning

-- zeros for each of n vertices, then the start's parent and mark; what lies beyond is kept
pub record Begun (n start : ℕ) (before after : State) : Type 0 where
  pub g_is : after.g ≡ replicate n 0 ++ drop n before.g
  pub parent_is : after.parent ≡ set (replicate n 0 ++ drop n before.parent) start start
  pub mark_is : after.mark ≡ set (replicate n 0 ++ drop n before.mark) start 1
  pub legs_is : after.legs ≡ replicate n 0 ++ drop n before.legs

-- for each vertex the entries that the search begins with, and no counts yet
pub record Begins (p : Problem) (s : State) : Type 0 where
  pub room_g : p.size ≤ length s.g
  pub room_p : p.size ≤ length s.parent
  pub room_m : p.size ≤ length s.mark
  pub room_l : p.size ≤ length s.legs
  pub g_at : (v : ℕ) → v < p.size → at s.g v ≡ 0
  pub parent_at : (v : ℕ) → v < p.size → at s.parent v ≡ cond (eqb v p.start) p.start 0
  pub mark_at : (v : ℕ) → v < p.size → at s.mark v ≡ cond (eqb v p.start) 1 0
  pub legs_at : (v : ℕ) → v < p.size → at s.legs v ≡ 0
  pub expansions_none : s.expansions ≡ 0
  pub tests_none : s.tests ≡ 0

-- ---- the round of a taken vertex's neighbours

-- u is taken: it and its parent are on the board and expanded, no g of theirs is above `most`, each has fewer legs than there are
-- vertices, and what is seen is reached from the start
pub record Ready (p : Problem) (most u : ℕ) (s : State) : Type 0 where
  pub room_g : p.size ≤ length s.g
  pub room_p : p.size ≤ length s.parent
  pub room_m : p.size ≤ length s.mark
  pub room_l : p.size ≤ length s.legs
  pub marks : (v : ℕ) → v < p.size → at s.mark v ≤ 2
  pub reached : (v : ℕ) → v < p.size → at s.mark v ≢ 0 → Reach p.near p.start v
  pub on : u < p.size
  pub on_parent : at s.parent u < p.size
  pub done : at s.mark u ≡ 2
  pub done_parent : at s.mark (at s.parent u) ≡ 2
  pub g_most : at s.g u ≤ most
  pub g_most_parent : at s.g (at s.parent u) ≤ most
  pub few_legs : at s.legs u < p.size
  pub few_legs_parent : at s.legs (at s.parent u) < p.size

-- a candidate that is better than what a vertex has: a smaller g, or the same and fewer legs
abbrev pub Better : (g legs g₀ legs₀ : ℕ) → Type 0
Better g legs g₀ legs₀ = (g < g₀) ⊎ ((g ≡ g₀) × (legs < legs₀))

-- w has been looked at, if it was due
pub record Looked (p : Problem) (u w : ℕ) (before after : State) : Type 0 where
  pub is : after ≡ relax (due p u w before) p u w before

-- the vertices below k have been looked at
pub record Rounded (p : Problem) (u k : ℕ) (before after : State) : Type 0 where
  pub is : after ≡ around p u k before

-- ---- the end

-- what a call that searches leaves: the vertices' entries as `search` has them, what lies beyond kept
pub record Searched (p : Problem) (before after : State) (found : Bool) : Type 0 where
  pub found_is : found ≡ (search p).found
  pub expansions_is : after.expansions ≡ (search p).state.expansions
  pub tests_is : after.tests ≡ (search p).state.tests
  pub g_is : after.g ≡ (search p).state.g ++ drop p.size before.g
  pub parent_is : after.parent ≡ (search p).state.parent ++ drop p.size before.parent
  pub mark_is : after.mark ≡ (search p).state.mark ++ drop p.size before.mark
  pub legs_is : after.legs ≡ (search p).state.legs ++ drop p.size before.legs
