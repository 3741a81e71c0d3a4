-- Basic Theta* as document 01 says it, step by step. It computes.
use Rattle.std.specs.Prelude.{Bool, true, false, not, ◌&&◌, ◌||◌, cond, List, [], ◌∷◌, ◌++◌, ℕ, zero, suc, ◌+◌, eqb, ltb, set, replicate}
use Rattle.reach.specs.Turns.{at, Choice, nothing, arrived, vertex, Mode, Result, turns}
use Rattle.theta.specs.Order.{less_or, Contest, least, contest}

-- what is searched: how many vertices, the visible neighbours, sight, the length of a leg in units, and the two ends
pub record Problem : Type 0 where
  pub size : ℕ
  pub near : ℕ → ℕ → Bool
  pub sees : ℕ → ℕ → Bool
  pub len : ℕ → ℕ → ℕ
  pub start : ℕ
  pub goal : ℕ

-- g, parent, mark and legs have an entry for each vertex; a mark is 0 unseen, 1 open, 2 expanded; legs are counted from the start
pub record State : Type 0 where
  pub g : List ℕ
  pub parent : List ℕ
  pub mark : List ℕ
  pub legs : List ℕ
  pub expansions : ℕ
  pub tests : ℕ

-- the start has g 0, itself as parent, and is open; the others are unseen, with g 0 and parent 0; all have no legs
unfoldable pub initial : Problem → State
initial p = record {
  g = replicate p.size 0;
  parent = set (replicate p.size 0) p.start p.start;
  mark = set (replicate p.size 0) p.start 1;
  legs = replicate p.size 0;
  expansions = 0;
  tests = 0;
}

-- ---- which vertex is taken

-- the open vertices; h is the leg length to the goal
abbrev pub contest_of : Problem → State → Contest
contest_of p s = contest p.size (λ v. p.len v p.goal) s.g s.mark s.legs

-- the open list is empty, or u is the goal, or u is another vertex
abbrev pub choice_of : Bool → Bool → ℕ → Choice
choice_of true goal u = nothing
choice_of false true u = arrived
choice_of false false u = vertex u

-- what the search takes next
unfoldable pub choose : Problem → State → Choice
choose p s = let u = least (contest_of p s) p.size in choice_of (eqb u p.size) (eqb u p.goal) u

-- ---- what taking it does

-- w is a visible neighbour of the taken vertex u, and is not yet expanded
abbrev pub due : Problem → ℕ → ℕ → State → Bool
due p u w s = p.near u w && not (eqb (at s.mark w) 2)

-- the candidate parent of w: with sight from the taken vertex's parent to w, that parent; without, the taken vertex itself
abbrev pub via : Problem → State → ℕ → ℕ → ℕ
via p s u w = cond (p.sees (at s.parent u) w) (at s.parent u) u

-- the candidate g of w: the candidate parent's g plus the leg's length
abbrev pub cost : Problem → State → ℕ → ℕ → ℕ
cost p s c w = at s.g c + p.len c w

-- the candidate legs: one more than the candidate parent's
abbrev pub legs_by : State → ℕ → ℕ
legs_by s c = at s.legs c + 1

-- w is unseen, or the candidate g is strictly smaller, or it is equal and the candidate legs are fewer
unfoldable pub wins : Problem → State → ℕ → ℕ → Bool
wins p s c w = eqb (at s.mark w) 0 || less_or (cost p s c w) (at s.g w) (ltb (legs_by s c) (at s.legs w))

-- one sight test is made; if it wins, w gets that parent c with its legs and that g, and is open
abbrev pub store : Bool → ℕ → ℕ → ℕ → State → State
store true w c g s = record {
  g = set s.g w g;
  parent = set s.parent w c;
  mark = set s.mark w 1;
  legs = set s.legs w (legs_by s c);
  expansions = s.expansions;
  tests = s.tests + 1;
}
store false w c g s = record {
  g = s.g;
  parent = s.parent;
  mark = s.mark;
  legs = s.legs;
  expansions = s.expansions;
  tests = s.tests + 1;
}

-- w is offered the candidate parent c, by one sight test
abbrev pub update : Problem → ℕ → ℕ → State → State
update p c w s = store (wins p s c w) w c (cost p s c w) s

-- w is looked at, if it is due
abbrev pub relax : Bool → Problem → ℕ → ℕ → State → State
relax true p u w s = update p (via p s u w) w s
relax false p u w s = s

-- the vertices below k are looked at, in increasing order
unfoldable pub around : Problem → ℕ → ℕ → State → State
around p u zero s = s
around p u (suc k) s = let r = around p u k s in relax (due p u k r) p u k r

-- u is marked expanded (one expansion)
unfoldable pub close : ℕ → State → State
close u s = record {
  g = s.g;
  parent = s.parent;
  mark = set s.mark u 2;
  legs = s.legs;
  expansions = s.expansions + 1;
  tests = s.tests;
}

-- u is taken: it is marked, and then all its neighbours are looked at
unfoldable pub expand : Problem → ℕ → State → State
unfolding around close
expand p u s = around p u p.size (close u s)

-- ---- the search

-- the goal is not expanded and stays marked open: arriving changes nothing
abbrev pub basic : Problem → Mode State
basic p = record { mark = λ s. s.mark; expansions = λ s. s.expansions; pick = choose p; stop = λ s. s; take = expand p }

-- one turn more than there are vertices to take
unfoldable pub search : Problem → Result State
unfolding turns initial choose expand
search p = turns (basic p) (suc p.size) (initial p)

-- ---- the path

-- from v back by the parents, at most k of them, start first
unfoldable pub trail : ℕ → List ℕ → ℕ → ℕ → List ℕ
trail start parent zero v = v ∷ []
trail start parent (suc k) v = elim (eqb v start) [ true ↦ v ∷ [] | false ↦ trail start parent k (at parent v) ++ (v ∷ []) ]

-- the path to the goal, read from the parents
abbrev pub path : Problem → State → List ℕ
path p s = trail p.start s.parent p.size p.goal
