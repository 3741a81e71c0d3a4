-- What the code's nodes hold, and what its calls leave, whatever ranks the vertices have: `show` gives a vertex's rank with a key as its f.
use Rattle.std.specs.Prelude.{◌≡◌, cond, List, ℕ, ◌+◌, ◌*◌, ◌/◌, ◌^◌, ◌<◌, length}
use Rattle.reach.specs.Turns.{at}
use Rattle.theta.specs.Order.{Rank, sooner, Contest}
use Rattle.tournament.specs.Contest.{WellRanked, Leads}
use Rattle.tournament.specs.Tournament.{Groups, Planted, of_leaf, Tournament, Else, Opened, Shown}

-- there is a place for the leaf and its sibling, and so for every node above
pub record Room (leaf : ℕ) (leads keys : List ℕ) : Type 0 where
  pub few : leaf < 2 ^ 60
  pub room_l : leaf / 2 * 2 + 1 < length leads
  pub room_k : leaf / 2 * 2 + 1 < length keys

-- every leader is one of the numbers below n
pub record Seated (n : ℕ) (leads : List ℕ) : Type 0 where
  pub on : (i : ℕ) → at leads i < n

-- ---- what the calls leave

-- v and f are, of the leaders r with the key k and s with the key l, the one that is taken first
pub record Won (show : ℕ → ℕ → Rank) (r k s l v f : ℕ) : Type 0 where
  pub vertex_is : v ≡ cond (sooner (show s l) (show r k)) s r
  pub key_is : f ≡ cond (sooner (show s l) (show r k)) l k

-- the ranks are shown, and the tournament is right
pub record Right (G : Groups) (C : Contest) (show : ℕ → ℕ → Rank) (leads keys : List ℕ) : Type 0 where
  pub fair : WellRanked C
  pub shown : Shown C show
  pub planted : Planted G C.size
  pub played : Tournament G C leads keys

-- in any tournament that is right, a vertex of the leaf i opens with the rank a, or gets it
pub record Entered (show : ℕ → ℕ → Rank) (n i : ℕ) (a : Rank) (leads keys leads' keys' : List ℕ) : Type 0 where
  pub seated : Seated n leads'
  pub kept : (G : Groups) (C C' : Contest) → Right G C show leads keys → WellRanked C' → G.leaf a.number ≡ i → Opened C C' a.number a
      → Tournament G C' leads' keys'

-- in any tournament that was right, a vertex of the leaf i changed, and now r leads the leaf with the key k
pub record Renewed (show : ℕ → ℕ → Rank) (n i r k : ℕ) (leads keys leads' keys' : List ℕ) : Type 0 where
  pub seated : Seated n leads'
  pub kept : (G : Groups) (C C' : Contest) (w : ℕ) → WellRanked C' → Shown C' show → Planted G C.size → Else C C' w → w < C.size → G.leaf w ≡ i
      → Tournament G C leads keys → Leads C' (of_leaf G i) r k → Tournament G C' leads' keys'
