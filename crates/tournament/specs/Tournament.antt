-- A tournament over groups of vertices: each group has a leaf, node i has the nodes 2 i and 2 i + 1 below it, and node 1 is the root.
use Rattle.std.specs.Prelude.{◌≡◌, ◌≢◌, true, List, ℕ, ◌*◌, ◌/◌, ◌≤◌, ◌<◌, length}
use Rattle.reach.specs.Turns.{at}
use Rattle.theta.specs.Order.{Rank, sooner, Contest}
use Rattle.tournament.specs.Contest.{Leads}

-- ---- the tree

-- the climb from i, each step to half of it, comes by j
pub data Under (j : ℕ) : ℕ → Type 0 where
  here : Under j j
  above : {i : ℕ} → Under j (i / 2) → Under j i

-- how many leaves there are, and the node that is each vertex's leaf
pub record Groups : Type 0 where
  pub leaves : ℕ
  pub leaf : ℕ → ℕ

-- the leaves of n vertices are the nodes from `leaves` up to twice as many
pub record Planted (G : Groups) (n : ℕ) : Type 0 where
  pub low : (v : ℕ) → v < n → G.leaves ≤ G.leaf v
  pub high : (v : ℕ) → v < n → G.leaf v < 2 * G.leaves

-- the vertices of the leaf i, and the vertices of all the leaves under node i
abbrev pub of_leaf : Groups → ℕ → ℕ → Type 0
of_leaf G i v = G.leaf v ≡ i

abbrev pub of_node : Groups → ℕ → ℕ → Type 0
of_node G i v = Under i (G.leaf v)

-- each node has the first open vertex under it, with its key
pub record Tournament (G : Groups) (C : Contest) (leads keys : List ℕ) : Type 0 where
  pub room_l : 2 * G.leaves ≤ length leads
  pub room_k : 2 * G.leaves ≤ length keys
  pub lead : (i : ℕ) → 0 < i → i < 2 * G.leaves → Leads C (of_node G i) (at leads i) (at keys i)

-- ---- what changes

-- nothing but w changes
pub record Else (C C' : Contest) (w : ℕ) : Type 0 where
  pub size_same : C'.size ≡ C.size
  pub open_same : (v : ℕ) → v < C.size → v ≢ w → C'.is_open v ≡ C.is_open v
  pub rank_same : (v : ℕ) → v < C.size → v ≢ w → C'.rank v ≡ C.rank v

-- w opens with the rank a, or was open with a later one
pub record Opened (C C' : Contest) (w : ℕ) (a : Rank) : Type 0 where
  pub others : Else C C' w
  pub on : w < C.size
  pub opens : C'.is_open w ≡ true
  pub rank_is : C'.rank w ≡ a
  pub sooner_now : C.is_open w ≡ true → sooner a (C.rank w) ≡ true

-- ---- what is shown of it

-- a vertex and a key give a rank, which is the vertex's own if the key is its f
pub record Shown (C : Contest) (show : ℕ → ℕ → Rank) : Type 0 where
  pub key : (v k : ℕ) → (show v k).f ≡ k
  pub own : (v : ℕ) → v < C.size → show v (C.rank v).f ≡ C.rank v
