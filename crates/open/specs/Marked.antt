-- The open list of a board: the open vertices by their marks, in the order of f, g, legs and the vertex number.
use Rattle.std.specs.Prelude.{◌≡◌, List, ℕ, ◌+◌, ◌*◌, ◌^◌, ◌≤◌, ◌<◌, length, set}
use Rattle.board.specs.Limits.{largest_side}
use Rattle.board.specs.Board.{number_of, column_of, row_of}
use Rattle.spans.specs.Legs.{step}
use Rattle.length.specs.Units.{units}
use Rattle.reach.specs.Turns.{at}
use Rattle.theta.specs.Order.{Contest, contest}
use Rattle.theta.specs.Lent.{Better}
use Rattle.ranks.specs.Ranks.{numbers}
use Rattle.tournament.specs.Contest.{no_key, Leads}
use Rattle.tournament.specs.Tournament.{Tournament, of_leaf}
use Rattle.tournament.specs.Nodes.{Seated}
use Rattle.open.specs.Groups.{leaf_at, groups_of, nodes_of}

-- ---- the ranks

-- h of each vertex: the leg length to the goal
abbrev pub to_goal : (width gx gy : ℕ) → ℕ → ℕ
to_goal width gx gy v = units (step (column_of width v) gx) (step (row_of width v) gy)

-- a board's vertices with mark 1 are open, and f is g plus h
abbrev pub board_contest : (width height gx gy : ℕ) (g m l : List ℕ) → Contest
board_contest width height gx gy g m l = contest ((width + 1) * (height + 1)) (to_goal width gx gy) g m l

-- ---- what the calls need

-- (x, y) and the goal are vertices of a board that is no larger than the largest
pub record Sited (width height x y gx gy : ℕ) : Type 0 where
  pub narrow : width ≤ largest_side
  pub low : height ≤ largest_side
  pub column : x ≤ width
  pub row : y ≤ height
  pub goal_x : gx ≤ width
  pub goal_y : gy ≤ height

-- each of n vertices has its entries, and no open one's g is large
pub record Small (n : ℕ) (g m l : List ℕ) : Type 0 where
  pub room_g : n ≤ length g
  pub room_m : n ≤ length m
  pub room_l : n ≤ length l
  pub small : (v : ℕ) → v < n → at m v ≡ 1 → at g v < 2 ^ 63

-- the open list is right: no open g is large, the leaders are vertices, and each node has the first open vertex under it with its f
pub record Listed (width height gx gy : ℕ) (g m l leads keys : List ℕ) : Type 0 where
  pub small : Small ((width + 1) * (height + 1)) g m l
  pub seated : Seated (numbers g l) leads
  pub played : Tournament (groups_of width height) (board_contest width height gx gy g m l) leads keys

-- room for all nodes, and none of them has a leader
pub record Blank (width height : ℕ) (leads keys : List ℕ) : Type 0 where
  pub room_l : nodes_of width height ≤ length leads
  pub room_k : nodes_of width height ≤ length keys
  pub lead : (i : ℕ) → at leads i ≡ 0
  pub key : (i : ℕ) → i < nodes_of width height → at keys i ≡ no_key

-- the vertex v at (x, y) can get the g `own` and so many legs: the g is small, and they are better than what an open vertex has
pub record Lower (width x y v own count : ℕ) (g m l : List ℕ) : Type 0 where
  pub is : v ≡ number_of width x y
  pub small : own < 2 ^ 63
  pub less : at m v ≡ 1 → Better own count (at g v) (at l v)

-- ---- what they leave

-- r leads the group of (x, y) with the key k
pub record Looked (width height x y gx gy : ℕ) (g m l : List ℕ) (r k : ℕ) : Type 0 where
  pub on : r < (width + 1) * (height + 1)
  pub leads : Leads (board_contest width height gx gy g m l) (of_leaf (groups_of width height) (leaf_at width height x y)) r k

-- v is open with the g `own` and so many legs, and the list is right again
pub record Opens (width height gx gy v own count : ℕ) (g m l g' m' l' leads' keys' : List ℕ) : Type 0 where
  pub g_is : g' ≡ set g v own
  pub legs_is : l' ≡ set l v count
  pub mark_is : m' ≡ set m v 1
  pub listed : Listed width height gx gy g' m' l' leads' keys'

-- v is expanded, and the list is right again
pub record Closes (width height gx gy v : ℕ) (g m l m' leads' keys' : List ℕ) : Type 0 where
  pub mark_is : m' ≡ set m v 2
  pub listed : Listed width height gx gy g m' l leads' keys'
