-- A job: records of 8 bytes, as document 01 has them, and what they mean.
use Rattle.std.specs.Prelude.{ℕ, zero, suc, ◌*◌, ◌/◌, ◌%◌, Bool, not, ◌&&◌, ◌||◌, cond, List, [], ◌∷◌, ◌++◌, leb, ltb, eqb}
use Rattle.laws.specs.Below.{some, how_many, first_where}
use Rattle.records.specs.Records.{records, byte}

-- the most bytes of a job
abbrev pub longest_job : ℕ
longest_job = 8192

-- ---- record i: its type and its numbers

-- byte 0 is the type
abbrev pub is_board : List ℕ → ℕ → Bool
is_board job i = eqb (byte job i 0) 1

abbrev pub is_keepout : List ℕ → ℕ → Bool
is_keepout job i = eqb (byte job i 0) 2

abbrev pub is_net : List ℕ → ℕ → Bool
is_net job i = eqb (byte job i 0) 3

-- a type that is none of these
abbrev pub is_unknown : List ℕ → ℕ → Bool
is_unknown job i = not (is_board job i || (is_keepout job i || is_net job i))

-- the bytes that a record of a type uses
unfoldable pub used_by : (type : ℕ) → List ℕ
used_by type =
    cond (eqb type 1) (0 ∷ 2 ∷ 3 ∷ [])
    (cond (eqb type 2) (0 ∷ 2 ∷ 3 ∷ 4 ∷ 5 ∷ [])
    (cond (eqb type 3) (0 ∷ 1 ∷ 2 ∷ 3 ∷ 4 ∷ 5 ∷ [])
    []))

-- the coordinate that byte k gives
unfoldable pub coordinate : List ℕ → (i k : ℕ) → ℕ
coordinate job i k = byte job i k

-- the board, which is record 0
abbrev pub width : List ℕ → ℕ
width job = coordinate job 0 2

abbrev pub height : List ℕ → ℕ
height job = coordinate job 0 3

-- a keepout: its first cell is (left, top), and right and bottom are just past its last
abbrev pub left : List ℕ → ℕ → ℕ
left job i = coordinate job i 2

abbrev pub top : List ℕ → ℕ → ℕ
top job i = coordinate job i 3

abbrev pub right : List ℕ → ℕ → ℕ
right job i = coordinate job i 4

abbrev pub bottom : List ℕ → ℕ → ℕ
bottom job i = coordinate job i 5

-- a net: its number, its start (sx, sy) and its goal (gx, gy)
pub record Net : Type 0 where
  pub number : ℕ
  pub sx : ℕ
  pub sy : ℕ
  pub gx : ℕ
  pub gy : ℕ

abbrev pub net_at : List ℕ → ℕ → Net
net_at job i = record {
  number = byte job i 1;
  sx = coordinate job i 2;
  sy = coordinate job i 3;
  gx = coordinate job i 4;
  gy = coordinate job i 5;
}

-- ---- what an accepted job means

-- cell (x, y) is in a rectangle, in the keepout of record i, in some keepout
abbrev pub inside : (left top right bottom x y : ℕ) → Bool
inside left top right bottom x y = (leb left x && ltb x right) && (leb top y && ltb y bottom)

abbrev pub covers : List ℕ → (x y i : ℕ) → Bool
covers job x y i = is_keepout job i && inside (left job i) (top job i) (right job i) (bottom job i) x y

unfoldable pub in_keepout : List ℕ → (x y : ℕ) → Bool
in_keepout job x y = some (records job) (covers job x y)

-- the cells row by row, 1 exactly where a keepout is: the first n of them
unfoldable pub cells_up_to : List ℕ → ℕ → List ℕ
cells_up_to job zero = []
cells_up_to job (suc n) = cells_up_to job n ++ (cond (in_keepout job (n % width job) (n / width job)) 1 0 ∷ [])

abbrev pub board_cells : List ℕ → List ℕ
board_cells job = cells_up_to job (width job * height job)

-- how many nets there are, and the record of the net with an index counted from 0
abbrev pub nets : List ℕ → ℕ
nets job = how_many (records job) (is_net job)

abbrev pub net_record : List ℕ → ℕ → ℕ
net_record job index = first_where (records job) (λ (i : ℕ). is_net job i && eqb (how_many i (is_net job)) index)
