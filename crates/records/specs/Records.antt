-- Files of records of 8 bytes, whatever these mean: how many there are, their bytes, and rows for each of them in order.
use Rattle.std.specs.Prelude.{ℕ, zero, suc, ◌+◌, ◌*◌, ◌/◌, ◌%◌, Bool, false, not, ◌&&◌, ◌||◌, cond, List, [], ◌∷◌, ltb, eqb, length, get_or}
use Rattle.laws.specs.Below.{first_where}
use Rattle.board.specs.Handed.{Verdict, passes, refused, row, and_then}

-- the bytes of a record
abbrev pub record_bytes : ℕ
record_bytes = 8

-- how many records a file has
abbrev pub records : List ℕ → ℕ
records file = length file / record_bytes

-- byte k of record i
unfoldable pub byte : List ℕ → (i k : ℕ) → ℕ
byte file i k = get_or file (i * record_bytes + k) 0

-- 11: the length is no multiple of 8
abbrev pub length_row : List ℕ → Verdict
length_row file = row (not (eqb (length file % record_bytes) 0)) 11 0

-- the first n records in order, each by its own rows: the first that is refused decides
unfoldable pub in_order : (n : ℕ) → (rows : ℕ → Verdict) → Verdict
in_order zero rows = passes
in_order (suc n) rows = and_then (in_order n rows) (rows n)

-- a number stands in a list
abbrev pub is_in : ℕ → List ℕ → Bool
is_in k [] = false
is_in k (n ∷ ns) = eqb k n || is_in k ns

-- byte k of record i is not among the used ones, and not 0
abbrev pub is_stray_byte : List ℕ → (used : List ℕ) → (i k : ℕ) → Bool
is_stray_byte file used i k = not (is_in k used) && not (eqb (byte file i k) 0)

-- the lowest such byte; the number of bytes if there is none
abbrev pub stray_byte : List ℕ → (used : List ℕ) → (i : ℕ) → ℕ
stray_byte file used i = first_where record_bytes (is_stray_byte file used i)

-- 23: an unused byte is not 0, with the record and the byte
abbrev pub unused_row : List ℕ → (used : List ℕ) → (i : ℕ) → Verdict
unused_row file used i = let k = stray_byte file used i in cond (ltb k record_bytes) (refused 23 i k) passes
