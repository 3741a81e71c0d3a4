-- Why a route file is refused: 11, then in each record 13, 23 and 22, in this order.
use Rattle.std.specs.Prelude.{ℕ, zero, suc, ◌-◌, ◌≡◌, refl, Bool, not, ◌&&◌, ◌||◌, cond, List, [], ◌∷◌, ltb, eqb}
use Rattle.laws.specs.Below.{some, first_where}
use Rattle.board.specs.Handed.{Verdict, refused, row, and_then}
use Rattle.records.specs.Records.{records, byte, length_row, in_order, unused_row}
use Rattle.tracks.specs.declared.RouteRefusal.{RouteRefusal}
use Rattle.tracks.specs.declared.RouteRefusal.TheVariants.{Uneven, Unknown, Unused, Order}
use Rattle.tracks.specs.Tracks.{is_point, is_none, net_of, place_of}

-- 13: a type other than 4 and 5
abbrev pub is_unknown : List ℕ → ℕ → Bool
is_unknown file i = not (is_point file i || is_none file i)

-- 23: the bytes that a record of a type uses
unfoldable pub used_by : (type : ℕ) → List ℕ
used_by type = cond (eqb type 4) (0 ∷ 1 ∷ 2 ∷ 3 ∷ 4 ∷ 5 ∷ []) (cond (eqb type 5) (0 ∷ 1 ∷ []) [])

-- ---- 22: what can be wrong with record i after the records before it

-- the net number of the record before, 0 before the first
abbrev pub net_before : List ℕ → ℕ → ℕ
net_before file zero = 0
net_before file (suc i) = net_of file i

-- the net number is 0 or below the one before
abbrev pub is_net_wrong : List ℕ → ℕ → Bool
is_net_wrong file i = eqb (net_of file i) 0 || ltb (net_of file i) (net_before file i)

-- the net has an earlier record; where numbers do not fall, that is the record before
unfoldable pub has_earlier : List ℕ → ℕ → Bool
has_earlier file i = some i (λ (j : ℕ). eqb (net_of file j) (net_of file i))

-- a net's first place isn't 0
abbrev pub is_first_wrong : List ℕ → ℕ → Bool
is_first_wrong file i = not (has_earlier file i) && (is_point file i && not (eqb (place_of file i) 0))

-- a later place isn't one more than the last
abbrev pub is_later_wrong : List ℕ → ℕ → Bool
is_later_wrong file i = has_earlier file i && (is_point file i && not (eqb (place_of file i) (suc (place_of file (i - 1)))))

-- the net has an earlier record and either is type 5
abbrev pub is_none_wrong : List ℕ → ℕ → Bool
is_none_wrong file i = has_earlier file i && (is_none file i || is_none file (i - 1))

unfoldable pub is_wrong : List ℕ → ℕ → Bool
is_wrong file i = is_net_wrong file i || (is_first_wrong file i || (is_later_wrong file i || is_none_wrong file i))

-- ---- in order

unfoldable pub record_rows : List ℕ → ℕ → Verdict
record_rows file i =
    and_then (row (is_unknown file i) 13 i)
    (and_then (unused_row file (used_by (byte file i 0)) i)
    (row (is_wrong file i) 22 i))

unfoldable pub file_rows : List ℕ → Verdict
file_rows file = and_then (length_row file) (in_order (records file) (record_rows file))

-- of a record of unknown type that is out of order too the type is told, and of one with an unused byte that byte
unknown_first : file_rows (3 ∷ 0 ∷ 0 ∷ 0 ∷ 0 ∷ 0 ∷ 0 ∷ 0 ∷ []) ≡ refused 13 0 0
unfolding file_rows in_order record_rows used_by is_wrong has_earlier place_of byte some first_where
unknown_first = refl

unused_second : file_rows (5 ∷ 0 ∷ 0 ∷ 0 ∷ 0 ∷ 0 ∷ 0 ∷ 9 ∷ []) ≡ refused 23 0 7
unfolding file_rows in_order record_rows used_by is_wrong has_earlier place_of byte some first_where
unused_second = refl

-- the row of each refusal of the code
abbrev pub refusal_row : RouteRefusal → Verdict
refusal_row Uneven = refused 11 0 0
refusal_row (Unknown i) = refused 13 i 0
refusal_row (Unused i k) = refused 23 i k
refusal_row (Order i) = refused 22 i 0
