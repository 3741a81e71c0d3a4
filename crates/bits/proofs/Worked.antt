-- Small boards, packed and unpacked by the definitions. Assumes nothing.
use mathlib.Core.Path.{◌≡◌, refl}
use mathlib.Core.List.{[], ◌∷◌}
use Rattle.laws.specs.Below.{some, how_many, first_where}
use Rattle.bits.specs.Packed.{bit_at, joined, entries, bit_of, cell_of, cells_of}
use Rattle.bits.specs.Packed.{blocked_in, has_filling, first_filling, bit_from, byte_from, packed_of}

-- 3 by 2, the corners (0, 0) and (2, 1) blocked: a byte for each row, high bit first
pub two_rows : packed_of (1 ∷ 0 ∷ 0 ∷ 0 ∷ 0 ∷ 1 ∷ []) 3 2 ≡ 128 ∷ 32 ∷ []
unfolding joined entries bit_from byte_from
two_rows = refl

pub two_rows_read : cells_of (128 ∷ 32 ∷ []) 3 2 ≡ 1 ∷ 0 ∷ 0 ∷ 0 ∷ 0 ∷ 1 ∷ []
unfolding bit_at entries bit_of cell_of
two_rows_read = refl

-- 9 by 1: the ninth cell is the high bit of a second byte
pub nine : cells_of (1 ∷ 128 ∷ []) 9 1 ≡ 0 ∷ 0 ∷ 0 ∷ 0 ∷ 0 ∷ 0 ∷ 0 ∷ 1 ∷ 1 ∷ []
unfolding bit_at entries bit_of cell_of
nine = refl

pub nine_blocked : blocked_in (1 ∷ 128 ∷ []) 9 1 ≡ 2
unfolding bit_at bit_of cell_of blocked_in how_many
nine_blocked = refl

-- a filling bit in the second row's byte
pub filling : first_filling (128 ∷ 33 ∷ []) 3 ≡ 1
unfolding bit_at has_filling first_filling some first_where
filling = refl
