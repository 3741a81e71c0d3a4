-- A small route file, by the definitions. Assumes nothing.
use Prim.Native.Nat.{ℕ}
use mathlib.Core.Path.{◌≡◌, refl}
use mathlib.Core.List.{List, [], ◌∷◌}
use Rattle.laws.specs.Below.{some, first_where}
use Rattle.board.specs.Handed.{passes, refused}
use Rattle.records.specs.Records.{byte, in_order}
use Rattle.tracks.specs.Tracks.{Route, route, points_from, file_of, place_of, with_point, with_record, routes_from, routes_in}
use Rattle.tracks.specs.Faults.{used_by, has_earlier, is_wrong, record_rows, file_rows}

-- net 1 from (7, 9) to (7, 10), and net 3 with no path
abbrev two : List Route
two = route 1 (record { x = 7; y = 9 } ∷ record { x = 7; y = 10 } ∷ []) ∷ route 3 [] ∷ []

abbrev file : List ℕ
file = 4 ∷ 1 ∷ 0 ∷ 0 ∷ 7 ∷ 9 ∷ 0 ∷ 0 ∷ 4 ∷ 1 ∷ 1 ∷ 0 ∷ 7 ∷ 10 ∷ 0 ∷ 0 ∷ 5 ∷ 3 ∷ 0 ∷ 0 ∷ 0 ∷ 0 ∷ 0 ∷ 0 ∷ []

pub two_written : file_of two ≡ file
unfolding file_of points_from
two_written = refl

pub two_read : routes_in file ≡ two
unfolding routes_from with_record with_point byte
two_read = refl

pub two_pass : file_rows file ≡ passes
unfolding file_rows in_order record_rows used_by is_wrong has_earlier place_of byte some first_where
two_pass = refl

-- a net after its type 5 record
pub after_none : file_rows (5 ∷ 1 ∷ 0 ∷ 0 ∷ 0 ∷ 0 ∷ 0 ∷ 0 ∷ 4 ∷ 1 ∷ 0 ∷ 0 ∷ 7 ∷ 9 ∷ 0 ∷ 0 ∷ []) ≡ refused 22 1 0
unfolding file_rows in_order record_rows used_by is_wrong has_earlier place_of byte some first_where
after_none = refl
