-- What the reader and the writer of route files hand back, in the table's numbers, and what the lent slices hold afterwards.
use Rattle.std.specs.Prelude.{ℕ, ◌≡◌, Bool, ◌||◌, List, ◌++◌, ltb, length, drop, Result}
use Rattle.board.specs.Handed.{Verdict, passes, refused, row, and_then, Handed, answer, unless, handed}
use Rattle.records.specs.Records.{records}
use Rattle.tracks.specs.declared.Sizes as code
use Rattle.tracks.specs.declared.ReadRefusal.{ReadRefusal}
use Rattle.tracks.specs.declared.ReadRefusal.TheVariants as reading
use Rattle.tracks.specs.declared.WriteRefusal.{WriteRefusal}
use Rattle.tracks.specs.declared.WriteRefusal.TheVariants as writing
use Rattle.tracks.specs.Tracks.{file_of, routes_in}
use Rattle.tracks.specs.Faults.{file_rows, refusal_row}
use Rattle.tracks.specs.Layout.{Slices, slices, numbers_of, xs_of, laid_out, points_before, routes_of}

-- a slice into which this was written: what lies beyond is kept
abbrev pub laid : (written before : List ℕ) → List ℕ
laid written before = written ++ drop (length written) before

-- ---- reading

-- how many nets there are, and how many points all of them have
pub record Sizes : Type 0 where
  pub nets : ℕ
  pub points : ℕ

abbrev pub no_sizes : Sizes
no_sizes = record { nets = 0; points = 0 }

-- the row of each refusal of the code
abbrev pub read_refusal_row : ReadRefusal → Verdict
read_refusal_row (reading.Routes why) = refusal_row why
read_refusal_row reading.Short = refused 21 0 0

abbrev pub handed_read : Result code.Sizes ReadRefusal → Handed Sizes
handed_read = handed no_sizes (λ (s : code.Sizes). record { nets = s.nets; points = s.points }) read_refusal_row

-- a slice is too short
unfoldable pub is_short : (needed lent : Slices) → Bool
is_short needed lent =
    (ltb (length lent.nets) (length needed.nets) || ltb (length lent.counts) (length needed.counts))
    || (ltb (length lent.xs) (length needed.xs) || ltb (length lent.ys) (length needed.ys))

-- 11, then in each record 13, 23 and 22, then 21
unfoldable pub read_rows : (file : List ℕ) → (lent : Slices) → Verdict
read_rows file lent = and_then (file_rows file) (row (is_short (laid_out (routes_in file)) lent) 21 0)

unfoldable pub read_row : (file : List ℕ) → (lent : Slices) → Handed Sizes
read_row file lent =
    unless no_sizes (read_rows file lent)
    (answer (record { nets = length (numbers_of (routes_in file)); points = length (xs_of (routes_in file)) }))

-- where the rows pass the routes, and beyond them what the slices held; else all that they held
abbrev pub slices_after : (rows : Verdict) → (written before : Slices) → Slices
slices_after passes written before =
    slices (laid written.nets before.nets) (laid written.counts before.counts) (laid written.xs before.xs)
    (laid written.ys before.ys)
slices_after (refused number place second) written before = before

-- what reading hands back, and what the slices hold before and after it
pub record RoutesRead (file : List ℕ) (before : Slices) (h : Handed Sizes) (after : Slices) : Type 0 where
  pub row_is : h ≡ read_row file before
  pub after_is : after ≡ slices_after (read_rows file before) (laid_out (routes_in file)) before

-- ---- writing

-- how many records there are
pub record Records : Type 0 where
  pub records : ℕ

abbrev pub no_records : Records
no_records = record { records = 0 }

-- the row of each refusal of the code
abbrev pub write_refusal_row : WriteRefusal → Verdict
write_refusal_row (writing.Order i) = refused 22 i 0
write_refusal_row writing.Short = refused 21 0 0

abbrev pub handed_write : Result ℕ WriteRefusal → Handed Records
handed_write = handed no_records (λ (n : ℕ). record { records = n }) write_refusal_row

-- the file that is to be written
abbrev pub file_for : Slices → List ℕ
file_for s = file_of (routes_of s)

-- a slice is too short: for a count of each net, for the points counted, or for the file
unfoldable pub is_lacking : Slices → (lent : ℕ) → Bool
is_lacking s lent =
    let points = points_before s.counts (length s.nets) in
    (ltb (length s.counts) (length s.nets) || ltb lent (length (file_for s)))
    || (ltb (length s.xs) points || ltb (length s.ys) points)

-- what would be written is judged as if it were read, then 21
unfoldable pub write_rows : Slices → (lent : ℕ) → Verdict
write_rows s lent = and_then (file_rows (file_for s)) (row (is_lacking s lent) 21 0)

unfoldable pub write_row : Slices → (lent : ℕ) → Handed Records
write_row s lent = unless no_records (write_rows s lent) (answer (record { records = records (file_for s) }))

abbrev pub file_after : (rows : Verdict) → (written before : List ℕ) → List ℕ
file_after passes written before = laid written before
file_after (refused number place second) written before = before

-- what writing hands back, and what the lent slice holds before and after it
pub record RoutesWritten (s : Slices) (before : List ℕ) (h : Handed Records) (after : List ℕ) : Type 0 where
  pub row_is : h ≡ write_row s (length before)
  pub after_is : after ≡ file_after (write_rows s (length before)) (file_for s) before
