-- How long the lines of a route can be: on a board with sides up to some side, `longest_line` bytes suffice. Assumes nothing.
use Prim.Native.Nat.{ℕ, suc, ◌+◌, ◌*◌, ◌^◌, ◌≤◌, ◌<◌, max}
use mathlib.Core.Path.{◌≡◌, refl}
use mathlib.Core.List.{List, [], ◌∷◌}
use native.Mathlib.Nat.{mod-lt, div-lt_iff_lt-mul, max-eq_left, mul-le-mul_left}
use native.Mathlib.Omega.{arith}
use lib.ListN.{length, get_or, length-append}
use Rattle.board.specs.Board.{column_of, row_of}
use Rattle.lines.specs.Lines.{decimal, vertex_field, vertex_fields, spaced, longest_line}
use Rattle.lines.specs.Lines.{net_line, none_line, refused_line, refused_twice_line}
use Rattle.lines.proofs.Decimal.{few_digits, fewer_digits}
use Rattle.lines.proofs.Fields.{net_count, none_count, refused_count, refused_twice_count, vertex_count}

-- the bytes that a vertex takes, with the space before it, where no coordinate is above a side
abbrev vertex_bytes : ℕ → ℕ
vertex_bytes side = 2 + 2 * length (decimal side)

-- a path on a board of that width, with no side above another
pub record Within (side width : ℕ) (path : List ℕ) : Type 0 where
  pub some : 0 < width
  pub narrow : width ≤ side
  pub low : (i : ℕ) → i < length path → get_or path i 0 < (side + 1) * (width + 1)

module _ {side width : ℕ} (some : 0 < width) (narrow : width ≤ side) where
  vertex_short : (v : ℕ) → v < (side + 1) * (width + 1) → length (32 ∷ vertex_field width v) ≤ vertex_bytes side
  vertex_short v low =
      let wide : max width 1 ≡ width = max-eq_left (omega arith) in
      let x : column_of (max width 1) v < width + 1 = rw wide (mod-lt v {m = width + 1} (omega arith)) in
      let rows = div-lt_iff_lt-mul {k = width + 1} {x = v} {y = side + 1} (omega arith) in
      let y : row_of (max width 1) v < side + 1 = rw wide (rows.1 low) in
      omega (
        arith,
        vertex_count width v (record { column = refl; row = refl }),
        fewer_digits (column_of (max width 1) v) side (omega arith),
        fewer_digits (row_of (max width 1) v) side (omega arith),
      )

  path_short : (path : List ℕ) → ((i : ℕ) → i < length path → get_or path i 0 < (side + 1) * (width + 1))
      → length (spaced (vertex_fields width path)) ≤ vertex_bytes side * length path
  path_short [] low = omega arith
  path_short (v ∷ path) low =
      let here = vertex_short v (low 0 (omega arith)) in
      let rest = path_short path (λ i b. low (suc i) (omega arith)) in
      let count = length-append (32 ∷ vertex_field width v) (spaced (vertex_fields width path)) in
      omega (arith, here, rest, count)

-- the numbers of a line have 64 bits
abbrev pub Small : ℕ → Type 0
Small n = n < 2 ^ 64

module _ {number expansions tests : ℕ} (a : Small number) (c : Small expansions) (d : Small tests) where
  pub net_short : (side units width : ℕ) (path : List ℕ) → Small units → Within side width path
      → length path ≤ (side + 1) * (side + 1) → length (net_line number units expansions tests width path) ≤ longest_line side
  unfolding longest_line
  net_short side units width path b w few =
      omega (
        arith,
        net_count number units expansions tests width path,
        few_digits number a,
        few_digits units b,
        few_digits expansions c,
        few_digits tests d,
        path_short w.some w.narrow path w.low,
        mul-le-mul_left (vertex_bytes side) few,
      )

  pub none_short : (side : ℕ) → length (none_line number expansions tests) ≤ longest_line side
  unfolding longest_line
  none_short side =
      omega (arith, none_count number expansions tests, few_digits number a, few_digits expansions c, few_digits tests d)

module _ {number place : ℕ} (a : Small number) (b : Small place) where
  pub refused_short : (side : ℕ) → length (refused_line number place) ≤ longest_line side
  unfolding longest_line
  refused_short side = omega (arith, refused_count number place, few_digits number a, few_digits place b)

  pub refused_twice_short : {second : ℕ} → Small second → (side : ℕ)
      → length (refused_twice_line number place second) ≤ longest_line side
  unfolding longest_line
  refused_twice_short {second} c side =
      omega (arith, refused_twice_count number place second, few_digits number a, few_digits place b, few_digits second c)
