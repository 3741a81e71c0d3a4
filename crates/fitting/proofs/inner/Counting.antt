-- The digits that were counted make up the bytes of a line. Assumes nothing.
use Prim.Native.Nat.{ℕ, ◌+◌}
use mathlib.Core.Path.{◌≡◌}
use mathlib.Core.List.{List, ◌++◌}
use native.Mathlib.Omega.{arith}
use lib.ListN.{length, length-append}
use Rattle.lines.specs.Lines.{decimal, spaced, vertex_fields, net_line, none_line, refused_line, refused_twice_line}
use Rattle.lines.proofs.Fields.{net_count, none_count, refused_count, refused_twice_count}

-- the digits of one number, and of two
abbrev One : (n r : ℕ) → Type 0
One n r = r ≡ length (decimal n)

abbrev Both : (n m r : ℕ) → Type 0
Both n m r = r ≡ length (decimal n ++ decimal m)

pub net_counted : (number units expansions tests width : ℕ) (path : List ℕ) {r s : ℕ}
    → Both number units r → Both expansions tests s
    → 31 + (r + s) + length (spaced (vertex_fields width path)) ≡ length (net_line number units expansions tests width path)
net_counted number units expansions tests width path p q =
    omega (
      arith,
      net_count number units expansions tests width path,
      length-append (decimal number) (decimal units),
      length-append (decimal expansions) (decimal tests),
    )

pub none_counted : (number expansions tests : ℕ) {r s : ℕ} → One number r → Both expansions tests s
    → 27 + r + s ≡ length (none_line number expansions tests)
none_counted number expansions tests p q =
    omega (arith, none_count number expansions tests, length-append (decimal expansions) (decimal tests))

pub refused_counted : (number place : ℕ) {r : ℕ} → Both number place r → 13 + r ≡ length (refused_line number place)
refused_counted number place p = omega (arith, refused_count number place, length-append (decimal number) (decimal place))

pub refused_twice_counted : (number place second : ℕ) {r s : ℕ} → Both number place r → One second s
    → 14 + r + s ≡ length (refused_twice_line number place second)
refused_twice_counted number place second p q =
    omega (arith, refused_twice_count number place second, length-append (decimal number) (decimal place))
