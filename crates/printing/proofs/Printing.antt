-- The line that the code makes for a number has the bytes that the number asks for. Assumes nothing.
use Prim.Native.Nat.{ℕ}
use mathlib.Core.Path.{◌≡◌, ap, ◌∙◌}
use mathlib.Core.Logic.{⊎_elim}
use mathlib.Core.Bool.{true, false}
use mathlib.Core.List.{List}
use lib.Dec.{eqb}
use Rattle.laws.proofs.Tests.{bool_cases}
use Rattle.lines.specs.declared.Line.{Line}
use Rattle.lines.specs.Answers.{bytes_of}
use Rattle.lines.proofs.Refusals.{refusing_bytes}
use Rattle.printing.specs.Printing.{printed}
use Rattle.printing.specs.Inner.{line_for}

line_for_bytes : (net number place second units expansions tests width : ℕ) (path : List ℕ)
    → bytes_of (line_for net number place second units expansions tests) width path
    ≡ printed net number place second units expansions tests width path
unfolding printed line_for
line_for_bytes net number place second units expansions tests width path =
    ⊎_elim
    (λ (zero : eqb number 0 ≡ true). rw zero)
    (λ (other : eqb number 0 ≡ false).
    ⊎_elim
    (λ (eight : eqb number 8 ≡ true). rw (other, eight))
    (λ (none : eqb number 8 ≡ false). rw (other, none) (refusing_bytes number place second width path))
    (bool_cases (eqb number 8)))
    (bool_cases (eqb number 0))

-- of a line that is known to be that one
pub asked_bytes : (net number place second units expansions tests : ℕ) {line : Line}
    → line ≡ line_for net number place second units expansions tests → (width : ℕ) (path : List ℕ)
    → bytes_of line width path ≡ printed net number place second units expansions tests width path
asked_bytes net number place second units expansions tests e width path =
    ap (λ (x : Line). bytes_of x width path) e ∙ line_for_bytes net number place second units expansions tests width path
