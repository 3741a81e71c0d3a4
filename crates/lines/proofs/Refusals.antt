-- The line of a refusal: its bytes, and that it is short. Assumes nothing.
use Prim.Native.Nat.{ℕ}
use mathlib.Core.Path.{◌≡◌}
use mathlib.Core.Logic.{⊎_elim}
use mathlib.Core.Bool.{true, false}
use mathlib.Core.List.{List}
use Rattle.laws.proofs.Tests.{bool_cases}
use Rattle.lines.specs.declared.Line.TheVariants as Line-of
use Rattle.lines.specs.Lines.{has_second, refusal_line}
use Rattle.lines.specs.Answers.{bytes_of}
use Rattle.lines.specs.Inner.{refusing, Refusing}
use Rattle.lines.proofs.Longest.{Small, refused_short, refused_twice_short}

pub refusing_bytes : (number place second width : ℕ) (path : List ℕ)
    → bytes_of (refusing number place second) width path ≡ refusal_line number place second
unfolding refusal_line
refusing_bytes number place second width path =
    ⊎_elim (λ (t : has_second number ≡ true). rw t) (λ (t : has_second number ≡ false). rw t) (bool_cases (has_second number))

-- as the code makes it
module _ {number place second : ℕ} (a : Small number) (b : Small place) (c : Small second) where
  pub refusing_twice : has_second number ≡ true → Refusing number place second (Line-of.RefusedTwice number place second)
  refusing_twice e = record { line_is = rw e; short = λ side width path. refused_twice_short a b c side }

  pub refusing_once : has_second number ≡ false → Refusing number place second (Line-of.Refused number place)
  refusing_once e = record { line_is = rw e; short = λ side width path. refused_short a b side }
