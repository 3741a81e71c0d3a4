-- What was sent, one line after another, is the whole output unless a line was lost. Assumes nothing.
use mathlib.Core.Path.{◌≡◌, ap, subst}
use mathlib.Core.List.{List}
use Prim.Native.Nat.{ℕ}
use Rattle.std.specs.Prelude.{Result, Ok}
use Rattle.replies.specs.declared.inner.LostAfter.{LostAfter}
use Rattle.replies.specs.Output.{lines_up_to, output}
use Rattle.replies.specs.Inner.{AllSent}

pub output_sent : {job : List ℕ} {r : Result ℕ LostAfter} {lines : ℕ} → AllSent job r → r ≡ Ok lines → lines_up_to job lines ≡ output job
output_sent {job} a kept = ap (λ (n : ℕ). lines_up_to job n) (subst (λ (x : Result ℕ LostAfter). AllSent job x) kept a).all
