use mathlib.Core.Path.{refl}
use Rattle.lines.specs.Lines.{digits_up_to, decimal, longest_line}
use Rattle.lines.proofs.longest_line.Goals as goal

pub returns : goal.returns
unfolding digits_up_to decimal longest_line
returns c = refl
