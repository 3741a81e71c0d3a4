-- What the check answers where a lent slice is too short. Assumes nothing.
use mathlib.Core.Path.{◌≡◌, refl}
use mathlib.Core.Bool.{false}
use Rattle.bureau.specs.Answers.{check_refusal_row, of_job}
use Rattle.lending.specs.declared.Short.{Short}
use Rattle.lending.specs.declared.Short.TheVariants as short
use Rattle.lending.specs.Short.{short_row, refusal_of}

-- its row, and that it is not the job's refusal
pub short_refused : (s : Short) → (check_refusal_row (refusal_of s) ≡ short_row s) × (of_job (refusal_of s) ≡ false)
short_refused short.Board = (refl, refl)
short_refused short.Work = (refl, refl)
short_refused short.Results = (refl, refl)
