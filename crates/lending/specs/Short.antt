-- Which lent slice is too short, by the lengths of all. No public contract cites it, so nobody need believe this.
use Rattle.std.specs.Prelude.{ℕ, ◌+◌, ◌*◌, ◌||◌, ltb}
use Rattle.board.specs.Handed.{Verdict, refused, row, and_then}
use Rattle.bureau.specs.declared.CheckRefusal.{CheckRefusal}
use Rattle.bureau.specs.declared.CheckRefusal.TheVariants as said
use Rattle.lending.specs.declared.Lengths.{Lengths}
use Rattle.lending.specs.declared.Short.{Short}
use Rattle.lending.specs.declared.Short.TheVariants as short

abbrev pub short_row : Short → Verdict
short_row short.Board = refused 19 0 0
short_row short.Work = refused 6 0 0
short_row short.Results = refused 21 0 0

abbrev pub refusal_of : Short → CheckRefusal
refusal_of short.Board = said.Board
refusal_of short.Work = said.Work
refusal_of short.Results = said.Results

-- 19, 6, then 21
unfoldable pub lent_rows : (width height nets : ℕ) → Lengths → Verdict
lent_rows width height nets lent =
    let vertices = (width + 1) * (height + 1) in
    and_then (row (ltb lent.board (width * height)) 19 0)
    (and_then (row (ltb lent.g vertices || (ltb lent.parents vertices || (ltb lent.marks vertices || ltb lent.legs vertices))) 6 0)
    (row (ltb lent.units nets || ltb lent.counts nets) 21 0))
