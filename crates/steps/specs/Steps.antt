-- What the steps of a job's check say to each other. No public contract cites it, so nobody need believe this.
use Rattle.std.specs.Prelude.{ℕ, ◌+◌, not, ◌&&◌, leb, ltb, eqb, Result}
use Rattle.board.specs.Handed.{row, and_then, Handed, answer, unless, handed, side_fits}
use Rattle.refusals.specs.declared.JobRefusal.{JobRefusal}
use Rattle.refusals.specs.Refusals.{refusal_row}
use Rattle.steps.specs.declared.Progress.{Progress}

-- a step hands back a refusal, or what was read up to there
abbrev pub nothing : Progress
nothing = record { width = 0; height = 0; last = 0; nets = 0 }

abbrev pub handed_step : Result Progress JobRefusal → Handed Progress
handed_step r = handed nothing (λ (p : Progress). p) refusal_row r

-- a record of each type is judged, by what was read before it and by its numbers
unfoldable pub board_step : (i w h : ℕ) → Handed Progress
board_step i w h =
    unless nothing (and_then (row (not (eqb i 0)) 12 i) (row (not (side_fits w && side_fits h)) 14 i))
    (answer (record { width = w; height = h; last = 0; nets = 0 }))

unfoldable pub keepout_step : Progress → (i left top right bottom : ℕ) → Handed Progress
keepout_step p i left top right bottom =
    unless nothing
    (and_then (row (eqb i 0) 12 i)
    (and_then (row (ltb 0 p.nets) 18 i)
    (row (not ((ltb left right && ltb top bottom) && (leb right p.width && leb bottom p.height))) 15 i)))
    (answer p)

unfoldable pub net_step : Progress → (i number sx sy gx gy : ℕ) → Handed Progress
net_step p i number sx sy gx gy =
    unless nothing
    (and_then (row (eqb i 0) 12 i)
    (and_then (row (leb number p.last) 17 i)
    (row (not ((leb sx p.width && leb sy p.height) && (leb gx p.width && leb gy p.height))) 16 i)))
    (answer (record { width = p.width; height = p.height; last = number; nets = p.nets + 1 }))
