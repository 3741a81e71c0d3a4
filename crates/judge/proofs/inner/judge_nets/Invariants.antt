-- `judge::inner::judge_nets` judges net after net. The loop's invariant: those before passed, and the work slices are as their searches left them.
use mathlib.Core.Path.{◌≡◌}
use Prim.Native.Nat.{◌-◌, ◌≤◌}
use lib.ListN.{length}
use Rattle.board.specs.Checked.{board_of}
use Rattle.board.specs.Handed.{passes}
use Rattle.records.specs.Records.{in_order}
use Rattle.tracks.specs.Tracks.{routes_in}
use Rattle.bureau.specs.Nets.{net_row}
use Rattle.bureau.specs.Answers.{searching, after_nets}
use Rattle.bureau.specs.Inner.{Room, OnJob}
use Rattle.judge.proofs.inner.judge_nets.Given as goal

abbrev pub invariant-loop-index : goal.invariant-loop-index
invariant-loop-index l =
    (l.index ≤ l.nets) × OnJob l.job l.file l.board.cells.now l.board.width l.board.height l.nets × Room (board_of l.board) (searching l.initial.g l.initial.parents l.initial.marks l.initial.legs)
    × (length l.g ≡ length l.initial.g) × (length l.parents ≡ length l.initial.parents) × (length l.marks ≡ length l.initial.marks) × (length l.legs ≡ length l.initial.legs)
    × (in_order l.index (net_row l.job (routes_in l.file)) ≡ passes)
    × (searching l.g l.parents l.marks l.legs ≡ after_nets l.job (routes_in l.file) l.index (searching l.initial.g l.initial.parents l.initial.marks l.initial.legs))

abbrev pub decreases-loop-index : goal.decreases-loop-index
decreases-loop-index l = l.nets - l.index
