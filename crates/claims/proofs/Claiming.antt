-- No path is claimed: the search decides. Assumes nothing.
use Prim.Native.Nat.{ℕ}
use mathlib.Core.Path.{◌≡◌, sym, ◌∙◌}
use mathlib.Core.Bool.{Bool, true, false}
use mathlib.Core.List.{List, []}
use Rattle.std.specs.Prelude.{Ok, Err}
use Rattle.board.specs.Board.{Board}
use Rattle.board.specs.Inner.{OnBoard}
use Rattle.theta.specs.Lent.{state, Searched}
use Rattle.problem.proofs.Theorems.{board_work}
use Rattle.kinds.specs.Job.{Net}
use Rattle.bureau.specs.declared.Fault.TheVariants as fault
use Rattle.bureau.specs.Paths.{problem_of, none_row}
use Rattle.bureau.specs.Answers.{searching, after_search}
use Rattle.bureau.specs.Inner.{NetJudged}

module _ (b : Board) (net : Net) (S : OnBoard b net.sx net.sy) {g p m l g' p' m' l' : List ℕ} {expansions tests : ℕ} {found : Bool}
    (F : Searched (problem_of b net) (state g p m l 0 0) (state g' p' m' l' expansions tests) found) where
  left_is : searching g' p' m' l' ≡ after_search (problem_of b net) (searching g p m l)
  left_is =
      let W = board_work b net.sx net.sy net.gx net.gy S in
      let g-is = F.g_is in
      let p-is = F.parent_is in
      let m-is = F.mark_is in
      let l-is = F.legs_is in
      rw (g-is, p-is, m-is, l-is, W.g_size, W.parent_size, W.mark_size, W.legs_size)

  pub none_refused : found ≡ true → NetJudged b net [] (searching g p m l) (searching g' p' m' l') (Err fault.Path)
  unfolding none_row
  none_refused e = record { row_is = rw (sym F.found_is ∙ e); work_is = left_is }

  pub none_passes : found ≡ false → NetJudged b net [] (searching g p m l) (searching g' p' m' l') (Ok tt)
  unfolding none_row
  none_passes e = record { row_is = rw (sym F.found_is ∙ e); work_is = left_is }
