-- What the functions of the route program say to each other. The output is said by Output alone.
use Rattle.std.specs.Prelude.{ℕ, ◌+◌, ◌*◌, ◌≤◌, ◌<◌, ◌≡◌, ◌⊎◌, List, length, take, Result, IfOk, IfErr}
use Rattle.board.specs.Handed.{Handed}
use Rattle.reach.specs.Turns.{at}
use Rattle.answer.specs.Answers.{Route}
use Rattle.lines.specs.Lines.{net_line, none_line}
use Rattle.netroute.specs.Limits.{widest}
use Rattle.replies.specs.Output.{line_count, line_at}
use Rattle.replies.specs.declared.inner.LostAfter.{LostAfter}

-- ---- a line before it is sent

-- what was handed back is a path or none, and gives line i of the job
pub record Answered (job : List ℕ) (i number w : ℕ) (h : Handed Route) (slice : List ℕ) : Type 0 where
  pub below : i < line_count job
  pub kind : (h.number ≡ 0) ⊎ (h.number ≡ 8)
  pub path_line : h.number ≡ 0
      → net_line number h.values.units h.values.expansions h.values.tests w (take h.values.vertices slice)
      ≡ line_at job i
  pub no_path_line : h.number ≡ 8 → none_line number h.values.expansions h.values.tests ≡ line_at job i
  pub some : 0 < w
  pub narrow : w ≤ widest
  pub room : h.values.vertices ≤ length slice
  pub few : h.values.vertices ≤ (widest + 1) * (widest + 1)
  pub low : h.number ≡ 0 → (k : ℕ) → k < h.values.vertices → at (take h.values.vertices slice) k < (widest + 1) * (w + 1)

-- ---- what was sent

-- all lines of the job, or not all of them if one was lost
pub record AllSent (job : List ℕ) (r : Result ℕ LostAfter) : Type 0 where
  pub all : IfOk r (λ lines. lines ≡ line_count job)
  pub not_all : IfErr r (λ why. why.lines < line_count job)
