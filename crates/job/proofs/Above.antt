-- What the crates above may build on: the board that was read is sound, and no request between the ends of its nets is refused. Assumes nothing.
use mathlib.Core.Path.{◌≡◌, refl, sym, ap, ◌∙◌}
use mathlib.Core.List.{List, ◌++◌}
use Prim.Native.Nat.{ℕ, ◌*◌, ◌≤◌, ◌<◌}
use native.Mathlib.Omega.{arith}
use lib.Dec.{ltb, leb}
use lib.ListN.{length, take, drop}
use lib.Seq.{take_at, drop_at}
use borrow.Author.Tests.{ltb-false, leb-false}
use Rattle.laws.proofs.Tests.{and_both}
use Rattle.board.specs.Board.{board}
use Rattle.board.specs.Inner.{Sound}
use Rattle.board.specs.Handed.{passes, row, Handed, answer, board_rows, leg_rows}
use Rattle.board.proofs.Verdicts.{row_passes, both_pass, passes_on, row_within, then_within}
use Rattle.board.proofs.Rows.{board_sound, rows_pass, ends_pass}
use Rattle.std.specs.Prelude.{Ok}
use Rattle.job.specs.declared.Sides as given
use Rattle.kinds.specs.declared.Net as kinds-given
use Rattle.kinds.specs.Kind.{as_net}
use Rattle.kinds.specs.Job.{width, height, board_cells, Net, net_at, nets, net_record}
use Rattle.faults.specs.Faults.{job_rows}
use Rattle.job.specs.Answers.{Sides, no_sides, handed_board, board_row, board_after, BoardRead, no_net, handed_net, net_row}
use Rattle.faults.specs.Inner.{Accepted}
use Rattle.refusals.proofs.Refusing.{answered}
use Rattle.faults.proofs.Accepted.{width_fits, height_fits, start_on, goal_on}
use Rattle.painting.proofs.Grid.{cells_length, cells_bits}
use Rattle.netlist.proofs.Nets.{net_record_below, net_record_is}
use Rattle.faults.proofs.Judging.{job_numbered}

-- ---- an accepted job

module _ {job : List ℕ} (a : Accepted job) where
  board_passes : board_rows (board (board_cells job) (width job) (height job)) ≡ passes
  board_passes =
      rows_pass (board (board_cells job) (width job) (height job)) (and_both (width_fits a) (height_fits a)) (cells_length job (width job * height job))
      (omega (arith, cells_bits job))

  -- a request between the ends of one of its nets
  net_passes : (index : ℕ) → index < nets job
      → (let i : ℕ = net_record job index in leg_rows (board (board_cells job) (width job) (height job)) (net_at job i).sx (net_at job i).sy (net_at job i).gx (net_at job i).gy ≡ passes)
  net_passes index l =
      let i : ℕ = net_record job index in
      let b = net_record_below a index l in
      let n = net_record_is a index l in
      passes_on _ board_passes
      ∙ ends_pass (board (board_cells job) (width job) (height job)) (net_at job i).sx (net_at job i).sy (net_at job i).gx (net_at job i).gy (start_on a i b n) (goal_on a i b n)

-- ---- the same from what the two calls hand back

-- a board that was read: its sides, its nets, and the slice with its cells in front
pub record BoardGiven (job before : List ℕ) (w h n : ℕ) (after : List ℕ) : Type 0 where
  pub accepted : Accepted job
  pub wide : w ≡ width job
  pub high : h ≡ height job
  pub many : n ≡ nets job
  pub room : w * h ≤ length before
  pub front : take (w * h) after ≡ board_cells job
  pub beyond : drop (w * h) after ≡ drop (w * h) before

module _ {job before after : List ℕ} {s : given.Sides} (r : BoardRead job before (handed_board (Ok s)) after) where
  abbrev cells : ℕ
  cells = width job * height job

  judged : ((job_rows job ≡ passes) × (row (ltb (length before) cells) 19 0 ≡ passes))
      × (handed_board (Ok s) ≡ answer (record { width = width job; height = height job; nets = nets job }))
  unfolding board_row
  judged =
      let short = row (ltb (length before) cells) 19 0 in
      let numbered = then_within (ltb 0) (job_rows job) short (job_numbered job) (row_within (ltb 0) (ltb (length before) cells) 19 0 refl) in
      let (clean, rest) = answered no_sides _ numbered r.row_is in
      (both_pass (job_rows job) short clean, rest)

  after_is : after ≡ board_cells job ++ drop cells before
  unfolding board_after
  after_is = r.after_is ∙ rw (sym r.row_is)

  pub board_given : BoardGiven job before s.width s.height s.nets after
  board_given =
      let vs = ap (λ (x : Handed Sides). x.values) judged.1 in
      let e : s.width ≡ width job = ap (λ (v : Sides). v.width) vs in
      let f : s.height ≡ height job = ap (λ (v : Sides). v.height) vs in
      record {
        accepted = record { passed = judged.0.0 };
        wide = e;
        high = f;
        many = ap (λ (v : Sides). v.nets) vs;
        room = rw (e, f) (ltb-false (length before) cells (row_passes (ltb (length before) cells) 19 0 judged.0.1));
        front = rw (e, f, after_is) (take_at (board_cells job) (drop cells before) cells (cells_length job cells));
        beyond = rw (e, f, after_is) (drop_at (board_cells job) (drop cells before) cells (cells_length job cells));
      }

-- a net that was read
pub record NetGiven (job : List ℕ) (index : ℕ) (net : Net) : Type 0 where
  pub accepted : Accepted job
  pub below : index < nets job
  pub net_is : net ≡ net_at job (net_record job index)

module _ (job : List ℕ) (index : ℕ) {n : kinds-given.Net} (r : handed_net (Ok n) ≡ net_row job index) where
  pub net_given : NetGiven job index (as_net n)
  unfolding net_row
  net_given =
      let none = row (leb (nets job) index) 20 0 in
      let numbered = then_within (ltb 0) (job_rows job) none (job_numbered job) (row_within (ltb 0) (leb (nets job) index) 20 0 refl) in
      let (clean, rest) = answered no_net _ numbered r in
      let (passed, there) = both_pass (job_rows job) none clean in
      record {
        accepted = record { passed = passed };
        below = leb-false (nets job) index (row_passes (leb (nets job) index) 20 0 there);
        net_is = ap (λ (x : Handed Net). x.values) rest;
      }

module _ {job before after : List ℕ} {w h n : ℕ} (b : BoardGiven job before w h n after) where
  pub given_sound : Sound (board (take (w * h) after) w h)
  given_sound = rw (b.front, b.wide, b.high) (board_sound _ (board_passes b.accepted))

  -- a route request between the ends of a net that was read is not refused
  pub given_net_passes : {index : ℕ} {net : Net} → NetGiven job index net
      → leg_rows (board (take (w * h) after) w h) net.sx net.sy net.gx net.gy ≡ passes
  given_net_passes {index} g = rw (b.front, b.wide, b.high, g.net_is) (net_passes g.accepted index g.below)
