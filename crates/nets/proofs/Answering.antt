-- What a search hands back for a net gives the net's line of the job. Assumes nothing.
use Prim.Native.Nat.{ℕ, ◌+◌, ◌*◌, ◌<◌}
use mathlib.Core.Path.{◌≡◌, refl, ap, ◌∙◌}
use mathlib.Core.Logic.{inl, inr, ⊎_elim}
use mathlib.Core.Bool.{true, false}
use mathlib.Core.List.{List}
use native.Mathlib.Nat.{mul-le-mul_left}
use native.Mathlib.Omega.{arith}
use lib.ListN.{length, take}
use borrow.Author.Tests.{lt-leb}
use Rattle.laws.proofs.Tests.{bool_cases}
use Rattle.board.specs.Board.{Board, board, vertices}
use Rattle.board.specs.Handed.{passes, Handed, leg_rows}
use Rattle.board.proofs.Rows.{leg_sound, leg_first}
use Rattle.reach.specs.Turns.{at}
use Rattle.theta.specs.Search.{Problem, search}
use Rattle.problem.specs.Problem.{problem}
use Rattle.problem.proofs.Theorems.{board_route}
use Rattle.kinds.specs.Job.{nets, Net}
use Rattle.faults.specs.Inner.{Accepted}
use Rattle.std.specs.Prelude.{None}
use Rattle.job.specs.Answers.{handed_found, net_row}
use Rattle.job.proofs.Above.{BoardGiven, NetGiven, given_net_passes}
use Rattle.answer.specs.Answers.{Route}
use Rattle.netroute.specs.Limits.{widest}
use Rattle.netroute.specs.Inner.{path_of, Found}
use Rattle.netroute.proofs.Limits.{vertices_fit}
use Rattle.netroute.proofs.Searching.{result_found, result_none, path_few}
use Rattle.replies.specs.Output.{line_of, line_count, line_at}
use Rattle.replies.specs.Inner.{Answered}
use Rattle.nets.specs.Inner.{Opened}

-- a net with an index below their number is there
pub net_there : {job : List ℕ} {index : ℕ} → Accepted job → index < nets job → handed_found None ≡ net_row job index → ⊥
unfolding net_row
net_there {job} {index} a l e =
    let z : ◌≡◌ {A = ℕ} 20 0 = ap (λ (x : Handed Net). x.number) (rw (a.passed, lt-leb (nets job) index l) at e) in
    omega arith

-- a board that was read is the job's, and its nets can be routed on it
pub opened : {job before after : List ℕ} {w h n : ℕ} → BoardGiven job before w h n after → Opened job (take (w * h) after) w h n
opened b = record {
  accepted = b.accepted;
  cells_is = b.front;
  wide = b.wide;
  high = b.high;
  many = b.many;
  legs = λ index l. given_net_passes b (record { accepted = b.accepted; below = l; net_is = refl });
}

module _ {job cells : List ℕ} {w h n : ℕ} (O : Opened job cells w h n) {index : ℕ} {net : Net} (G : NetGiven job index net) where
  abbrev b : Board
  b = board cells w h

  abbrev p : Problem
  p = problem b net.sx net.sy net.gx net.gy

  pub net_legs_lem : leg_rows b net.sx net.sy net.gx net.gy ≡ passes
  net_legs_lem = rw G.net_is (O.legs index G.below)

  counted : index < line_count job
  counted = rw O.accepted.passed G.below

  line_is : line_of b net ≡ line_at job index
  line_is = rw (O.accepted.passed, O.cells_is, O.wide, O.high, G.net_is)

  module _ {a : Handed Route} {slice : List ℕ} (F : Found b net.sx net.sy net.gx net.gy a slice) where
    -- the path's vertices are on a board with such sides
    path_low : (search p).found ≡ true → (k : ℕ) → k < length (path_of p) → at (path_of p) k < (widest + 1) * (w + 1)
    unfolding problem
    path_low f k l =
        let s = leg_sound b net.sx net.sy net.gx net.gy net_legs_lem in
        let on = leg_first b net.sx net.sy net.gx net.gy net_legs_lem in
        let below : at (path_of p) k < vertices b = (board_route b net.sx net.sy net.gx net.gy on f).on k l in
        omega (arith, below, mul-le-mul_left {m = h + 1} {n = widest + 1} (w + 1) (omega (arith, s.low)))

    pub answered : Answered job index net.number w a slice
    unfolding line_of
    answered =
        let s = leg_sound b net.sx net.sy net.gx net.gy net_legs_lem in
        ⊎_elim
        (λ (f : (search p).found ≡ true).
        let e = F.handed ∙ result_found p f in
        let zero : a.number ≡ 0 = ap (λ (x : Handed Route). x.number) e in
        let count : a.values.vertices ≡ length (path_of p) = ap (λ (x : Handed Route). x.values.vertices) e in
        let front : take a.values.vertices slice ≡ path_of p = F.front zero in
        record {
          below = counted;
          kind = inl zero;
          path_line = λ _. rw (front, e) (rw f at line_is);
          no_path_line = λ z. absurd (omega (arith, z, zero));
          some = s.wide;
          narrow = s.narrow;
          room = F.room;
          few = omega (arith, count, path_few b _ _ _ _ net_legs_lem f, vertices_fit b s.narrow s.low);
          low = λ _ k l. rw front (path_low f k (omega (arith, count)));
        })
        (λ (f : (search p).found ≡ false).
        let e = F.handed ∙ result_none p f in
        let eight : a.number ≡ 8 = ap (λ (x : Handed Route). x.number) e in
        let none : a.values.vertices ≡ 0 = ap (λ (x : Handed Route). x.values.vertices) e in
        record {
          below = counted;
          kind = inr eight;
          path_line = λ z. absurd (omega (arith, z, eight));
          no_path_line = λ _. rw e (rw f at line_is);
          some = s.wide;
          narrow = s.narrow;
          room = F.room;
          few = omega (arith, none);
          low = λ z. absurd (omega (arith, z, eight));
        })
        (bool_cases (search p).found)

-- ---- all lines

-- the lines of an accepted job are its nets
pub nets_sent : {job cells : List ℕ} {w h n : ℕ} → Opened job cells w h n → n ≡ line_count job
nets_sent O = O.many ∙ rw O.accepted.passed
