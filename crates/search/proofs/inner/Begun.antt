-- The search from what is asked: the open list right after its start is opened, and what the turns then find. Assumes nothing.
use mathlib.Core.Path.{◌≡◌}
use mathlib.Core.Bool.{Bool}
use mathlib.Core.List.{List}
use Prim.Native.Nat.{ℕ, suc, ◌+◌, ◌*◌}
use denote.Bor.{Bor}
use lib.ListN.{replicate}
use Rattle.board.specs.Limits.{largest_side}
use Rattle.board.specs.Board.{number}
use Rattle.board.specs.Checked.{board_of}
use Rattle.guard.specs.Guard.{Guarded}
use Rattle.table.specs.Lengths.{Known}
use Rattle.clearing.specs.Clearing.{Cleared}
use Rattle.tournament.specs.Contest.{no_key}
use Rattle.open.specs.Groups.{per_row}
use Rattle.open.specs.Marked.{Listed, Opens}
use Rattle.open.proofs.Grouping.{nodes_fit}
use Rattle.open.proofs.Listing.{blank_made}
use Rattle.legs.specs.declared.leg.Leg.{Leg}
use Rattle.reach.specs.Turns.{turns}
use Rattle.theta.specs.Search.{State, basic}
use Rattle.theta.specs.Lent.{state, Searched, Begun, Begins}
use Rattle.offers.specs.declared.request.Request.{Request}
use Rattle.offers.specs.Request.{size_of, given}
use Rattle.turns.proofs.Finding.{cleared_listed, cleared_begun, begun_begins, found_whole}
use Rattle.search.specs.Asked.{problem_of, diagonal}

module _ (asked : Leg) (copy table : Bor (List ℕ)) (G : Guarded (board_of asked.board) copy.now) (K : Known (diagonal asked) table.now) where
  -- the request that is made of it
  abbrev q : Request
  q = record {
    guarded = record { board = asked.board; copy = copy; guarded = G };
    sx = asked.ax;
    sy = asked.ay;
    gx = asked.bx;
    gy = asked.by;
    table = table;
    start = asked.ends.first;
    goal = asked.ends.second;
    known = K;
  }

  module _ {start : ℕ} (N : start ≡ number (board_of asked.board) asked.ax asked.ay) {before after : State} (C : Cleared (size_of q) start before after) where
    pub none_listed : Listed asked.board.width asked.board.height asked.bx asked.by after.g after.mark after.legs
        (replicate (2 * (largest_side + 1) * per_row largest_side) 0) (replicate (2 * (largest_side + 1) * per_row largest_side) no_key)
    none_listed =
        cleared_listed (given q) N {before = before} {after = after} C
        (blank_made (2 * (largest_side + 1) * per_row largest_side) (nodes_fit largest_side asked.board.sound.narrow asked.board.sound.low))

    module _ {g mark legs leads keys : List ℕ}
        (O : Opens asked.board.width asked.board.height asked.bx asked.by start 0 0 after.g after.mark after.legs g mark legs leads keys) where
      begun : Begun (size_of q) start before (state g after.parent mark legs 0 0)
      begun = cleared_begun (given q) N {before = before} {after = after} C O

      pub run_begins : Begins (problem_of asked) (state g after.parent mark legs 0 0)
      run_begins = begun_begins (given q) N {before = before} begun

      pub run_found : {found : Bool} {s : State}
          → turns (basic (problem_of asked)) (suc (size_of q)) (state g after.parent mark legs 0 0) ≡ record { found = found; state = s }
          → Searched (problem_of asked) before s found
      run_found w = found_whole (given q) N {before = before} begun w
