-- The search's loop on a board: what it begins with, what each turn relies on, what a turn leaves, and how it ends. Assumes nothing.
use mathlib.Core.Path.{◌≡◌, refl, sym, ap, ◌∙◌}
use mathlib.Core.Logic.{◌≢◌}
use mathlib.Core.Bool.{Bool, true, false}
use mathlib.Core.List.{List, ◌++◌}
use Prim.Native.Nat.{ℕ, suc, ◌+◌, ◌^◌, ◌≤◌, ◌<◌}
use native.Mathlib.Omega.{arith}
use lib.ListN.{length, set, replicate, drop, length-append, length-replicate, get_or-replicate, get_or-append}
use lib.Seq.{set-get_or}
use Rattle.board.specs.Limits.{most_vertices}
use Rattle.board.specs.Board.{Board, number}
use Rattle.board.proofs.Numbers.{number_below, column_number, row_number}
use Rattle.theta.specs.Order.{Contest, least}
use Rattle.tournament.specs.Contest.{no_key}
use Rattle.open.specs.Groups.{nodes_of}
use Rattle.open.specs.Marked.{to_goal, board_contest, Sited, Blank, Listed, Lower, Opens}
use Rattle.open.proofs.Listing.{listed_empty, listed_least, listed_on, listed_none, no_stale_key}
use Rattle.reach.specs.Turns.{at, vertex, Result, turns}
use Rattle.offers.specs.declared.request.Request.{Request}
use Rattle.theta.specs.Search.{State, initial, contest_of, basic, choose}
use Rattle.theta.specs.Fair.{Fair, FairLegs}
use Rattle.theta.specs.Lent.{state, counting, marked, Searched, Rounded, Begun, Begins}
use Rattle.problem.specs.Problem.{problem}
use Rattle.problem.specs.Sizes.{longest}
use Rattle.offers.specs.Request.{board_of, asked, size_of, Asked}
use Rattle.clearing.specs.Clearing.{Cleared}
use Rattle.taking.specs.Taking.{Taking}
use Rattle.taking.proofs.Taking.{sited}
use Rattle.offers.specs.Offers.{ListedFor}
use Rattle.theta.proofs.Begins.{beyond, begins_initial, begins_beyond, beyond_initial}
use Rattle.theta.proofs.Choosing.{chosen_nothing, chosen_arrived, chosen_vertex}
use Rattle.theta.proofs.Held.{Going, tests_bound, going_start, going_nothing, going_arrived, going_room}
use Rattle.theta.proofs.Rounds.{going_ready, going_round}
use Rattle.theta.proofs.Beyond.{searched}
use Rattle.problem.proofs.Sizes.{tests_fit, vertices_most}
use Rattle.problem.proofs.Fair.{board_fair, board_legs}

-- the loop is at this state of the search that gives the whole, and the open list is right: so no key is stale (`turn_no_stale_key`)
pub record Finding (b : Board) (sx sy gx gy : ℕ) (whole : Result State) (s : State) (leads keys : List ℕ) : Type 0 where
  pub going : Going (problem b sx sy gx gy) (longest b.width b.height) whole s
  pub listed : Listed b.width b.height gx gy s.g s.mark s.legs leads keys

-- no stale key: at every turn, where a node has a leader, its key is that vertex's f as it is now
pub turn_no_stale_key : {b : Board} {sx sy gx gy : ℕ} {whole : Result State} {s : State} {leads keys : List ℕ}
    → Finding b sx sy gx gy whole s leads keys → (i : ℕ) → 0 < i → i < nodes_of b.width b.height → at keys i ≢ no_key
    → at keys i ≡ at s.g (at leads i) + to_goal b.width gx gy (at leads i)
turn_no_stale_key W = no_stale_key W.listed

-- what the loop's beginning makes of the whole
abbrev pub whole_from : Request → State → Result State
whole_from q s = turns (basic (asked q)) (suc (size_of q)) s

-- zeros, and what lies beyond them
zeros_then : (n : ℕ) (l : List ℕ) (v : ℕ) → v < n → at (replicate n 0 ++ drop n l) v ≡ 0
zeros_then n l v h =
    let r : v < length {A = ℕ} (replicate n 0) = rw length-replicate h in
    get_or-append (replicate n 0) (drop n l) 0 v r ∙ get_or-replicate n v 0 0 h

zeros_room : (n : ℕ) (l : List ℕ) → n ≤ length (replicate n 0 ++ drop n l)
zeros_room n l = simp (length-append, length-replicate) (omega arith)

set_zero : (n : ℕ) (l : List ℕ) (v : ℕ) → v < n → set (replicate n 0 ++ drop n l) v 0 ≡ replicate n 0 ++ drop n l
set_zero n l v h =
    ap (λ (z : ℕ). set (replicate n 0 ++ drop n l) v z) (sym (zeros_then n l v h)) ∙ set-get_or (replicate n 0 ++ drop n l) v 0

module _ {q : Request} (A : Asked q) where
  fair : Fair (asked q)
  fair = board_fair (board_of q) q.sx q.sy q.gx q.gy A.start

  legs : FairLegs (asked q) (longest q.guarded.board.width q.guarded.board.height)
  legs = board_legs (board_of q) q.sx q.sy q.gx q.gy

  -- ---- the beginning

  module _ {start : ℕ} (at-start : start ≡ number (board_of q) q.sx q.sy) {before after : State}
      (begun : Begun (size_of q) start before after) where
    B : Begun (size_of q) (number (board_of q) q.sx q.sy) before after
    B = rw at-start at begun

    -- what lies beyond the vertices
    abbrev rest : (State → List ℕ) → List ℕ
    rest part = drop (size_of q) (part before)

    abbrev longer : State → State
    longer s = beyond s (rest (λ x. x.g)) (rest (λ x. x.parent)) (rest (λ x. x.mark)) (rest (λ x. x.legs))

    begun_state : state after.g after.parent after.mark after.legs 0 0 ≡ longer (initial (asked q))
    unfolding problem
    begun_state =
        rw (B.g_is, B.parent_is, B.mark_is, B.legs_is) (sym (beyond_initial fair (rest (λ x. x.g)) (rest (λ x. x.parent)) (rest (λ x. x.mark)) (rest (λ x. x.legs))))

    pub begun_begins : Begins (asked q) (state after.g after.parent after.mark after.legs 0 0)
    begun_begins = rw begun_state (begins_beyond fair (begins_initial fair) (rest (λ x. x.g)) (rest (λ x. x.parent)) (rest (λ x. x.mark)) (rest (λ x. x.legs)))

    -- where the loop ends, so does the search
    pub found_whole : {found : Bool} {s : State}
        → whole_from q (state after.g after.parent after.mark after.legs 0 0) ≡ record { found = found; state = s }
        → Searched (asked q) before s found
    unfolding problem
    found_whole w = searched fair before (ap (turns (basic (asked q)) (suc (size_of q))) (sym begun_state) ∙ w)

  -- the start and the goal are on the board
  pub start_sited : Sited q.guarded.board.width q.guarded.board.height q.sx q.sy q.gx q.gy
  start_sited = sited q A.start

  goal_sited : Sited q.guarded.board.width q.guarded.board.height q.gx q.gy q.gx q.gy
  goal_sited = sited q A.goal

  -- no vertex is seen: the open list is empty, and the start can be opened
  module _ {start : ℕ} (at-start : start ≡ number (board_of q) q.sx q.sy) {before after : State}
      (C : Cleared (size_of q) start before after) where
    start_on : start < size_of q
    start_on = rw at-start (number_below q.guarded.board.width q.guarded.board.height q.sx q.sy A.start.x_on A.start.y_on)

    unseen : (v : ℕ) → v < size_of q → at after.mark v ≡ 0
    unseen v l = rw C.mark_is (zeros_then (size_of q) before.mark v l)

    pub cleared_listed : {leads keys : List ℕ} → Blank q.guarded.board.width q.guarded.board.height leads keys → ListedFor q after.g after.mark after.legs leads keys
    cleared_listed B =
        listed_empty (rw C.g_is (zeros_room (size_of q) before.g)) (rw C.mark_is (zeros_room (size_of q) before.mark))
        (rw C.legs_is (zeros_room (size_of q) before.legs)) unseen B

    pub cleared_lower : Lower q.guarded.board.width q.sx q.sy start 0 0 after.g after.mark after.legs
    cleared_lower = record { is = at-start; small = omega arith; less = λ o. absurd (omega (arith, unseen start start_on)) }

    -- and then the search has begun
    pub cleared_begun : {g mark legs leads keys : List ℕ}
        → Opens q.guarded.board.width q.guarded.board.height q.gx q.gy start 0 0 after.g after.mark after.legs g mark legs leads keys
        → Begun (size_of q) start before (state g after.parent mark legs 0 0)
    cleared_begun O = record {
      g_is = O.g_is ∙ ap (λ (l : List ℕ). set l start 0) C.g_is ∙ set_zero (size_of q) before.g start start_on;
      parent_is = C.parent_is;
      mark_is = O.mark_is ∙ ap (λ (l : List ℕ). set l start 1) C.mark_is;
      legs_is = O.legs_is ∙ ap (λ (l : List ℕ). set l start 0) C.legs_is ∙ set_zero (size_of q) before.legs start start_on;
    }

  -- ---- a turn

  pub finding_start : {s : State} {leads keys : List ℕ} → Begins (asked q) s → ListedFor q s.g s.mark s.legs leads keys
      → Finding (board_of q) q.sx q.sy q.gx q.gy (whole_from q s) s leads keys
  unfolding problem
  finding_start B D = record { going = going_start fair B; listed = D }

  module _ {whole : Result State} {s : State} {leads keys : List ℕ} (W : Finding (board_of q) q.sx q.sy q.gx q.gy whole s leads keys) where
    pub finding_tests : s.tests < 2 ^ 62
    unfolding problem
    finding_tests = omega (arith, tests_bound fair W.going.kept, tests_fit q.guarded.board.width q.guarded.board.height A.sound.narrow A.sound.low)

    -- the contest of the search is the board's
    same_contest : board_contest q.guarded.board.width q.guarded.board.height q.gx q.gy s.g s.mark s.legs ≡ contest_of (asked q) s
    unfolding problem
    same_contest = rw (column_number q.guarded.board.width q.gx q.gy A.goal.x_on, row_number q.guarded.board.width q.gx q.gy A.goal.x_on) refl

    abbrev n : ℕ
    n = (asked q).size

    -- the open list has no first
    pub finding_none : at keys 1 ≡ no_key → whole ≡ record { found = false; state = s }
    unfolding problem
    finding_none z =
        let l = listed_none goal_sited W.listed z in
        going_nothing fair W.going
        (chosen_nothing (asked q) s n (sym l ∙ ap (λ (C : Contest). least C (size_of q)) same_contest) refl)

    -- or its first is v, with this f
    module _ {v f : ℕ} (first : (v ≡ at leads 1) × (f ≡ at keys 1) × (f ≢ no_key)) where
      has_key : at keys 1 ≢ no_key
      has_key z = first.2 (first.1 ∙ z)

      picked : v ≡ least (contest_of (asked q) s) n
      unfolding problem
      picked = first.0 ∙ listed_least goal_sited W.listed has_key ∙ ap (λ (C : Contest). least C (size_of q)) same_contest

      board : v ≢ n
      unfolding problem
      board z' = omega (arith, first.0, listed_on goal_sited W.listed has_key)

      pub finding_found : v ≡ number (board_of q) q.gx q.gy → whole ≡ record { found = true; state = s }
      unfolding problem
      finding_found z = going_arrived fair W.going (chosen_arrived (asked q) s v picked board z)

      -- v is taken
      module _ (other : v ≢ number (board_of q) q.gx q.gy) where
        chosen : choose (asked q) s ≡ vertex v
        unfolding problem
        chosen = chosen_vertex (asked q) s v picked board other

        -- it is one of the vertices that were not expanded, which are few
        pub finding_room : s.expansions < size_of q
        unfolding problem
        finding_room = going_room fair W.going v chosen

        pub finding_counts : s.expansions + 1 ≤ most_vertices
        finding_counts = omega (arith, finding_room, vertices_most q.guarded.board.width q.guarded.board.height A.sound.narrow A.sound.low)

        pub finding_taking : Taking q v (counting 0 s)
        unfolding problem
        finding_taking = record { ready = going_ready fair legs W.going v chosen }

        -- it has been expanded
        pub finding_next : {r : State} {leads' keys' : List ℕ} → Rounded (asked q) v (size_of q) (marked v (counting 0 s)) r
            → ListedFor q r.g r.mark r.legs leads' keys' → Finding (board_of q) q.sx q.sy q.gx q.gy whole (counting (s.expansions + 1) r) leads' keys'
        unfolding problem
        finding_next R D = record { going = going_round fair legs W.going v chosen R; listed = D }
