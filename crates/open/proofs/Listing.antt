-- The open list of a board: it begins empty, a vertex opens, one is expanded, its first is the least, and no key is stale. Assumes nothing.
use mathlib.Core.Path.{◌≡◌, refl, sym, ap, ◌∙◌}
use mathlib.Core.Bool.{true}
use mathlib.Core.Logic.{inl, inr, ◌≢◌}
use mathlib.Core.List.{List}
use Prim.Native.Nat.{ℕ, ◌+◌, ◌*◌, ◌^◌, ◌≤◌, ◌<◌}
use native.Mathlib.Omega.{arith}
use native.Mathlib.Decide.{ℕ_discrete, dec_lt}
use lib.Dec.{eqb}
use lib.ListN.{length, set, replicate, length-set, length-replicate, get_or-replicate, get_or-eq_default}
use lib.Seq.{get_or-set_same, get_or-set_other}
use borrow.Author.Tests.{eqb-true, eq-eqb, ne_eqb}
use Rattle.board.specs.Board.{number_of}
use Rattle.board.proofs.Numbers.{number_below}
use Rattle.spans.specs.Legs.{step}
use Rattle.length.specs.Units.{units}
use Rattle.reach.specs.Turns.{at}
use Rattle.theta.specs.Order.{Rank, ranked, sooner, least}
use Rattle.theta.specs.Lent.{Better}
use Rattle.ranks.specs.Ranks.{seen, numbers}
use Rattle.tournament.specs.Contest.{no_key}
use Rattle.tournament.specs.Tournament.{Else, Opened}
use Rattle.tournament.specs.Nodes.{Entered, Renewed}
use Rattle.open.specs.Groups.{leaf_at, groups_of, nodes_of}
use Rattle.open.specs.Marked.{to_goal, board_contest, Sited, Small, Listed, Blank, Lower, Looked, Opens, Closes}
use Rattle.theta.proofs.Order.{sooner_lower, sooner_fewer}
use Rattle.tournament.proofs.Playing.{tournament_none, key_now}
use Rattle.tournament.proofs.Scanning.{root_least, root_on, root_none}
use Rattle.open.proofs.Grouping.{planted, leaves_positive, leaf_number}
use Rattle.open.proofs.Looking.{contest_shown, contest_fair, to_goal_lem}

-- ---- what a change of the entries does to the contest

-- a rank by what is known of v, h being its leg to the goal
abbrev rank_by : (h v g legs : ℕ) → Rank
rank_by h v g legs = ranked (g + h) g legs v

module _ (width height gx gy w : ℕ) (g m l : List ℕ) where
  -- w opens, or gets a better g or the same with fewer legs
  contest_opened : (own count : ℕ) → w < (width + 1) * (height + 1) → Small ((width + 1) * (height + 1)) g m l
      → (at m w ≡ 1 → Better own count (at g w) (at l w))
      → Opened (board_contest width height gx gy g m l) (board_contest width height gx gy (set g w own) (set m w 1) (set l w count)) w
      (rank_by (to_goal width gx gy w) w own count)
  contest_opened own count o S d = record {
    others = record {
      size_same = refl;
      open_same = λ v k x. ap (λ (z : ℕ). eqb z 1) (get_or-set_other m w v 1 0 x);
      rank_same = λ v k x. rw (get_or-set_other g w v own 0 x, get_or-set_other l w v count 0 x) refl;
    };
    on = o;
    opens = eq-eqb (at (set m w 1) w) 1 (get_or-set_same m w 1 0 (omega (arith, S.room_m)));
    rank_is = rw (get_or-set_same g w own 0 (omega (arith, S.room_g)), get_or-set_same l w count 0 (omega (arith, S.room_l))) refl;
    sooner_now = λ e. go (d (eqb-true (at m w) 1 e));
  }
    where
      go : Better own count (at g w) (at l w)
          → sooner (rank_by (to_goal width gx gy w) w own count) (rank_by (to_goal width gx gy w) w (at g w) (at l w)) ≡ true
      go (inl x) =
          sooner_lower (rank_by (to_goal width gx gy w) w own count) (rank_by (to_goal width gx gy w) w (at g w) (at l w)) (omega arith)
      go (inr x) =
          sooner_fewer (rank_by (to_goal width gx gy w) w own count) (rank_by (to_goal width gx gy w) w (at g w) (at l w))
          (ap (λ (z : ℕ). z + to_goal width gx gy w) x.0) x.0 x.1

  -- w is expanded
  contest_closed : Else (board_contest width height gx gy g m l) (board_contest width height gx gy g (set m w 2) l) w
  contest_closed = record {
    size_same = refl;
    open_same = λ v k x. ap (λ (z : ℕ). eqb z 1) (get_or-set_other m w v 2 0 x);
    rank_same = λ v k x. refl;
  }

small_opened : {n w : ℕ} {g m l : List ℕ} (own count : ℕ) → w < n → own < 2 ^ 63 → Small n g m l → Small n (set g w own) (set m w 1) (set l w count)
small_opened {n} {w} {g} {m} own count o b S = record {
  room_g = rw length-set S.room_g;
  room_m = rw length-set S.room_m;
  room_l = rw length-set S.room_l;
  small = λ v k e. go v k e (ℕ_discrete v w);
}
  where
    go : (v : ℕ) → v < n → at (set m w 1) v ≡ 1 → Dec (v ≡ w) → at (set g w own) v < 2 ^ 63
    go v k e (yes z) = rw (z, get_or-set_same g w own 0 (omega (arith, S.room_g))) b
    go v k e (no z) = rw (get_or-set_other g w v own 0 z) (S.small v k (sym (get_or-set_other m w v 1 0 z) ∙ e))

pub small_closed : {n w : ℕ} {g m l : List ℕ} → w < n → Small n g m l → Small n g (set m w 2) l
small_closed {n} {w} {g} {m} o S = record {
  room_g = S.room_g;
  room_m = rw length-set S.room_m;
  room_l = S.room_l;
  small = λ v k e. go v k e (ℕ_discrete v w);
}
  where
    go : (v : ℕ) → v < n → at (set m w 2) v ≡ 1 → Dec (v ≡ w) → at g v < 2 ^ 63
    go v k e (yes z) =
        let e' : at (set m w 2) w ≡ 1 = rw z at e in
        absurd (omega (arith, get_or-set_same m w 2 0 (omega (arith, S.room_m))))
    go v k e (no z) = S.small v k (sym (get_or-set_other m w v 2 0 z) ∙ e)

-- ---- the list begins

-- an entry of zeros, or beyond them
zero_at : (k i : ℕ) → at (replicate k 0) i ≡ 0
zero_at k i = go (dec_lt i k)
  where
    go : Dec (i < k) → at (replicate k 0) i ≡ 0
    go (yes l) = get_or-replicate k i 0 0 l
    go (no l) =
        let all : length {A = ℕ} (replicate k 0) ≤ i = rw length-replicate (omega arith) in
        get_or-eq_default (replicate k 0) 0 all

-- arrays as they are made
pub blank_made : {width height : ℕ} (k : ℕ) → nodes_of width height ≤ k → Blank width height (replicate k 0) (replicate k no_key)
blank_made k room = record {
  room_l = rw length-replicate room;
  room_k = rw length-replicate room;
  lead = zero_at k;
  key = λ i l. get_or-replicate k i no_key 0 (omega arith);
}

-- no vertex is open
pub listed_empty : {width height gx gy : ℕ} {g m l leads keys : List ℕ} → (width + 1) * (height + 1) ≤ length g → (width + 1) * (height + 1) ≤ length m
    → (width + 1) * (height + 1) ≤ length l → ((v : ℕ) → v < (width + 1) * (height + 1) → at m v ≡ 0) → Blank width height leads keys
    → Listed width height gx gy g m l leads keys
listed_empty {m = m} rg rm rl shut B = record {
  small = record { room_g = rg; room_m = rm; room_l = rl; small = λ v l o. absurd (omega (arith, shut v l)) };
  seated = record { on = λ i. rw (B.lead i) (omega arith) };
  played = tournament_none (λ v l. ne_eqb (at m v) 1 (λ o. omega (arith, shut v l))) B.room_l B.room_k B.key;
}

module _ {width height x y gx gy : ℕ} (D : Sited width height x y gx gy) where
  -- ---- it changes

  -- the vertex v at (x, y) opens, or gets a better g or the same with fewer legs
  pub listed_opened : {v own count f : ℕ} {g m l leads keys leads' keys' : List ℕ} → Lower width x y v own count g m l
      → Listed width height gx gy g m l leads keys → f ≡ units (step x gx) (step y gy)
      → Entered (seen g l) (numbers g l) (leaf_at width height x y) (ranked (own + f) own count v) leads keys leads' keys'
      → Opens width height gx gy v own count g m l (set g v own) (set m v 1) (set l v count) leads' keys'
  listed_opened {v} {own} {count} {f} {g} {m} {l} {leads} {keys} {leads'} {keys'} W K e E = record {
    g_is = refl;
    legs_is = refl;
    mark_is = refl;
    listed = record {
      small = small;
      seated = record { on = λ i. simp length-set (E.seated.on i) };
      played = entered.kept (groups_of width height) (board_contest width height gx gy g m l)
          (board_contest width height gx gy (set g v own) (set m v 1) (set l v count))
          (record { fair = contest_fair D K.small; shown = contest_shown width height gx gy g m l; planted = planted width height; played = K.played })
          (contest_fair D small) (rw W.is (leaf_number width height x y D.column))
          (contest_opened width height gx gy v g m l own count on K.small W.less);
    };
  }
    where
      on : v < (width + 1) * (height + 1)
      on = rw W.is (number_below width height x y D.column D.row)

      entered : Entered (seen g l) (numbers g l) (leaf_at width height x y) (ranked (own + to_goal width gx gy v) own count v) leads keys leads' keys'
      entered = rw (e ∙ sym (to_goal_lem width gx gy x y D.column), ← W.is) at E

      small : Small ((width + 1) * (height + 1)) (set g v own) (set m v 1) (set l v count)
      small = small_opened own count on W.small K.small

  -- the vertex v at (x, y) is expanded: its group is looked through, and its leaf gets the leader
  pub listed_closed : {v r k : ℕ} {g m l leads keys leads' keys' : List ℕ} → v ≡ number_of width x y → Listed width height gx gy g m l leads keys
      → Looked width height x y gx gy g (set m v 2) l r k → Renewed (seen g l) (numbers g l) (leaf_at width height x y) r k leads keys leads' keys'
      → Closes width height gx gy v g m l (set m v 2) leads' keys'
  listed_closed {v} {g = g} {m = m} {l = l} e K L R = record {
    mark_is = refl;
    listed = record {
      small = small;
      seated = R.seated;
      played = R.kept (groups_of width height) (board_contest width height gx gy g m l) (board_contest width height gx gy g (set m v 2) l) v (contest_fair D small)
          (contest_shown width height gx gy g (set m v 2) l) (planted width height) (contest_closed width height gx gy v g m l) on
          (rw e (leaf_number width height x y D.column)) K.played L.leads;
    };
  }
    where
      on : v < (width + 1) * (height + 1)
      on = rw e (number_below width height x y D.column D.row)

      small : Small ((width + 1) * (height + 1)) g (set m v 2) l
      small = small_closed on K.small

  -- ---- its first

  -- it is the least, and there is none exactly if its key says so
  module _ {g m l leads keys : List ℕ} (K : Listed width height gx gy g m l leads keys) where
    pub listed_least : at keys 1 ≢ no_key → at leads 1 ≡ least (board_contest width height gx gy g m l) ((width + 1) * (height + 1))
    listed_least = root_least (contest_fair D K.small) (planted width height) (leaves_positive width height) K.played

    pub listed_on : at keys 1 ≢ no_key → at leads 1 < (width + 1) * (height + 1)
    listed_on = root_on (contest_fair D K.small) (planted width height) (leaves_positive width height) K.played

    pub listed_none : at keys 1 ≡ no_key → least (board_contest width height gx gy g m l) ((width + 1) * (height + 1)) ≡ (width + 1) * (height + 1)
    listed_none = root_none (contest_fair D K.small) (planted width height) (leaves_positive width height) K.played

-- no stale key: where a node has a leader, its key is that vertex's f as it is now
pub no_stale_key : {width height gx gy : ℕ} {g m l leads keys : List ℕ} → Listed width height gx gy g m l leads keys → (i : ℕ) → 0 < i
    → i < nodes_of width height → at keys i ≢ no_key → at keys i ≡ at g (at leads i) + to_goal width gx gy (at leads i)
no_stale_key K i p l d = key_now K.played i p l d
