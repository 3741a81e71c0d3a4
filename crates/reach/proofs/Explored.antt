-- The reachable vertices have a number, and so have the near pairs of them: a search over marks alone, with no goal, counts them.
-- Assumes nothing.
use mathlib.Core.Path.{◌≡◌, refl}
use mathlib.Core.Logic.{◌⊎◌, inl, inr}
use mathlib.Core.Bool.{Bool, true, false, ◌&&◌, cond}
use mathlib.Core.List.{List}
use Prim.Native.Nat.{ℕ, suc, ◌+◌, ◌<◌}
use native.Mathlib.Omega.{arith}
use lib.Dec.{ltb, eqb}
use lib.ListN.{set, length-set, replicate, length-replicate, get_or-replicate}
use borrow.Author.Tests.{ltb-true, ltb-false, eqb-true, eqb-false}
use Rattle.laws.specs.Below.{first_where}
use Rattle.laws.proofs.Below.{first_passes, first_before}
use Rattle.laws.proofs.Tests.{bool_cases, and_left, and_right, and_both}
use Rattle.reach.specs.Number.{pairs, Number, Number²}
use Rattle.reach.specs.Reach.{Reach, move, NearPair, Ground}
use Rattle.reach.specs.Turns.{at, Choice, nothing, arrived, vertex, Mode, Result, turns}
use Rattle.reach.proofs.Marks.{taking, one_entry}
use Rattle.reach.proofs.Turns.{Disciplined, Stopped, started_stopped, none_expansions}

-- the first open vertex
is_open : List ℕ → ℕ → Bool
is_open m v = eqb (at m v) 1

first_open : List ℕ → ℕ → Choice
first_open m n = let r = first_where n (is_open m) in elim (ltb r n) [ true ↦ vertex r | false ↦ nothing ]

-- marks and expansions alone
record Trip : Type 0 where
  mark : List ℕ
  expansions : ℕ

explorer : ℕ → (ℕ → ℕ → Bool) → Mode Trip
explorer n near = record {
  mark = λ s. s.mark;
  expansions = λ s. s.expansions;
  pick = λ s. first_open s.mark n;
  stop = λ s. s;
  take = λ u s. record { mark = taking near n u s.mark; expansions = s.expansions + 1 };
}

-- it is open, and there is none only if nothing is open
record First (m : List ℕ) (n : ℕ) (c : Choice) : Type 0 where
  none : c ≡ nothing → (v : ℕ) → v < n → at m v ≡ 1 → ⊥
  never : c ≡ arrived → ⊥
  some : (u : ℕ) → c ≡ vertex u → (u < n) × (at m u ≡ 1)

first_open_lem : (m : List ℕ) (n : ℕ) → First m n (first_open m n)
unfolding first_open is_open
first_open_lem m n = go (ltb (first_where n (is_open m)) n) refl
  where
    r : ℕ
    r = first_where n (is_open m)

    go : (x : Bool) → ltb r n ≡ x → First m n (elim x [ true ↦ vertex r | false ↦ nothing ])
    go true e = record {
      none = λ f v l. let z : ◌≡◌ {A = ℕ} 0 1 = cc in absurd (omega arith);
      never = λ f. let z : ◌≡◌ {A = ℕ} 0 1 = cc in omega arith;
      some = λ u f.
          let z : r ≡ u = cc in
          let l = ltb-true r n e in
          (omega arith, rw (← z) (eqb-true (at m r) 1 (first_passes (is_open m) n l)));
    }
    go false e = record {
      none = λ f v l o. eqb-false (at m v) 1 (first_before (is_open m) n v (omega (arith, ltb-false r n e))) o;
      never = λ f. let z : ◌≡◌ {A = ℕ} 0 1 = cc in omega arith;
      some = λ u f. let z : ◌≡◌ {A = ℕ} 0 1 = cc in absurd (omega arith);
    }

explorer_disciplined : (n : ℕ) (near : ℕ → ℕ → Bool) → Disciplined (explorer n near) n near n
unfolding explorer
explorer_disciplined n near = record {
  pick_nothing = λ s e. (first_open_lem s.mark n).none e;
  pick_arrived = λ s e. absurd ((first_open_lem s.mark n).never e);
  pick_vertex = λ u s e. let q = (first_open_lem s.mark n).some u e in (q.0, q.1, omega arith);
  take_mark = λ u s room l M. refl;
  take_expansions = λ u s. refl;
  stop_mark = λ s. refl;
  stop_expansions = λ s. refl;
}

module _ {n : ℕ} {near : ℕ → ℕ → Bool} {start : ℕ} (F : Ground n near start) where
  begun : List ℕ
  begun = set (replicate n 0) start 1

  begun_at : (v : ℕ) → v < n → at begun v ≡ cond (eqb v start) 1 0
  unfolding begun
  begun_at = one_entry (replicate n 0) n start 1 (rw length-replicate F.start_on) (λ v l. get_or-replicate n v 0 0 l)

  explored : Result Trip
  explored = turns (explorer n near) (suc n) (record { mark = begun; expansions = 0 })

  explored_stopped : Stopped (explorer n near) n near start n explored
  unfolding explorer explored begun
  explored_stopped =
      started_stopped F (explorer_disciplined n near)
      (record { room = simp (length-set, length-replicate) (omega arith); alone = begun_at; fresh = refl })

  pub some_number : (k : ℕ) × Number n (Reach near start) k
  some_number = (_, none_expansions F explored_stopped (go (bool_cases explored.found)))
    where
      go : (explored.found ≡ true) ⊎ (explored.found ≡ false) → explored.found ≡ false
      go (inl e) = absurd (omega (arith, (explored_stopped.at_goal e).0))
      go (inr e) = e

  pub some-number² : (k : ℕ) × Number² n (NearPair near start) k
  some-number² = go some_number.1
    where
      go : {k : ℕ} → Number n (Reach near start) k → (t : ℕ) × Number² n (NearPair near start) t
      go (p, d, e) = (
        pairs n (λ u v. near u v && p u),
        (
          (λ u v. near u v && p u),
          record {
            yes_has = λ u v l m h.
                let j = and_left (near u v) (p u) h in
                let r = d.yes_has u (omega arith) (and_right (near u v) (p u) h) in
                record { joined = j; one = r; other = move r j };
            has_yes = λ u v l m q. and_both q.joined (d.has_yes u (omega arith) q.one);
          },
          refl,
        ),
      )
