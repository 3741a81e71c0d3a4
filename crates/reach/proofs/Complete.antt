-- Demand 3, for every mode of search: a disciplined one is complete, and with one test for each near pair its tests are counted.
-- Assumes nothing.
use mathlib.Core.Path.{◌≡◌}
use mathlib.Core.Bool.{Bool}
use Prim.Native.Nat.{ℕ, suc}
use Rattle.reach.specs.Complete.{Complete, PairsTested}
use Rattle.reach.specs.Reach.{Ground}
use Rattle.reach.specs.Turns.{done_in, Mode, turns}
use Rattle.reach.proofs.Taken.{Tested}
use Rattle.reach.proofs.Turns.{
  Disciplined,
  OneTestEach,
  Started,
  Stopped,
  sane_start,
  untested,
  started_stopped,
  turns_keep,
  keeps_tested,
  found_reach,
  reach_found,
  none_expansions,
  found_expansions,
  none_tests,
  most_tests,
}
use Rattle.reach.proofs.Explored.{some_number, some-number²}

module _ {S : Type 0} {M : Mode S} {n : ℕ} {near : ℕ → ℕ → Bool} {start goal : ℕ} (F : Ground n near start) (D : Disciplined M n near goal) {s : S}
    (B : Started M n start s) where
  stopped : Stopped M n near start goal (turns M (suc n) s)
  stopped = started_stopped F D B

  -- what is found
  pub mode_complete : Complete n near start goal (turns M (suc n) s).found (M.expansions (turns M (suc n) s).state)
  mode_complete =
      let k = some_number F in
      record {
        found_reach = found_reach F stopped;
        reach_found = reach_found F stopped;
        none_expansions = none_expansions F stopped;
        found_expansions = λ f. (k.0, k.1, found_expansions F stopped f k.1);
      }

  module _ {tests : S → ℕ} (T : OneTestEach M tests n near) (none : tests s ≡ 0) where
    counted : Tested n near (done_in (M.mark (turns M (suc n) s).state)) (tests (turns M (suc n) s).state)
    counted = turns_keep F D (keeps_tested F D T) (suc n) s (sane_start B F) (rw none (untested B F))

    -- what is tested
    pub mode_tested : PairsTested n near start (turns M (suc n) s).found (tests (turns M (suc n) s).state)
    mode_tested =
        let k = some-number² F in
        record { none_tests = none_tests F stopped counted; found_tests = λ f. (k.0, k.1, most_tests F stopped counted k.1) }
