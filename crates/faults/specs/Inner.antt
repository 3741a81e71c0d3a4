-- What the calls for the crates above say, and may rely on. No public contract cites it, so nobody need believe this.
use Rattle.std.specs.Prelude.{ℕ, suc, ◌≡◌, cond, List, eqb}
use Rattle.laws.specs.Below.{how_many}
use Rattle.board.specs.Handed.{passes, Handed, answer, unless}
use Rattle.records.specs.Records.{records}
use Rattle.kinds.specs.Job.{is_net, width, height}
use Rattle.steps.specs.declared.Progress.{Progress}
use Rattle.steps.specs.Steps.{nothing}
use Rattle.faults.specs.Faults.{net_before, record_rows, job_rows}

-- no row refuses the job
pub record Accepted (job : List ℕ) : Type 0 where
  pub passed : job_rows job ≡ passes

-- what the records before record i say: the sides, the last net's number, how many nets
unfoldable pub progress : List ℕ → ℕ → Progress
progress job i = record {
  width = cond (eqb i 0) 0 (width job);
  height = cond (eqb i 0) 0 (height job);
  last = net_before job i;
  nets = how_many i (is_net job);
}

-- record i is judged, and the whole job
unfoldable pub record_step : List ℕ → ℕ → Handed Progress
record_step job i = unless nothing (record_rows job i) (answer (progress job (suc i)))

unfoldable pub job_step : List ℕ → Handed Progress
job_step job = unless nothing (job_rows job) (answer (progress job (records job)))
