-- What is promised of the check of the layout bureau's routes (document 02, item 4), in plain words, of what it hands back: by the
-- contract of `approve` (bureau specs/Answers.antt `Checked`) that is `check_row`, and C gets the same. The proofs: proofs/Promised.antt
-- and proofs/Written.antt.
use Rattle.std.specs.Prelude.{ℕ, ◌*◌, ◌≤◌, ◌<◌, ◌≡◌, List, [], length, take}
use Rattle.board.specs.Board.{vertices}
use Rattle.board.specs.Handed.{passes, Handed, answer}
use Rattle.records.specs.Records.{record_bytes, records}
use Rattle.kinds.specs.Job.{nets, width, height}
use Rattle.faults.specs.Faults.{job_rows}
use Rattle.tracks.specs.Tracks.{file_of, routes_in}
use Rattle.tracks.specs.Faults.{file_rows}
use Rattle.tracks.specs.Answers.{Records}
use Rattle.bureau.specs.Nets.{job_board, job_net, points_for}
use Rattle.bureau.specs.Answers.{Nets, Slices, check_row}
use Rattle.rightness.specs.Right.{HasPath, FileRight}
use Rattle.rightness.specs.Own.{own_routes}

-- each lent slice is long enough: an entry for each cell, for each vertex, for each net
pub record Roomy (job : List ℕ) (lent : Slices) : Type 0 where
  pub board : width job * height job ≤ length lent.board
  pub g : vertices (job_board job) ≤ length lent.work.g
  pub parents : vertices (job_board job) ≤ length lent.work.parents
  pub marks : vertices (job_board job) ≤ length lent.work.marks
  pub legs : vertices (job_board job) ≤ length lent.work.legs
  pub units : nets job ≤ length lent.units
  pub leg_counts : nets job ≤ length lent.leg_counts

-- nothing is wrong: no row refuses the job or the file, the slices are long enough, and the file's routes are right
pub record NothingWrong (job file : List ℕ) (lent : Slices) : Type 0 where
  pub job_passes : job_rows job ≡ passes
  pub file_passes : file_rows file ≡ passes
  pub roomy : Roomy job lent
  pub right : FileRight job (routes_in file)

-- ---- accepted exactly if every net is right

pub record AcceptedExactly (job file : List ℕ) (lent : Slices) (h : Handed Nets) : Type 0 where
  pub accepted_right : h.number ≡ 0 → NothingWrong job file lent
  pub right_accepted : NothingWrong job file lent → h ≡ answer (record { nets = nets job })

-- ---- "no path" is accepted exactly if none exists

-- the file claims no path for the net with this index
abbrev pub ClaimsNone : (job file : List ℕ) → (index : ℕ) → Type 0
ClaimsNone job file index = points_for (routes_in file) (job_net job index).number ≡ []

-- the job's net with this index has a path
abbrev pub NetHasPath : (job : List ℕ) → (index : ℕ) → Type 0
NetHasPath job index = HasPath (job_board job) (job_net job index)

-- net k is refused by 28
abbrev pub RefusedBy28 : (job : List ℕ) → (h : Handed Nets) → (k : ℕ) → Type 0
RefusedBy28 job h k = (h.number ≡ 28) × (h.place ≡ (job_net job k).number)

-- with 0 no net that claims none has a path; 28 names a net that claims none and has one; and a net that has none is never named by it
pub record NoneExactly (job file : List ℕ) (h : Handed Nets) : Type 0 where
  pub accepted : h.number ≡ 0 → (k : ℕ) → k < nets job → ClaimsNone job file k → NetHasPath job k → ⊥
  pub refused : h.number ≡ 28 → (k : ℕ) × (k < nets job) × RefusedBy28 job h k × ClaimsNone job file k × NetHasPath job k
  pub never : (k : ℕ) → k < nets job → (NetHasPath job k → ⊥) → RefusedBy28 job h k → ⊥

-- ---- our own routes pass

-- our own routes for an accepted job's nets, on its keepouts alone, go through item 1's writer: it accepts them where its slice is long
-- enough, and of the bytes that it has written the check says that all nets are right
pub record OwnPass (job : List ℕ) (before after : List ℕ) (w : Handed Records) : Type 0 where
  pub written : length (file_of (own_routes job)) ≤ length before → w ≡ answer (record { records = records (file_of (own_routes job)) })
  pub approved : w.number ≡ 0 → (lent : Slices) → Roomy job lent
      → check_row job (take (w.values.records * record_bytes) after) lent ≡ answer (record { nets = nets job })
