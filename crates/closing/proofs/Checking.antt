-- The check of the layout bureau's routes, as C calls it: what is promised of it (rightness specs/Demands.antt), of the fields of C's
-- structs. Assumes nothing.
use Prim.Native.Nat.{ℕ, zero, suc, ◌<◌}
use mathlib.Core.Path.{◌≡◌, refl, ap, ◌∙◌}
use mathlib.Core.List.{List, [], ◌∷◌}
use native.Mathlib.Omega.{arith}
use lib.ListN.{length, get_or}
use Rattle.board.specs.Board.{Board, column_of, row_of}
use Rattle.board.specs.Handed.{Handed}
use Rattle.faults.specs.Inner.{Accepted}
use Rattle.bits.proofs.Entries.{entries_all}
use Rattle.corners.specs.Corners.{columns, rows}
use Rattle.tracks.specs.Tracks.{Point}
use Rattle.tracks.specs.Layout.{each, laid_out}
use Rattle.tracks.specs.Answers.{Records, RoutesWritten}
use Rattle.tracks.proofs.Laying.{each_length}
use Rattle.recording.specs.declared.Recorded.{Recorded}
use Rattle.recording.specs.Calls.{RoutesWrittenForC}
use Rattle.bureau.specs.Answers.{Nets, Slices, check_row}
use Rattle.approval.specs.declared.Approval.{Approval}
use Rattle.approval.specs.Calls.{CheckedForC}
use Rattle.rightness.specs.Own.{vertex_point, vertex_points, own_routes}
use Rattle.rightness.specs.Demands.{AcceptedExactly, NoneExactly, OwnPass}
use Rattle.rightness.proofs.Own.{points_length}
use Rattle.rightness.proofs.Promised.{accepted_exactly, none_exactly}
use Rattle.rightness.proofs.Written.{own_pass}

-- the fields of C's structs, by their names
abbrev pub check_fields : Approval → Handed Nets
check_fields r = record { number = r.number; place = r.place; second = r.second; values = record { nets = r.nets } }

abbrev pub record_fields : Recorded → Handed Records
record_fields r = record { number = r.number; place = r.place; second = r.second; values = record { records = r.records } }

module _ {job file : List ℕ} {before after : Slices} {r : Approval} (C : CheckedForC job file before r after) where
  handed : check_fields r ≡ check_row job file before
  handed = ap check_fields C.told

  -- 0 exactly if nothing is wrong
  pub c_accepted_exactly : AcceptedExactly job file before (check_fields r)
  c_accepted_exactly = accepted_exactly job file before handed

  -- "no path" is accepted exactly if none exists
  pub c_none_exactly : NoneExactly job file (check_fields r)
  c_none_exactly = none_exactly job file before handed

-- our own routes, written by C's call, pass
pub c_own_pass : {job : List ℕ} {before after : List ℕ} {w : Recorded} → Accepted job → RoutesWrittenForC (laid_out (own_routes job)) before w after
    → OwnPass job before after (record_fields w)
c_own_pass {job} {before} {after} {w} a W = own_pass a (written W)
  where
    written : RoutesWrittenForC (laid_out (own_routes job)) before w after → RoutesWritten (laid_out (own_routes job)) before (record_fields w) after
    written by = record { row_is = ap record_fields by.told; after_is = by.after_is }

-- ---- the x and y of our routes are those that C's `wexxolin_path_points` gives of a path

module _ (b : Board) (get : Point → ℕ) where
  point_at : (path : List ℕ) (k : ℕ) → k < length path → get (vertex_point b (get_or path k 0)) ≡ get_or (each get (vertex_points b path)) k 0
  unfolding vertex_points each
  point_at [] k l = absurd (omega arith)
  point_at (v ∷ path) zero l = refl
  point_at (v ∷ path) (suc k) l = point_at path k (omega arith)

  points_long : (path : List ℕ) → length (each get (vertex_points b path)) ≡ length path
  points_long path = each_length get (vertex_points b path) ∙ points_length b path

pub own_columns : (b : Board) (path : List ℕ) → columns path b.width ≡ each (λ (p : Point). p.x) (vertex_points b path)
own_columns b path =
    entries_all (λ (k : ℕ). column_of b.width (get_or path k 0)) (each (λ (p : Point). p.x) (vertex_points b path)) (length path)
    (points_long b (λ (p : Point). p.x) path) (point_at b (λ (p : Point). p.x) path)

pub own_rows : (b : Board) (path : List ℕ) → rows path b.width ≡ each (λ (p : Point). p.y) (vertex_points b path)
own_rows b path =
    entries_all (λ (k : ℕ). row_of b.width (get_or path k 0)) (each (λ (p : Point). p.y) (vertex_points b path)) (length path)
    (points_long b (λ (p : Point). p.y) path) (point_at b (λ (p : Point). p.y) path)
