-- Which numbers the rows of the check refuse with: 1 to 23 for job, file and slices, 24, then 25 to 28 for a net. Assumes nothing.
use Prim.Native.Nat.{ℕ, ◌-◌, ◌*◌, ◌%◌}
use mathlib.Core.Path.{◌≡◌, refl}
use mathlib.Core.Bool.{Bool, true, false, not, ◌||◌, cond}
use mathlib.Core.List.{List, [], ◌∷◌}
use lib.Dec.{ltb, eqb}
use lib.ListN.{length}
use Rattle.board.specs.Board.{Board, vertices}
use Rattle.board.specs.Handed.{Verdict, passes, refused, row, and_then}
use Rattle.board.proofs.Verdicts.{Within, row_within, then_within}
use Rattle.records.specs.Records.{record_bytes, records, byte, unused_row}
use Rattle.records.proofs.Stray.{unused_within}
use Rattle.records.proofs.InOrder.{order_within}
use Rattle.theta.specs.Search.{search}
use Rattle.kinds.specs.Job.{longest_job, is_unknown, used_by, Net, nets, width, height}
use Rattle.faults.specs.Faults.{is_misplaced, is_late, is_oversized, is_bad_keepout, is_unordered, is_end_off, record_rows, job_rows}
use Rattle.tracks.specs.Tracks.{Point, Route}
use Rattle.tracks.specs.Faults.{is_unknown as is_no_route, used_by as used_by_route, is_wrong, record_rows as route_rows, file_rows}
use Rattle.bureau.specs.Paths.{point_at, start_of, goal_of, is_end_wrong, off_place, leg_place, place_row, path_rows, problem_of, none_row, net_rows}
use Rattle.bureau.specs.Nets.{job_board, job_net, points_for, net_row, nets_rows}
use Rattle.bureau.specs.Answers.{Slices, work_row, room_rows, early_rows}

module _ (test : ℕ → Bool) where
  -- a row, and more rows
  with_row : (condition : Bool) (n p : ℕ) (more : Verdict) → test n ≡ true → Within test more → Within test (and_then (row condition n p) more)
  with_row condition n p more e m = then_within test (row condition n p) more (row_within test condition n p e) m

  -- ---- job, file and slices

  module _ (low : (n : ℕ) → ltb 0 n ≡ true → ltb n 24 ≡ true → test n ≡ true) where
    job_record : (job : List ℕ) (i : ℕ) → Within test (record_rows job i)
    unfolding record_rows
    job_record job i =
        with_row (is_unknown job i) 13 i _ (low 13 refl refl)
        (then_within test (unused_row job (used_by (byte job i 0)) i) _ (unused_within job (used_by (byte job i 0)) i test (low 23 refl refl))
        (with_row (is_misplaced job i) 12 i _ (low 12 refl refl)
        (with_row (is_late job i) 18 i _ (low 18 refl refl)
        (with_row (is_oversized job i) 14 i _ (low 14 refl refl)
        (with_row (is_bad_keepout job i) 15 i _ (low 15 refl refl)
        (with_row (is_unordered job i) 17 i _ (low 17 refl refl) (row_within test (is_end_off job i) 16 i (low 16 refl refl))))))))

    job_within : (job : List ℕ) → Within test (job_rows job)
    unfolding job_rows
    job_within job =
        with_row (ltb longest_job (length job)) 10 0 _ (low 10 refl refl)
        (with_row (not (eqb (length job % record_bytes) 0)) 11 0 _ (low 11 refl refl)
        (with_row (eqb (records job) 0) 12 0 _ (low 12 refl refl) (order_within (record_rows job) test (job_record job) (records job))))

    file_record : (file : List ℕ) (i : ℕ) → Within test (route_rows file i)
    unfolding route_rows
    file_record file i =
        with_row (is_no_route file i) 13 i _ (low 13 refl refl)
        (then_within test (unused_row file (used_by_route (byte file i 0)) i) _
        (unused_within file (used_by_route (byte file i 0)) i test (low 23 refl refl))
        (row_within test (is_wrong file i) 22 i (low 22 refl refl)))

    file_within : (file : List ℕ) → Within test (file_rows file)
    unfolding file_rows
    file_within file =
        with_row (not (eqb (length file % record_bytes) 0)) 11 0 _ (low 11 refl refl)
        (order_within (route_rows file) test (file_record file) (records file))

    room_within : (job : List ℕ) (lent : Slices) → Within test (room_rows job lent)
    unfolding room_rows work_row
    room_within job lent =
        let n : ℕ = vertices (job_board job) in
        let w = lent.work in
        with_row (ltb (length lent.board) (width job * height job)) 19 0 _ (low 19 refl refl)
        (with_row (ltb (length w.g) n || (ltb (length w.parents) n || (ltb (length w.marks) n || ltb (length w.legs) n))) 6 0 _ (low 6 refl refl)
        (row_within test (ltb (length lent.units) (nets job) || ltb (length lent.leg_counts) (nets job)) 21 0 (low 21 refl refl)))

    pub early_within : (job file : List ℕ) (lent : Slices) → Within test (early_rows job file lent)
    unfolding early_rows
    early_within job file lent =
        then_within test (job_rows job) _ (job_within job)
        (then_within test (file_rows file) (room_rows job lent) (file_within file) (room_within job lent))

  -- ---- a net

  place_within : (place end number net : ℕ) → test number ≡ true → Within test (place_row place end number net)
  place_within place end number net e = go (ltb place end)
    where
      go : (t : Bool) → Within test (cond t (refused number net place) passes)
      go true = e
      go false = tt

  -- a path is refused by 25, 26 or 27
  pub path_within : test 25 ≡ true → test 26 ≡ true → test 27 ≡ true → (b : Board) (net : Net) (n : ℕ) (p : ℕ → Point) → Within test (path_rows b net n p)
  unfolding path_rows
  path_within e f g b net n p =
      with_row (is_end_wrong (start_of net) (goal_of net) n p) 25 net.number _ e
      (then_within test (place_row (off_place b n p) n 26 net.number) _ (place_within (off_place b n p) n 26 net.number f)
      (place_within (leg_place b n p) (n - 1) 27 net.number g))

  -- a net by 25 to 28
  net_within : test 25 ≡ true → test 26 ≡ true → test 27 ≡ true → test 28 ≡ true → (b : Board) (net : Net) (ps : List Point) → Within test (net_rows b net ps)
  unfolding none_row
  net_within e f g h b net [] = row_within test (search (problem_of b net)).found 28 net.number h
  net_within e f g h b net (p ∷ ps) = path_within e f g b net (length (p ∷ ps)) (point_at (p ∷ ps))

  pub nets_within : test 25 ≡ true → test 26 ≡ true → test 27 ≡ true → test 28 ≡ true → (job : List ℕ) (rs : List Route) → Within test (nets_rows job rs)
  unfolding nets_rows
  nets_within e f g h job rs =
      order_within (net_row job rs) test (λ k. net_within e f g h (job_board job) (job_net job k) (points_for rs (job_net job k).number)) (nets job)
