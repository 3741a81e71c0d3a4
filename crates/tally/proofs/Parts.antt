-- The file of the first nets, and what comes behind it. Assumes nothing.
use Prim.Native.Nat.{ℕ, zero, suc, ◌+◌, ◌*◌, ◌-◌, ◌≤◌, ◌<◌}
use mathlib.Core.Path.{◌≡◌, refl, sym, ap, ◌∙◌}
use mathlib.Core.List.{List, [], ◌++◌, append_assoc, append-nil}
use native.Mathlib.Omega.{arith}
use lib.ListN.{length, get_or, length-append}
use Rattle.tracks.specs.Tracks.{net_records, file_of}
use Rattle.tracks.specs.Layout.{Slices, points_before, route_at, routes_up_to}
use Rattle.tracks.specs.Answers.{file_for}
use Rattle.tracks.specs.Inner.{records_for}
use Rattle.tracks.proofs.Laying.{file_more, points_count}
use Rattle.tracks.proofs.Judged.{Placed, net_length}

-- ---- how many records a net has

pub nonzero : (n : ℕ) → (n ≡ 0 → ⊥) → n ≡ records_for n
nonzero zero h = absurd (h refl)
nonzero (suc n) h = refl

pub records_few : (n : ℕ) → n ≤ 65536 → records_for n ≤ 65536
records_few zero l = omega arith
records_few (suc n) l = l

-- ---- net k within the file

pub record Behind (s : Slices) (k n : ℕ) : Type 0 where
  pub back : List ℕ
  pub made : file_of (routes_up_to s n) ≡ file_of (routes_up_to s k) ++ back

module _ (s : Slices) where
  -- the records of net k
  abbrev pub records_at : ℕ → List ℕ
  records_at k = net_records (route_at s k).net (route_at s k).points

  pub up_more : (k : ℕ) → file_of (routes_up_to s (suc k)) ≡ file_of (routes_up_to s k) ++ records_at k
  unfolding routes_up_to
  up_more k = file_more (route_at s k) (routes_up_to s k)

  pub behind : (d k : ℕ) → Behind s k (k + d)
  behind zero k =
      let e : k + 0 ≡ k = omega arith in
      record { back = []; made = rw e (sym (append-nil (file_of (routes_up_to s k)))) }
  behind (suc d) k =
      let b = behind d k in
      let e : k + suc d ≡ suc (k + d) = omega arith in
      record {
        back = b.back ++ records_at (k + d);
        made = rw e (up_more (k + d) ∙ ap (λ (t : List ℕ). t ++ records_at (k + d)) b.made
            ∙ append_assoc (file_of (routes_up_to s k)) b.back (records_at (k + d)));
      }

  module _ (k : ℕ) (l : k < length s.nets) where
    pub rest : Behind s (suc k) (length s.nets)
    rest = let e : suc k + (length s.nets - suc k) ≡ length s.nets = omega arith in rw e at (behind (length s.nets - suc k) (suc k))

    pub made_of : file_for s ≡ file_of (routes_up_to s k) ++ (records_at k ++ rest.back)
    made_of =
        rest.made ∙ ap (λ (t : List ℕ). t ++ rest.back) (up_more k) ∙ append_assoc (file_of (routes_up_to s k)) (records_at k) rest.back

    pub net_placed : {at : ℕ} → length (file_of (routes_up_to s k)) ≡ at * 8 → Placed (file_for s) (route_at s k).net (route_at s k).points at
    net_placed e = record { front = file_of (routes_up_to s k); back = rest.back; made = made_of; long = e }

    -- it lies within
    pub part_within : length (file_of (routes_up_to s (suc k))) ≤ length (file_for s)
    part_within = omega (arith, ap length rest.made, length-append (file_of (routes_up_to s (suc k))) rest.back)

  -- its records
  pub records_length : (k : ℕ) → length (records_at k) ≡ records_for (get_or s.counts k 0) * 8
  records_length k =
      net_length (route_at s k).net (route_at s k).points
      ∙ ap (λ (n : ℕ). records_for n * 8) (points_count s.xs s.ys (points_before s.counts k) (get_or s.counts k 0))
