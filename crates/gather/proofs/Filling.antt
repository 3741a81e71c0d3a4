-- A slice that is filled from its end: what it held before place k, then what was put, then what it held. Assumes nothing.
use Prim.Native.Nat.{ℕ, suc, ◌+◌, ◌≤◌, ◌<◌}
use mathlib.Core.Path.{◌≡◌, sym, ap, ◌∙◌}
use mathlib.Core.List.{List, [], ◌∷◌, ◌++◌}
use native.Mathlib.Omega.{arith}
use lib.ListN.{length, get_or, set, take, drop, length-append, length-drop, take-append-drop}
use lib.Seq.{take-suc, append_snoc, set_at, get_or_at, length-take-le}

pub record Filled (before now part : List ℕ) (k full : ℕ) : Type 0 where
  pub is : now ≡ take k before ++ (part ++ drop full before)
  pub ends : k + length part ≡ full
  pub room : full ≤ length before

-- nothing yet
pub filled_none : (before : List ℕ) (full : ℕ) → full ≤ length before → Filled before before [] full full
filled_none before full l = record { is = sym (take-append-drop full before); ends = omega arith; room = l }

module _ {before now part : List ℕ} {k full : ℕ} (f : Filled before now part k full) where
  pub filled_length : length now ≡ length before
  filled_length =
      let a = length-take-le k before (omega (arith, f.ends, f.room)) in
      ap length f.is ∙ length-append (take k before) (part ++ drop full before)
      ∙ omega (arith, a, length-append part (drop full before), length-drop full before, f.ends, f.room)

-- one more before
pub filled_put : {before now part : List ℕ} {k full : ℕ} (v : ℕ) → Filled before now part (suc k) full → Filled before (set now k v) (v ∷ part) k full
filled_put {before} {now} {part} {k} {full} v f =
    let l : k < length before = omega (arith, f.ends, f.room) in
    let rest : List ℕ = part ++ drop full before in
    record {
      is =
          ap (λ (t : List ℕ). set t k v) (f.is ∙ ap (λ (t : List ℕ). t ++ rest) (take-suc before k 0 l) ∙ append_snoc (take k before) (get_or before k 0) rest)
          ∙ set_at (take k before) (get_or before k 0) rest v k (length-take-le k before (omega arith));
      ends = omega (arith, f.ends);
      room = f.room;
    }

-- the first again
module _ {before now part : List ℕ} {u k full : ℕ} (f : Filled before now (u ∷ part) k full) where
  reaches : length (take k before) ≡ k
  reaches = length-take-le k before (omega (arith, f.ends, f.room))

  pub filled_again : (v : ℕ) → Filled before (set now k v) (v ∷ part) k full
  filled_again v = record {
    is = ap (λ (t : List ℕ). set t k v) f.is ∙ set_at (take k before) u (part ++ drop full before) v k reaches;
    ends = f.ends;
    room = f.room;
  }

  pub filled_first : get_or now k 0 ≡ u
  filled_first = ap (λ (t : List ℕ). get_or t k 0) f.is ∙ get_or_at (take k before) u (part ++ drop full before) 0 k reaches
