-- The two loops that read the path: one counts its vertices from the end back, one writes them from the end back. Assumes nothing.
use mathlib.Core.Path.{◌≡◌, refl, sym, ap, ◌∙◌}
use mathlib.Core.Logic.{◌≢◌}
use mathlib.Core.List.{List, [], ◌∷◌, ◌++◌, append_assoc}
use Prim.Native.Nat.{ℕ, suc, ◌+◌, ◌-◌, ◌≤◌, ◌<◌}
use native.Mathlib.Omega.{arith}
use lib.ListN.{length, get_or, set, take, drop, take-append-drop}
use lib.Seq.{take-suc, drop-cons, set_at, length-take-le, drop-length}
use Rattle.reach.specs.Turns.{at}
use Rattle.theta.specs.Search.{trail}
use Rattle.theta.specs.Back.{Back, Traced}
use Rattle.theta.proofs.Trails.{trail_length, trail_first, trail_last, trail_prev, trail_at, trail_leaves, back_some, back_start}

-- k vertices of the path to v are counted, x is the next one back, and `legs` more lead to the start
pub record Reading (n start : ℕ) (parent : List ℕ) (v x k : ℕ) : Type 0 where
  pub legs : ℕ
  pub back : Back n start parent x legs
  pub sum : length (trail start parent n v) ≡ k + legs
  pub fits : k + legs ≤ n

module _ {n start : ℕ} {parent : List ℕ} {v : ℕ} (R : Traced n start parent v) where
  -- ---- counting

  pub path_length : length (trail start parent n v) ≡ suc R.legs
  path_length = trail_length R.back n (omega (arith, R.few))

  pub reading_start : Reading n start parent v v 1
  reading_start = record { legs = R.legs; back = R.back; sum = omega (arith, path_length); fits = omega (arith, R.few) }

  pub reading_next : {x k : ℕ} → x ≢ start → Reading n start parent v x k → Reading n start parent v (at parent x) (k + 1) × (x < n) × (k < n)
  reading_next d L =
      let c = back_some L.back d in (
        record { legs = c.0; back = c.2; sum = omega (arith, L.sum, c.1); fits = omega (arith, L.fits, c.1) },
        c.3,
        omega (arith, L.fits, c.1),
      )

  pub reading_end : {x k : ℕ} → x ≡ start → Reading n start parent v x k → k ≡ length (trail start parent n v)
  reading_end e L = omega (arith, L.sum, back_start L.back e)

  -- ---- the vertices at their places

  pub path_last : (k : ℕ) → k ≡ length (trail start parent n v) → v ≡ at (trail start parent n v) (k - 1)
  path_last k e =
      let z : k - 1 ≡ R.legs = omega (arith, path_length) in
      sym (rw z (trail_last R.back n (omega (arith, R.few))))

  pub path_first : at (trail start parent n v) 0 ≡ start
  path_first = trail_first R.back n (omega (arith, R.few))

  -- those after the first are on the board by themselves
  pub path_later : (i : ℕ) → 0 < i → i < length (trail start parent n v) → at (trail start parent n v) i < n
  path_later i z l =
      let q : suc (i - 1) ≡ i = omega arith in
      let away : at (trail start parent n v) i ≢ start =
      rw (← q) (trail_leaves R.back n (omega (arith, R.few)) (i - 1) (omega (arith, path_length))) in
      (back_some (trail_at R.back n (omega (arith, R.few)) i (omega (arith, path_length))) away).3

  pub path_prev : (i x : ℕ) → 0 < i → i < length (trail start parent n v) → x ≡ at (trail start parent n v) i
      → at parent x ≡ at (trail start parent n v) (i - 1)
  path_prev i x z l e =
      let q : i ≡ suc (i - 1) = omega arith in
      rw e
      (ap (λ (y : ℕ). at parent (at (trail start parent n v) y)) q
      ∙ trail_prev R.back n (omega (arith, R.few)) (i - 1) (omega (arith, path_length)))

-- ---- writing: the places from i on hold the path, those below i and beyond k hold what they held

pub write_none : (full old : List ℕ) (k : ℕ) → k ≡ length full → old ≡ take k old ++ (drop k full ++ drop k old)
write_none full old k e = rw (ap (λ (x : ℕ). drop x full) e ∙ drop-length full) (sym (take-append-drop k old))

write_suc : (full old : List ℕ) (q k x : ℕ) → q < length old → q < length full → x ≡ at full q
    → set (take (suc q) old ++ (drop (suc q) full ++ drop k old)) q x ≡ take q old ++ (drop q full ++ drop k old)
write_suc full old q k x a c e =
    let R = drop (suc q) full ++ drop k old in
    let w : take (suc q) old ++ R ≡ take q old ++ (get_or old q 0 ∷ R) = rw (take-suc old q 0 a) (append_assoc (take q old) (get_or old q 0 ∷ []) R) in
    ap (λ (l : List ℕ). set l q x) w
    ∙ set_at (take q old) (get_or old q 0) (drop (suc q) full ++ drop k old) x q (length-take-le q old (omega arith))
    ∙ rw (drop-cons full q 0 c, e) refl

pub write_more : (full old now : List ℕ) (i k x : ℕ) → 0 < i → i ≤ length old → i ≤ length full → x ≡ at full (i - 1)
    → now ≡ take i old ++ (drop i full ++ drop k old) → set now (i - 1) x ≡ take (i - 1) old ++ (drop (i - 1) full ++ drop k old)
write_more full old now i k x z a c e w =
    let q : i ≡ suc (i - 1) = omega arith in
    ap (λ (l : List ℕ). set l (i - 1) x) (w ∙ ap (λ (y : ℕ). take y old ++ (drop y full ++ drop k old)) q)
    ∙ write_suc full old (i - 1) k x (omega arith) (omega arith) e
