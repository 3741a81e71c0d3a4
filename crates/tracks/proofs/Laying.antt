-- Routes laid out in slices, and slices as routes: the one undoes the other. Assumes nothing.
use Prim.Native.Nat.{ℕ, zero, suc, ◌+◌, ◌≤◌}
use mathlib.Core.Path.{◌≡◌, refl, sym, ap, ap₂, ◌∙◌}
use mathlib.Core.List.{List, [], ◌∷◌, ◌++◌, append_assoc, append-nil}
use native.Mathlib.Omega.{arith}
use lib.ListN.{length, get_or, take, drop, length-append, length-drop}
use lib.Seq.{take_all, take-suc, take-add, get_or-drop, take_at, drop_at}
use Rattle.tracks.specs.Tracks.{Point, Route, route, net_records, file_of}
use Rattle.tracks.specs.Layout.{Slices, numbers_of, counts_of, each, all, xs_of, ys_of, laid_out, points_at}
use Rattle.tracks.specs.Layout.{points_before, route_at, routes_up_to, routes_of}

-- ---- one more route at the end

module _ (r : Route) where
  pub file_more : (rs : List Route) → file_of (rs ++ (r ∷ [])) ≡ file_of rs ++ net_records r.net r.points
  unfolding file_of
  file_more [] = append-nil (net_records r.net r.points)
  file_more (q ∷ rs) =
      ap (λ (t : List ℕ). net_records q.net q.points ++ t) (file_more rs)
      ∙ sym (append_assoc (net_records q.net q.points) (file_of rs) (net_records r.net r.points))

  numbers_more : (rs : List Route) → numbers_of (rs ++ (r ∷ [])) ≡ numbers_of rs ++ (r.net ∷ [])
  unfolding numbers_of
  numbers_more [] = refl
  numbers_more (q ∷ rs) = ap (λ (t : List ℕ). q.net ∷ t) (numbers_more rs)

  counts_more : (rs : List Route) → counts_of (rs ++ (r ∷ [])) ≡ counts_of rs ++ (length r.points ∷ [])
  unfolding counts_of
  counts_more [] = refl
  counts_more (q ∷ rs) = ap (λ (t : List ℕ). length q.points ∷ t) (counts_more rs)

module _ (get : Point → ℕ) where
  all_more : (r : Route) (rs : List Route) → all get (rs ++ (r ∷ [])) ≡ all get rs ++ each get r.points
  unfolding all
  all_more r [] = append-nil (each get r.points)
  all_more r (q ∷ rs) =
      ap (λ (t : List ℕ). each get q.points ++ t) (all_more r rs) ∙ sym (append_assoc (each get q.points) (all get rs) (each get r.points))

  each_more : (p : Point) (ps : List Point) → each get (ps ++ (p ∷ [])) ≡ each get ps ++ (get p ∷ [])
  unfolding each
  each_more p [] = refl
  each_more p (q ∷ ps) = ap (λ (t : List ℕ). get q ∷ t) (each_more p ps)

  pub each_length : (ps : List Point) → length (each get ps) ≡ length ps
  unfolding each
  each_length [] = refl
  each_length (p ∷ ps) = ap suc (each_length ps)

-- ---- slices, net by net

pub points_count : (xs ys : List ℕ) (from n : ℕ) → length (points_at xs ys from n) ≡ n
unfolding points_at
points_count xs ys from zero = refl
points_count xs ys from (suc n) = length-append (points_at xs ys from n) _ ∙ omega (arith, points_count xs ys from n)

module _ (s : Slices) where
  pub up_numbers : (k : ℕ) → k ≤ length s.nets → numbers_of (routes_up_to s k) ≡ take k s.nets
  unfolding routes_up_to numbers_of
  up_numbers zero l = refl
  up_numbers (suc k) l =
      numbers_more (route_at s k) (routes_up_to s k)
      ∙ ap (λ (t : List ℕ). t ++ (get_or s.nets k 0 ∷ [])) (up_numbers k (omega arith)) ∙ sym (take-suc s.nets k 0 (omega arith))

  pub up_counts : (k : ℕ) → k ≤ length s.counts → counts_of (routes_up_to s k) ≡ take k s.counts
  unfolding routes_up_to counts_of
  up_counts zero l = refl
  up_counts (suc k) l =
      counts_more (route_at s k) (routes_up_to s k)
      ∙ ap₂ (λ (t : List ℕ) (n : ℕ). t ++ (n ∷ [])) (up_counts k (omega arith))
      (points_count s.xs s.ys (points_before s.counts k) (get_or s.counts k 0))
      ∙ sym (take-suc s.counts k 0 (omega arith))

  -- one coordinate
  module _ (get : Point → ℕ) (l : List ℕ)
      (is : (j : ℕ) → get (record { x = get_or s.xs j 0; y = get_or s.ys j 0 }) ≡ get_or l j 0) where
    each_at : (from n : ℕ) → from + n ≤ length l → each get (points_at s.xs s.ys from n) ≡ take n (drop from l)
    unfolding points_at each
    each_at from zero m = refl
    each_at from (suc n) m =
        each_more get _ (points_at s.xs s.ys from n)
        ∙ ap₂ (λ (t : List ℕ) (v : ℕ). t ++ (v ∷ [])) (each_at from n (omega arith)) (is (from + n) ∙ sym (get_or-drop from l n 0))
        ∙ sym (take-suc (drop from l) n 0 (simp length-drop (omega arith)))

    pub up_all : (k : ℕ) → points_before s.counts k ≤ length l → all get (routes_up_to s k) ≡ take (points_before s.counts k) l
    unfolding routes_up_to all points_before
    up_all zero m = refl
    up_all (suc k) m =
        all_more get (route_at s k) (routes_up_to s k)
        ∙ ap₂ (λ (a b : List ℕ). a ++ b) (up_all k (omega arith)) (each_at (points_before s.counts k) (get_or s.counts k 0) m)
        ∙ sym (take-add (points_before s.counts k) (get_or s.counts k 0) l)

-- ---- routes that are laid out alike are the same

-- two lists that begin with parts of the same length
parts_same : (a b : List ℕ) {c d : List ℕ} → a ++ c ≡ b ++ d → length a ≡ length b → (a ≡ b) × (c ≡ d)
parts_same a b {c} {d} e n = (
  sym (take_at a c (length a) refl) ∙ ap (λ (l : List ℕ). take (length a) l) e ∙ take_at b d (length a) (sym n),
  sym (drop_at a c (length a) refl) ∙ ap (λ (l : List ℕ). drop (length a) l) e ∙ drop_at b d (length a) (sym n),
)

points_same : (ps qs : List Point) → each (λ (p : Point). p.x) ps ≡ each (λ (p : Point). p.x) qs
    → each (λ (p : Point). p.y) ps ≡ each (λ (p : Point). p.y) qs → ps ≡ qs
unfolding each
points_same [] [] e f = refl
points_same [] (q ∷ qs) e f = let z : ◌≡◌ {A = ℕ} 0 1 = cc in absurd (omega arith)
points_same (p ∷ ps) [] e f = let z : ◌≡◌ {A = ℕ} 0 1 = cc in absurd (omega arith)
points_same (p ∷ ps) (q ∷ qs) e f =
    let xs : each (λ (p : Point). p.x) ps ≡ each (λ (p : Point). p.x) qs = cc in
    let ys : each (λ (p : Point). p.y) ps ≡ each (λ (p : Point). p.y) qs = cc in
    let x : p.x ≡ q.x = cc in
    let y : p.y ≡ q.y = cc in
    ap₂ (λ (h : Point) (t : List Point). h ∷ t) (ap₂ (λ (a b : ℕ). record { x = a; y = b }) x y) (points_same ps qs xs ys)

pub routes_same : (a b : List Route) → numbers_of a ≡ numbers_of b → counts_of a ≡ counts_of b → xs_of a ≡ xs_of b → ys_of a ≡ ys_of b → a ≡ b
unfolding numbers_of counts_of all
routes_same [] [] n c x y = refl
routes_same [] (r ∷ rs) n c x y = let z : ◌≡◌ {A = ℕ} 0 1 = cc in absurd (omega arith)
routes_same (r ∷ rs) [] n c x y = let z : ◌≡◌ {A = ℕ} 0 1 = cc in absurd (omega arith)
routes_same (r ∷ rs) (q ∷ qs) n c x y =
    let net : r.net ≡ q.net = cc in
    let nets : numbers_of rs ≡ numbers_of qs = cc in
    let count : length r.points ≡ length q.points = cc in
    let counts : counts_of rs ≡ counts_of qs = cc in
    let xof : Point → ℕ = λ p. p.x in
    let yof : Point → ℕ = λ p. p.y in
    let xs = parts_same (each xof r.points) (each xof q.points) x (each_length xof r.points ∙ count ∙ sym (each_length xof q.points)) in
    let ys = parts_same (each yof r.points) (each yof q.points) y (each_length yof r.points ∙ count ∙ sym (each_length yof q.points)) in
    ap₂ (λ (h : Route) (t : List Route). h ∷ t) (ap₂ route net (points_same r.points q.points xs.0 ys.0))
    (routes_same rs qs nets counts xs.1 ys.1)

-- ---- what is laid out is those routes again

pub counts_length : (rs : List Route) → length (counts_of rs) ≡ length (numbers_of rs)
unfolding counts_of numbers_of
counts_length [] = refl
counts_length (r ∷ rs) = ap suc (counts_length rs)

pub all_length : (get get' : Point → ℕ) (rs : List Route) → length (all get rs) ≡ length (all get' rs)
unfolding all
all_length get get' [] = refl
all_length get get' (r ∷ rs) =
    length-append (each get r.points) (all get rs)
    ∙ omega (arith, each_length get r.points, each_length get' r.points, all_length get get' rs, length-append (each get' r.points) (all get' rs))

-- points before net k + 1, the first net first
before_more : (c : ℕ) (cs : List ℕ) (k : ℕ) → points_before (c ∷ cs) (suc k) ≡ c + points_before cs k
unfolding points_before
before_more c cs zero = omega arith
before_more c cs (suc k) = omega (arith, before_more c cs k)

pub points_all : (get : Point → ℕ) (rs : List Route) → points_before (counts_of rs) (length (numbers_of rs)) ≡ length (all get rs)
unfolding counts_of numbers_of all points_before
points_all get [] = refl
points_all get (r ∷ rs) =
    before_more (length r.points) (counts_of rs) (length (numbers_of rs))
    ∙ omega (arith, points_all get rs, each_length get r.points, length-append (each get r.points) (all get rs))

pub laid_again : (rs : List Route) → routes_of (laid_out rs) ≡ rs
laid_again rs =
    let n : ℕ = length (numbers_of rs) in
    let s : Slices = laid_out rs in
    let xof : Point → ℕ = λ p. p.x in
    let yof : Point → ℕ = λ p. p.y in
    let nx = points_all xof rs in
    let ny = points_all yof rs in
    routes_same (routes_up_to s n) rs
    (up_numbers s n (omega arith) ∙ take_all n (numbers_of rs) (omega arith))
    (up_counts s n (omega (arith, counts_length rs)) ∙ take_all n (counts_of rs) (omega (arith, counts_length rs)))
    (up_all s xof (xs_of rs) (λ j. refl) n (omega arith) ∙ take_all (points_before (counts_of rs) n) (xs_of rs) (omega arith))
    (up_all s yof (ys_of rs) (λ j. refl) n (omega arith) ∙ take_all (points_before (counts_of rs) n) (ys_of rs) (omega arith))
