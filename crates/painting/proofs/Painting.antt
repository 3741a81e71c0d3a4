-- Cells that get a value, row by row and keepout by keepout. Assumes nothing.
use Prim.Native.Nat.{ℕ, ◌+◌, ◌*◌, ◌≤◌, ◌<◌}
use mathlib.Core.Path.{◌≡◌, refl, sym, ◌∙◌}
use mathlib.Core.Logic.{⊎_elim}
use mathlib.Core.Bool.{Bool, true, false, ◌&&◌, ◌||◌, cond}
use mathlib.Core.List.{List}
use native.Mathlib.Nat.{mul-le-mul_right}
use native.Mathlib.Numerals.{add-one}
use native.Mathlib.Omega.{arith}
use lib.Dec.{leb, ltb}
use lib.ListN.{get_or}
use borrow.Author.Tests.{lt-ltb, le-ltb, le-leb, lt-leb}
use Rattle.laws.proofs.Tests.{order, bool_cases, and_both, and_false, or_false}
use Rattle.laws.specs.Below.{some}
use Rattle.kinds.specs.declared.Record.TheVariants.{Board, Keepout, Net}
use Rattle.kinds.specs.declared.Rectangle.{Rectangle}
use Rattle.kinds.specs.declared.Record.{Record}
use Rattle.kinds.specs.declared.RecordFault.{RecordFault}
use Rattle.std.specs.Prelude.{Some, None, Result, Ok, Err}
use Rattle.kinds.specs.Job.{is_keepout, left, top, right, bottom, inside, covers}
use Rattle.painting.specs.Cells.{Filled, Painted, keepout_in}
use Rattle.kinds.proofs.Says.{Says, keepout}

abbrev between : (a x b : ℕ) → Bool
between a x b = leb a x && ltb x b

within : (a x b : ℕ) → a ≤ x → x < b → between a x b ≡ true
within a x b l u = and_both (le-leb a x l) (lt-ltb x b u)

below : (a x b : ℕ) → x < a → between a x b ≡ false
below a x b l = rw (lt-leb a x l)

above : (a x b : ℕ) → b ≤ x → between a x b ≡ false
above a x b l = and_false (leb a x) (le-ltb x b l)

-- nothing lies between a number and itself
empty : (a x : ℕ) → between a x a ≡ false
empty a x = ⊎_elim (λ (l : x < a). below a x a l) (λ (l : a ≤ x). above a x a l) (order x a)

-- ---- a rectangle row by row

pub lines_none : (w left top right : ℕ) (l : List ℕ) → Painted w (inside left top right top) l l
lines_none w left top right l = record { long = refl; cell = λ (x y : ℕ) (b : x < w). rw (and_false (between left x right) (empty top y)) }

module _ {w left top right y : ℕ} {before mid after : List ℕ} (p : Painted w (inside left top right y) before mid)
    (f : Filled (y * w + left) (y * w + right) 1 mid after) (lr : left ≤ right) (rest : right ≤ w) (ty : top ≤ y) where
  -- cells of other rows keep what they had
  other_row : (x v : ℕ) → x < w → between (y * w + left) (v * w + x) (y * w + right) ≡ false → ltb v (y + 1) ≡ ltb v y
      → get_or after (v * w + x) 0 ≡ cond (inside left top right (y + 1) x v) 1 (get_or before (v * w + x) 0)
  other_row x v b n e = rw e (f.entry (v * w + x) ∙ rw n (p.cell x v b))

  same_row : (x : ℕ) → between (y * w + left) (y * w + x) (y * w + right) ≡ between left x right
  same_row x =
      ⊎_elim
      (λ (b : x < left). below (y * w + left) (y * w + x) (y * w + right) (omega arith) ∙ sym (below left x right b))
      (λ (b : left ≤ x).
      ⊎_elim
      (λ (u : x < right). within (y * w + left) (y * w + x) (y * w + right) (omega arith) (omega arith) ∙ sym (within left x right b u))
      (λ (u : right ≤ x). above (y * w + left) (y * w + x) (y * w + right) (omega arith) ∙ sym (above left x right u))
      (order x right))
      (order x left)

  this_row : (x : ℕ) → x < w → get_or after (y * w + x) 0 ≡ cond (inside left top right (y + 1) x y) 1 (get_or before (y * w + x) 0)
  this_row x b =
      ⊎_elim
      (λ (e : between left x right ≡ true).
      f.entry (y * w + x) ∙ rw (same_row x, e, within top y (y + 1) ty (omega arith)))
      (λ (e : between left x right ≡ false). f.entry (y * w + x) ∙ rw (same_row x, e) (rw e at (p.cell x y b)))
      (bool_cases (between left x right))

  pub lines_more : Painted w (inside left top right (y + 1)) before after
  lines_more = record {
    long = f.long ∙ p.long;
    cell = λ (x v : ℕ) (b : x < w).
        ⊎_elim
        (λ (u : v < y).
        other_row x v b (below (y * w + left) (v * w + x) (y * w + right) (omega (arith, mul-le-mul_right w u)))
        (lt-ltb v (y + 1) (omega arith) ∙ sym (lt-ltb v y u)))
        (λ (u : y ≤ v).
        ⊎_elim
        (λ (m : y < v).
        other_row x v b (above (y * w + left) (v * w + x) (y * w + right) (omega (arith, mul-le-mul_right w m)))
        (le-ltb v (y + 1) (omega arith) ∙ sym (le-ltb v y u)))
        (λ (m : v ≤ y). let e : v ≡ y = omega arith in rw e (this_row x b))
        (order y v))
        (order v y);
  }

-- ---- keepout by keepout

pub keepout_told : (said : Result Record RecordFault) {r : Rectangle} → Some r ≡ keepout_in said → said ≡ Ok (Keepout r)
keepout_told (Ok (Board w h)) e = cc
keepout_told (Ok (Keepout r)) e = cc
keepout_told (Ok (Net n)) e = cc
keepout_told (Err fault) e = cc

pub none_told : (said : Result Record RecordFault) → None ≡ keepout_in said → (r : Rectangle) → said ≡ Ok (Keepout r) → ⊥
none_told said e r f = let g = rw f at e in cc

either : (a b : Bool) (o : ℕ) → cond b 1 (cond a 1 o) ≡ cond (a || b) 1 o
either true true o = refl
either true false o = refl
either false b o = refl

module _ (job : List ℕ) (w : ℕ) where
  abbrev pub covered_by : (i x y : ℕ) → Bool
  covered_by i x y = some i (covers job x y)

  pub keepouts_none : (l : List ℕ) → Painted w (covered_by 0) l l
  unfolding some
  keepouts_none l = record { long = refl; cell = λ (x y : ℕ) (b : x < w). refl }

  pub keepouts_skip : (i : ℕ) {before after : List ℕ} → is_keepout job i ≡ false → Painted w (covered_by i) before after
      → Painted w (covered_by (i + 1)) before after
  unfolding some
  keepouts_skip i n p = record { long = p.long; cell = λ (x y : ℕ) (b : x < w). rw (add-one i, n, or_false (covered_by i x y)) (p.cell x y b) }

  pub keepouts_more : {i : ℕ} {r : Rectangle} {before mid after : List ℕ} → Says job i (Ok (Keepout r)) → Painted w (covered_by i) before mid
      → Painted w (inside r.left r.top r.right r.bottom) mid after → Painted w (covered_by (i + 1)) before after
  unfolding some
  keepouts_more {i} (keepout e t) p q = record {
    long = q.long ∙ p.long;
    cell = λ (x y : ℕ) (b : x < w).
        rw (add-one i, t)
        (q.cell x y b ∙ rw (p.cell x y b) (either (covered_by i x y) (inside (left job i) (top job i) (right job i) (bottom job i) x y) _));
  }
