-- Rows that are copied one by one, and entries that are made bits one by one. Assumes nothing.
use Prim.Native.Nat.{ℕ, ◌+◌, ◌*◌, ◌≤◌, ◌<◌}
use mathlib.Core.Path.{◌≡◌, refl, ap, ◌∙◌}
use mathlib.Core.Logic.{◌⊎◌, inl, inr, ⊎_elim}
use mathlib.Core.Bool.{Bool, true, false}
use mathlib.Core.List.{List}
use native.Mathlib.Nat.{mul-le-mul_right}
use native.Mathlib.Omega.{arith}
use lib.Dec.{eqb}
use lib.ListN.{length, get_or, set, length-set}
use lib.Seq.{get_or-set_same, get_or-set_other}
use mir.Val.{bool_byte}
use Rattle.laws.proofs.Tests.{order}
use Rattle.laws.specs.Below.{as_number}
use Rattle.guard.specs.Guard.{place_of}
use Rattle.guard.specs.Copying.{Copied, Inside, Rows, Bits}

-- ---- row by row

pub rows_none : (cells : List ℕ) (width : ℕ) (l : List ℕ) → Rows cells width 0 l l
rows_none cells width l = record {
  long = refl;
  new = λ (x y : ℕ) (hx : x < width) (hy : y < 0). absurd (omega arith);
  kept = λ (x y : ℕ) (hx : x ≤ width + 1) (out : Inside width 0 x y → ⊥). refl;
}

module _ {cells before mid after : List ℕ} {width rows : ℕ} (r : Rows cells width rows before mid)
    (p : Copied cells (rows * width) (place_of width 1 (rows + 1)) width mid after) where
  -- a place that is for no cell of the next row lies before that row or behind it
  beside : (x y : ℕ) → x ≤ width + 1 → (Inside width (rows + 1) x y → ⊥)
      → (place_of width x y < place_of width 1 (rows + 1)) ⊎ (place_of width 1 (rows + 1) + width ≤ place_of width x y)
  beside x y hx out =
      ⊎_elim
      (λ (l : y < rows + 1). inl (omega (arith, mul-le-mul_right (width + 2) l)))
      (λ (l : rows + 1 ≤ y).
      ⊎_elim
      (λ (m : rows + 1 < y). inr (omega (arith, mul-le-mul_right (width + 2) m)))
      (λ (m : y ≤ rows + 1).
      let e : y ≡ rows + 1 = omega arith in
      ⊎_elim
      (λ (a : x < 1). inl (rw e (omega arith)))
      (λ (a : 1 ≤ x).
      ⊎_elim
      (λ (b : width < x). inr (rw e (omega arith)))
      (λ (b : x ≤ width). absurd (out (record { left = a; right = b; top = omega arith; bottom = m })))
      (order width x))
      (order x 1))
      (order (rows + 1) y))
      (order y (rows + 1))

  pub rows_more : Rows cells width (rows + 1) before after
  rows_more = record {
    long = p.long ∙ r.long;
    new = λ (x y : ℕ) (hx : x < width) (hy : y < rows + 1).
        ⊎_elim
        (λ (l : y < rows). p.kept (place_of width (x + 1) (y + 1)) (inl (omega (arith, mul-le-mul_right (width + 2) l))) ∙ r.new x y hx l)
        (λ (l : rows ≤ y).
        let e : y ≡ rows = omega arith in
        let at : place_of width (x + 1) (rows + 1) ≡ place_of width 1 (rows + 1) + x = omega arith in
        rw e (ap (λ (k : ℕ). get_or after k 0) at ∙ p.new x hx))
        (order y rows);
    kept = λ (x y : ℕ) (hx : x ≤ width + 1) (out : Inside width (rows + 1) x y → ⊥).
        p.kept (place_of width x y) (beside x y hx out)
        ∙ r.kept x y hx
        (λ (i : Inside width rows x y). out (record { left = i.left; right = i.right; top = i.top; bottom = omega arith }));
  }

-- ---- bit by bit

-- a test that was answered, as a number
byte_number : {r t : Bool} → r ≡ t → bool_byte r ≡ as_number t
byte_number {r} e = go r ∙ ap as_number e
  where
    go : (r : Bool) → bool_byte r ≡ as_number r
    go true = refl
    go false = refl

pub bits_none : (l : List ℕ) → Bits 0 l l
bits_none l = record { long = refl; told = λ (k : ℕ) (b : k < 0). absurd (omega arith); kept = λ (k : ℕ) (b : 0 ≤ k). refl }

module _ {n : ℕ} {before after : List ℕ} (p : Bits n before after) where
  -- whether the next entry is 1
  bit : ℕ
  bit = bool_byte (eqb (get_or after n 0) 1)

  pub bits_more : n < length after → Bits (n + 1) before (set after n (bool_byte (eqb (get_or after n 0) 1)))
  unfolding bit
  bits_more u = record {
    long = length-set after n bit ∙ p.long;
    told = λ (k : ℕ) (b : k < n + 1).
        ⊎_elim
        (λ (l : k < n). get_or-set_other after n k bit 0 (λ (e : k ≡ n). omega arith) ∙ p.told k l)
        (λ (l : n ≤ k).
        let e : k ≡ n = omega arith in
        rw e (get_or-set_same after n bit 0 u ∙ byte_number (ap (λ (a : ℕ). eqb a 1) (p.kept n (omega arith)))))
        (order k n);
    kept = λ (k : ℕ) (b : n + 1 ≤ k). get_or-set_other after n k bit 0 (λ (e : k ≡ n). omega arith) ∙ p.kept k (omega arith);
  }
