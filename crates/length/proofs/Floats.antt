-- Whole numbers as f64, and one rounded division of two of them. Assumes nothing.
use Rattle.std.proofs.Common.{◌≡◌, ℕ, zero, suc, ◌*◌, ◌^◌, ◌<◌, ◌≤◌, Bool, true, false, T, pos, sym, refl, ap, ◌∙◌, true≢false, lt_of_lt_of_le, zero-lt-suc, mul_assoc, mul_comm, mul-lt-mul_of_pos_right, mul-pos, zero-mul, mul-one, mul_left_comm, arith, lit<, lit≤, le→leb, pow_pos}
use lib.Dec.{eqb-suc-zero}
use lib.Ieee.{Float, nan, inf, fin, binary64, up, down, round, div, of_int, unlike, in_float}
use lib.Ieee.Fits.{up_pos, down_pos}
use lib.Ieee.Exact.{HasValue, round_exact}
use lib.Ieee.Scale.{round_same}
use Rattle.length.specs.Units.{units_per_cell}
use Rattle.length.specs.Floats.{in_cells}

-- ---- a whole number below 2^53 is a value of the format

pub in_float_lem : (n : ℕ) → n ≤ 2 ^ 53 → T (in_float binary64 (pos n))
unfolding in_float
in_float_lem n h = le→leb n (2 ^ 53) h

whole : (s : Bool) (n : ℕ) → n < 2 ^ 53 → HasValue (round binary64 s n 1) s n 1
whole s n h =
    round_exact binary64 s n 1 n 1074 (lit< tt) h (lt_of_lt_of_le (mul-lt-mul_of_pos_right h (pow_pos 1074)) (lit≤ tt)) (sym (mul-one (n * 2 ^ 1074)))

-- ---- the machine's division of two whole numbers is one rounding of their quotient

cross : (M N a b E D : ℕ) → M * 1 ≡ a * E → N * 1 ≡ b * D → M * D * b ≡ a * (N * E)
cross M N a b E D p q =
    let x : M ≡ a * E = sym (mul-one M) ∙ p in
    let y : N ≡ b * D = sym (mul-one N) ∙ q in
    rw (x, y) (simp (mul_assoc, mul_comm, mul_left_comm))

unlike_false : (t : Bool) → unlike t false ≡ t
unlike_false true = refl
unlike_false false = refl

no_zero : (b : ℕ) → 0 < b → b ≡ 0 → ⊥
no_zero b h e = omega arith

div_values : (x y : Float) (s : Bool) (a b : ℕ) → 0 < b → HasValue x s a 1 → HasValue y false b 1 → div binary64 x y ≡ round binary64 s a b
unfolding div
div_values nan y s a b B p q = absurd p
div_values (inf t) y s a b B p q = absurd p
div_values (fin t m e) nan s a b B p q = absurd q
div_values (fin t m e) (inf r) s a b B p q = absurd q
div_values (fin t m e) (fin true n d) s a b B p q = absurd (true≢false q.0)
div_values (fin t m e) (fin false zero d) s a b B p q =
    absurd (no_zero (b * down d) (mul-pos B (down_pos d)) (sym q.1 ∙ ap (λ (z : ℕ). z * 1) (zero-mul (up d))))
div_values (fin t m e) (fin false (suc n) d) s a b B p q =
    rw (eqb-suc-zero n, unlike_false t, p.0)
    (round_same binary64 s (m * up e * down d) (suc n * up d * down e) a b (mul-pos (mul-pos (zero-lt-suc n) (up_pos d)) (down_pos e)) B
    (cross (m * up e) (suc n * up d) a b (down e) (down d) p.1 q.1))

pub divided : (a b : ℕ) → a < 2 ^ 53 → 0 < b → b < 2 ^ 53 → div binary64 (of_int binary64 (pos a)) (of_int binary64 (pos b)) ≡ round binary64 false a b
unfolding of_int
divided a b A B C = div_values (round binary64 false a 1) (round binary64 false b 1) false a b B (whole false a A) (whole false b C)

-- ---- a length in cells: nothing is lost in units / 2^20

pub cells_exact : (n : ℕ) → n < 2 ^ 53 → HasValue (in_cells n) false n units_per_cell
unfolding in_cells
cells_exact n h =
    rw (divided n units_per_cell h (lit< tt) (lit< tt))
    (round_exact binary64 false n units_per_cell n 1054 (lit< tt) h (lt_of_lt_of_le (mul-lt-mul_of_pos_right h (pow_pos 1054)) (lit≤ tt)) (sym (mul_assoc n (2 ^ 1054) (2 ^ 20))))
