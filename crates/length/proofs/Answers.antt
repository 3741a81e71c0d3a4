-- Every length that a call hands back is a whole number that an f64 holds. Assumes nothing.
use Rattle.std.proofs.Common.{◌≡◌, ℕ, ◌^◌, ◌<◌, false, ℤ, nat_abs, refl, lit<}
use lib.Ieee.Exact.{HasValue}
use Rattle.std.specs.Prelude.{Result, Ok, Err, IfOk, MatchResult, IsOkAnd}
use Rattle.board.specs.declared.Refusal.{Refusal}
use Rattle.board.specs.Handed.{Verdict, passes, refused, Handed, answer, unless, refusal_row, verdict}
use Rattle.board.proofs.Verdicts.{refusal_handed}
use Rattle.spans.specs.declared.Span.{Span}
use Rattle.length.specs.declared.Length.{Length}
use Rattle.spans.specs.Legs.{step, difference_rows, vertex_rows}
use Rattle.spans.proofs.Legs.{step_small, differences_small, vertices_on}
use Rattle.length.specs.Units.{units_per_cell, units}
use Rattle.length.specs.Floats.{in_cells}
use Rattle.length.specs.Answers.{Long, no_length, handed_length, length_row, length_between_row}
use Rattle.length.proofs.Units.{units_fit}
use Rattle.length.proofs.Floats.{cells_exact}

module _ {Values : Type 0} (none : Values) (rest : Handed Values) where
  -- what holds of no values, and of the rest where the rows pass, holds of the values handed back
  held : (P : Values → Type 0) (v : Verdict) → P none → (v ≡ passes → P rest.values) → P (unless none v rest).values
  held P passes p f = f refl
  held P (refused number place second) p f = p

pub length_exact : (dx dy : ℤ) → (length_row dx dy).values.units < 2 ^ 53
unfolding length_row
length_exact dx dy =
    held no_length _ (λ (l : Long). l.units < 2 ^ 53) (difference_rows dx dy) (lit< tt)
    (λ e. let s = differences_small dx dy e in units_fit (nat_abs dx) (nat_abs dy) s.0 s.1)

pub length_between_exact : (ax ay bx by : ℕ) → (length_between_row ax ay bx by).values.units < 2 ^ 53
unfolding length_between_row
length_between_exact ax ay bx by =
    held no_length _ (λ (l : Long). l.units < 2 ^ 53) (vertex_rows ax ay bx by) (lit< tt)
    (λ e.
    let (a, b) = vertices_on ax ay bx by e in
    units_fit (nat_abs (step ax bx)) (nat_abs (step ay by)) (step_small a.x_on b.x_on) (step_small a.y_on b.y_on))

-- so its cells lose nothing: they are its units / 2^20
pub length_cells : (dx dy : ℤ) → HasValue (in_cells (length_row dx dy).values.units) false (length_row dx dy).values.units units_per_cell
length_cells dx dy = cells_exact (length_row dx dy).values.units (length_exact dx dy)

pub length_between_cells : (ax ay bx by : ℕ)
    → HasValue (in_cells (length_between_row ax ay bx by).values.units) false (length_between_row ax ay bx by).values.units units_per_cell
length_between_cells ax ay bx by = cells_exact (length_between_row ax ay bx by).values.units (length_between_exact ax ay bx by)

-- ---- the length of a span that passed, or its refusal, is the row's answer

pub measured : (dx dy : ℤ) (v : Verdict) (span : Result Span Refusal) (length : Result Length Refusal) → verdict refusal_row span ≡ v
    → IfOk span (λ s. (s.dx ≡ dx) × (s.dy ≡ dy)) → MatchResult span (λ s. IsOkAnd length (λ l. l.units ≡ units s.dx s.dy)) (λ why. length ≡ Err why)
    → handed_length length ≡ unless no_length v (answer (record { units = units dx dy }))
measured dx dy v (Ok s) (Ok l) e (f, g) h = rw (← e, h, f, g)
measured dx dy v (Ok s) (Err why) e f h = absurd h
measured dx dy v (Err why) length e f h = rw h (refusal_handed no_length why (answer (record { units = units dx dy })) e)
