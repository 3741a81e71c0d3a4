-- What accepted cells are known to be, what the count hands back, and what a lent slice holds after each. Assumes nothing.
use Prim.Native.Nat.{ℕ, ◌*◌, ◌≤◌, ◌<◌}
use mathlib.Core.Path.{◌≡◌, refl, sym, ap, ◌∙◌}
use mathlib.Core.Bool.{Bool, true, not, ◌&&◌}
use mathlib.Core.List.{List, ◌++◌}
use lib.Dec.{ltb, eqb}
use lib.ListN.{length, drop}
use borrow.Author.Tests.{not-false, ltb-false, lt-ltb, le-ltb}
use Rattle.board.specs.Board.{Board}
use Rattle.board.specs.Handed.{Verdict, passes, refused, row, and_then, side_fits, Handed, unless, judged}
use Rattle.board.specs.Handed.{side_row, first_bad, cell_rows, board_rows, refusal_row}
use Rattle.board.specs.declared.Refusal.{Refusal}
use Rattle.board.specs.declared.Refusal.TheVariants as board-refusal
use Rattle.board.proofs.Bytes.{bits_all}
use Rattle.board.proofs.Verdicts.{no_pass, row_passes, both_pass}
use Rattle.board.proofs.Rows.{board_sound}
use Rattle.bits.specs.Inner.{Sides, Bits}
use Rattle.packed.specs.Answers.{slice_after, Wrote}

-- ---- what accepted cells are known to be

module _ (b : Board) (e : board_rows b ≡ passes) where
  pub board_sides : Sides b.width b.height
  board_sides = let s = board_sound b e in record { wide = s.wide; narrow = s.narrow; low = s.low }

  pub board_full : length b.cells ≡ b.width * b.height
  board_full = (board_sound b e).full

  pub board_fits : (side_fits b.width && side_fits b.height) ≡ true
  unfolding board_rows
  board_fits =
      not-false _
      (row_passes (not (side_fits b.width && side_fits b.height)) 1 0
      (both_pass (side_row b.width b.height) (cell_rows b) e).0)

  pub board_bits : Bits b.cells
  unfolding board_rows
  board_bits =
      let counted : Bool = not (eqb (length b.cells) (b.width * b.height)) in
      let bad : Bool = ltb (first_bad b.cells) (length b.cells) in
      let t =
      both_pass (row counted 2 0) (row bad 3 (first_bad b.cells))
      (both_pass (side_row b.width b.height) (cell_rows b) e).1 in
      let none = ltb-false (first_bad b.cells) (length b.cells) (row_passes bad 3 (first_bad b.cells) t.1) in
      record { bit = bits_all b.cells none }

-- ---- no refusal passes, and it is handed back alike, whatever would have come after it

pub board_refuses : (why : Refusal) → refusal_row why ≡ passes → ⊥
board_refuses board-refusal.Side e = no_pass e
board_refuses board-refusal.Count e = no_pass e
board_refuses (board-refusal.Byte at) e = no_pass e
board_refuses board-refusal.First e = no_pass e
board_refuses board-refusal.Second e = no_pass e

pub refused_alike : {Values : Type 0} (none : Values) (rest : Handed Values) (v : Verdict) {w : Verdict} → (v ≡ passes → ⊥) → v ≡ w
    → judged none v ≡ unless none w rest
refused_alike none rest passes n e = absurd (n refl)
refused_alike none rest (refused number place second) n e = rw (← e)

-- ---- what a lent slice holds, by rows that come first, and a last one for a slice that is too short

module _ {first : Verdict} (written before : List ℕ) where
  -- refused by the first rows
  pub wrote_kept : (v : Verdict) → (v ≡ passes → ⊥) → (more : Verdict) → v ≡ first
      → Wrote (and_then first more) written before v before
  wrote_kept passes n more e = absurd (n refl)
  wrote_kept (refused number place second) n more e = record {
    row_is = ap (λ (v : Verdict). and_then v more) e;
    after_is = ap (λ (v : Verdict). slice_after (and_then v more) written before) e;
  }

  module _ (e : first ≡ passes) (lent needed number : ℕ) where
    abbrev rows : Verdict
    rows = and_then first (row (ltb lent needed) number 0)

    pub wrote_short : lent < needed → Wrote rows written before (refused number 0 0) before
    wrote_short l = record { row_is = rw (e, lt-ltb lent needed l); after_is = rw (e, lt-ltb lent needed l) }

    pub wrote_done : needed ≤ lent → length written ≡ needed → {after : List ℕ} → after ≡ written ++ drop needed before
        → Wrote rows written before passes after
    wrote_done l m {after} a = record { row_is = rw (e, le-ltb lent needed l); after_is = rw (e, le-ltb lent needed l, m) a }

-- a call that says it passed has written
pub wrote_all : {rows : Verdict} {written before after : List ℕ} → Wrote rows written before passes after
    → (rows ≡ passes) × (after ≡ written ++ drop (length written) before)
wrote_all {rows} {written} {before} w =
    (sym w.row_is, w.after_is ∙ ap (λ (v : Verdict). slice_after v written before) (sym w.row_is))
