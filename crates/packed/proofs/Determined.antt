-- The three contracts admit one result each, and one content of the lent slice. Assumes nothing.
use Prim.Native.Nat.{ℕ}
use mathlib.Core.Path.{◌≡◌, refl, sym, ◌∙◌}
use mathlib.Core.Bool.{cond}
use mathlib.Core.List.{List}
use lib.Dec.{eqb}
use Rattle.laws.proofs.Determined.{undone}
use Rattle.board.specs.Board.{Board}
use Rattle.board.specs.Handed.{Verdict, passes, refused, Handed}
use Rattle.board.specs.declared.Refusal.TheVariants as board-refusal
use Rattle.board.proofs.Determined as board_determined
use Rattle.filling.specs.declared.PackedRefusal.{PackedRefusal}
use Rattle.filling.specs.declared.PackedRefusal.TheVariants.{Side, Length, Filling}
use Rattle.std.specs.Prelude.{Result, Ok, Err}
use Rattle.packed.specs.declared.ReadRefusal.{ReadRefusal}
use Rattle.packed.specs.declared.ReadRefusal.TheVariants as reading
use Rattle.packed.specs.declared.WriteRefusal.{WriteRefusal}
use Rattle.packed.specs.declared.WriteRefusal.TheVariants as writing
use Rattle.packed.specs.Answers.{CellsRead, said_read, PackedWritten, said_written, Count, handed_count, count_row}

-- the refusal with this number and place
refusal_of : (number place : ℕ) → PackedRefusal
refusal_of number place = cond (eqb number 1) Side (cond (eqb number 29) Length (Filling place))

-- the answer that says this
read_of : Verdict → Result (Unit {0}) ReadRefusal
read_of passes = Ok tt
read_of (refused number place second) = Err (cond (eqb number 19) reading.Short (reading.Packed (refusal_of number place)))

written_of : Verdict → Result (Unit {0}) WriteRefusal
written_of passes = Ok tt
written_of (refused number place second) =
    Err (cond (eqb number 21) writing.Short (writing.Board (board_determined.refusal_of number place)))

count_of : Handed Count → Result ℕ PackedRefusal
count_of h = cond (eqb h.number 0) (Ok h.values.blocked) (Err (refusal_of h.number h.place))

read_back : (r : Result (Unit {0}) ReadRefusal) → read_of (said_read r) ≡ r
unfolding read_of refusal_of
read_back (Ok a) = refl
read_back (Err (reading.Packed Side)) = refl
read_back (Err (reading.Packed Length)) = refl
read_back (Err (reading.Packed (Filling at))) = refl
read_back (Err reading.Short) = refl

written_back : (r : Result (Unit {0}) WriteRefusal) → written_of (said_written r) ≡ r
unfolding written_of
written_back (Ok a) = refl
written_back (Err (writing.Board board-refusal.Side)) = refl
written_back (Err (writing.Board board-refusal.Count)) = refl
written_back (Err (writing.Board (board-refusal.Byte at))) = refl
written_back (Err (writing.Board board-refusal.First)) = refl
written_back (Err (writing.Board board-refusal.Second)) = refl
written_back (Err writing.Short) = refl

count_back : (r : Result ℕ PackedRefusal) → count_of (handed_count r) ≡ r
unfolding count_of refusal_of
count_back (Ok n) = refl
count_back (Err Side) = refl
count_back (Err Length) = refl
count_back (Err (Filling at)) = refl

-- of `read_cells`: the answer and what the slice holds
pub read_determined : (packed : List ℕ) (w h : ℕ) (before : List ℕ) {r s : Result (Unit {0}) ReadRefusal} {after after' : List ℕ}
    → CellsRead packed w h before (said_read r) after → CellsRead packed w h before (said_read s) after'
    → (r ≡ s) × (after ≡ after')
read_determined packed w h before p q =
    (undone said_read read_of read_back p.row_is q.row_is, p.after_is ∙ sym q.after_is)

-- of `write_packed`
pub written_determined : (b : Board) (before : List ℕ) {r s : Result (Unit {0}) WriteRefusal} {after after' : List ℕ}
    → PackedWritten b before (said_written r) after → PackedWritten b before (said_written s) after' → (r ≡ s) × (after ≡ after')
written_determined b before p q =
    (undone said_written written_of written_back p.row_is q.row_is, p.after_is ∙ sym q.after_is)

-- of `count_blocked`
pub count_determined : (packed : List ℕ) (w h : ℕ) {r s : Result ℕ PackedRefusal} → handed_count r ≡ count_row packed w h
    → handed_count s ≡ count_row packed w h → r ≡ s
count_determined packed w h = undone handed_count count_of count_back
