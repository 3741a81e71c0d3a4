-- A line that has room is written, any other is refused; and what the call hands back is determined. Assumes nothing.
use Prim.Native.Nat.{ℕ, ◌+◌, ◌≤◌, ◌<◌}
use mathlib.Core.Path.{◌≡◌, refl, sym, ap, subst, ◌∙◌}
use mathlib.Core.Logic.{⊎_elim}
use mathlib.Core.Bool.{true, false, cond}
use mathlib.Core.List.{List, ◌++◌}
use native.Mathlib.Omega.{arith}
use lib.Dec.{leb, eqb}
use lib.ListN.{length, take, drop, length-append}
use lib.Seq.{take_at}
use borrow.Author.Tests.{leb-true, leb-false, lt-ltb, le-ltb}
use Rattle.laws.proofs.Tests.{order}
use Rattle.laws.proofs.Determined.{undone}
use Rattle.board.specs.Handed.{Handed}
use Rattle.std.specs.Prelude.{Result, Ok, Err}
use Rattle.lines.specs.declared.Short.{Short}
use Rattle.lines.specs.Answers.{handed_line, line_row, line_after, LineWritten}
use Rattle.lines.specs.Inner.{Put, Room}

module _ {bytes before : List ℕ} where
  pub line_refused : {why : Short} → leb (length bytes) (length before) ≡ false → LineWritten bytes before (handed_line (Err why)) before
  unfolding line_row line_after
  line_refused e =
      let t = lt-ltb (length before) (length bytes) (leb-false (length bytes) (length before) e) in
      record { row_is = rw t; after_is = rw t }

  pub line_room_lem : leb (length bytes) (length before) ≡ true → Room bytes before 0
  line_room_lem e = record { room = omega (arith, leb-true (length bytes) (length before) e) }

  pub line_written : leb (length bytes) (length before) ≡ true → {r : ℕ} {after : List ℕ} → Put bytes before 0 r after
      → LineWritten bytes before (handed_line (Ok r)) after
  unfolding line_row line_after
  line_written e {r} {after} p =
      let t = le-ltb (length before) (length bytes) (leb-true (length bytes) (length before) e) in
      let n : r ≡ length bytes = omega (arith, p.next_is) in
      record { row_is = rw (t, n); after_is = rw t (rw n at p.after_is) }

-- ---- a line that was written, for the crates above

-- the first bytes of the slice are the line
pub record Front (bytes after : List ℕ) (n : ℕ) : Type 0 where
  pub within : n ≤ length after
  pub line : take n after ≡ bytes
  pub count : n ≡ length (take n after)

front_of : {bytes before after : List ℕ} {n : ℕ} → LineWritten bytes before (handed_line (Ok n)) after → Front bytes after n
unfolding line_row line_after
front_of {bytes} {before} {after} {n} w =
    ⊎_elim
    (λ (l : length before < length bytes).
    let refused = rw (lt-ltb (length before) (length bytes) l) at w.row_is in
    let z : ◌≡◌ {A = ℕ} 0 21 = ap (λ (h : Handed ℕ). h.number) refused in
    absurd (omega arith))
    (λ (l : length bytes ≤ length before).
    let t = le-ltb (length before) (length bytes) l in
    let e : n ≡ length bytes = ap (λ (h : Handed ℕ). h.values) (rw t at w.row_is) in
    let a : after ≡ bytes ++ drop (length bytes) before = rw t at w.after_is in
    let size : length after ≡ length bytes + length (drop (length bytes) before) =
    ap length a ∙ length-append bytes (drop (length bytes) before) in
    let front : take n after ≡ bytes = ap (take n) a ∙ take_at bytes (drop (length bytes) before) n (sym e) in
    record { within = omega (arith, size, e); line = front; count = e ∙ sym (ap length front) })
    (order (length before) (length bytes))

pub line_front : {bytes before after : List ℕ} {n : ℕ} {r : Result ℕ Short} → LineWritten bytes before (handed_line r) after → r ≡ Ok n
    → Front bytes after n
line_front {bytes} {before} {after} w e = front_of (subst (λ (x : Result ℕ Short). LineWritten bytes before (handed_line x) after) e w)

-- a line that has room is not refused
has_room : {bytes before after : List ℕ} {why : Short} → length bytes ≤ length before → LineWritten bytes before (handed_line (Err why)) after → ⊥
unfolding line_row
has_room {bytes} {before} l w =
    let written = rw (le-ltb (length before) (length bytes) l) at w.row_is in
    let z : ◌≡◌ {A = ℕ} 21 0 = ap (λ (h : Handed ℕ). h.number) written in
    omega arith

pub line_has_room : {bytes before after : List ℕ} {r : Result ℕ Short} {why : Short} → length bytes ≤ length before
    → LineWritten bytes before (handed_line r) after → r ≡ Err why → ⊥
line_has_room {bytes} {before} {after} l w e = has_room l (subst (λ (x : Result ℕ Short). LineWritten bytes before (handed_line x) after) e w)

-- ---- a line is determined

-- the answer that hands something back
answer_of : Handed ℕ → Result ℕ Short
answer_of h = cond (eqb h.number 0) (Ok h.values) (Err (record {}))

answer_back : (r : Result ℕ Short) → answer_of (handed_line r) ≡ r
unfolding answer_of
answer_back (Ok n) = refl
answer_back (Err why) = refl

-- any two results that the contract admits are equal
pub line_determined : {bytes before after after' : List ℕ} {r r' : Result ℕ Short} → LineWritten bytes before (handed_line r) after
    → LineWritten bytes before (handed_line r') after' → (r ≡ r') × (after ≡ after')
line_determined p q = (undone handed_line answer_of answer_back p.row_is q.row_is, p.after_is ∙ sym q.after_is)
