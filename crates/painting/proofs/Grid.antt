-- The cells of an accepted job: how many, what each is, and that painting gives them. Assumes nothing.
use Prim.Native.Nat.{ℕ, zero, suc, ◌+◌, ◌*◌, ◌-◌, ◌/◌, ◌%◌, ◌≤◌, ◌<◌}
use mathlib.Core.Path.{◌≡◌, refl, sym, ap, ◌∙◌}
use mathlib.Core.Logic.{⊎_elim}
use mathlib.Core.Bool.{true, false, ◌&&◌, cond}
use mathlib.Core.List.{List, [], ◌∷◌, ◌++◌}
use native.Mathlib.Nat.{div-add-mod', mod-lt, le-div_iff_mul-le}
use native.Mathlib.Omega.{arith}
use lib.Dec.{leb, ltb}
use lib.ListN.{length, get_or, drop, length-append, length-drop, get_or-append}
use lib.Seq.{ext_get_or, get_or-drop, get_or-append-add, get_or_at}
use borrow.Author.Tests.{lt-ltb, le-ltb, le-leb}
use Rattle.laws.proofs.Tests.{order, bool_cases, and_false}
use Rattle.laws.proofs.Below.{some_none}
use Rattle.board.specs.Handed.{first_bad}
use Rattle.board.proofs.Bytes.{all_bits}
use Rattle.board.proofs.Rows.{side_least}
use Rattle.records.specs.Records.{records}
use Rattle.kinds.specs.Job.{is_keepout, width, height, left, top, right, bottom, covers, in_keepout, cells_up_to, board_cells}
use Rattle.faults.specs.Inner.{Accepted}
use Rattle.painting.specs.Cells.{Filled, Painted}
use Rattle.faults.proofs.Accepted.{width_fits, keepout_below}

-- ---- the list of cells

module _ (job : List ℕ) where
  abbrev cell : ℕ → ℕ
  cell k = cond (in_keepout job (k % width job) (k / width job)) 1 0

  pub cells_length : (n : ℕ) → length (cells_up_to job n) ≡ n
  unfolding cells_up_to
  cells_length zero = refl
  cells_length (suc n) = length-append (cells_up_to job n) (cell n ∷ []) ∙ omega (arith, cells_length n)

  cells_at : (n k : ℕ) → k < n → get_or (cells_up_to job n) k 0 ≡ cell k
  unfolding cells_up_to
  cells_at zero k l = absurd (omega arith)
  cells_at (suc n) k l =
      ⊎_elim
      (λ (b : k < n). get_or-append (cells_up_to job n) (cell n ∷ []) 0 k (omega (arith, cells_length n)) ∙ cells_at n k b)
      (λ (b : n ≤ k). let e : k ≡ n = omega arith in rw e (get_or_at (cells_up_to job n) (cell n) [] 0 n (cells_length n)))
      (order k n)

  cell_bit : (k : ℕ) → cell k ≤ 1
  cell_bit k =
      ⊎_elim
      (λ (e : in_keepout job (k % width job) (k / width job) ≡ true). rw e (omega arith))
      (λ (e : in_keepout job (k % width job) (k / width job) ≡ false). rw e (omega arith))
      (bool_cases (in_keepout job (k % width job) (k / width job)))

-- none of them is bad
pub cells_bits : (job : List ℕ) → first_bad (board_cells job) ≡ length (board_cells job)
cells_bits job = all_bits (board_cells job) (λ (k : ℕ) (l : k < length (board_cells job)). rw (cells_at job (width job * height job) k (omega (arith, cells_length job (width job * height job)))) (cell_bit job k))

-- ---- painting gives them

module _ {job : List ℕ} (a : Accepted job) where
  wide : 0 < width job
  wide = side_least (width job) (width_fits a)

  -- no keepout reaches below the board
  kept_on : (x y : ℕ) → height job ≤ y → in_keepout job x y ≡ false
  unfolding in_keepout
  kept_on x y l = some_none (covers job x y) (records job) none
    where
      none : (i : ℕ) → i < records job → covers job x y i ≡ false
      none i b =
          ⊎_elim
          (λ (e : is_keepout job i ≡ true).
          let past = le-ltb y (bottom job i) (omega (arith, (keepout_below a i b e).3)) in
          rw e (and_false (leb (left job i) x && ltb x (right job i)) (and_false (leb (top job i) y) past)))
          (λ (e : is_keepout job i ≡ false). rw e)
          (bool_cases (is_keepout job i))

  -- cells that are cleared and then painted are the job's, and what lies beyond stays
  module _ {before mid after : List ℕ} (room : width job * height job ≤ length before) (f : Filled 0 (width job * height job) 0 before mid)
      (p : Painted (width job) (in_keepout job) mid after) where
    wanted : List ℕ
    wanted = board_cells job ++ drop (width job * height job) before

    painted : (k : ℕ) → get_or after k 0 ≡ cond (in_keepout job (k % width job) (k / width job)) 1 (get_or mid k 0)
    painted k = rw (div-add-mod' k (width job)) at (p.cell (k % width job) (k / width job) (mod-lt k wide))

    on : (k : ℕ) → k < width job * height job → get_or after k 0 ≡ get_or wanted k 0
    unfolding wanted
    on k l =
        let free : get_or mid k 0 ≡ 0 = f.entry k ∙ rw (le-leb 0 k (omega arith), lt-ltb k (width job * height job) l) in
        painted k ∙ rw free
        (sym (get_or-append (board_cells job) (drop (width job * height job) before) 0 k (omega (arith, cells_length job (width job * height job)))
        ∙ cells_at job (width job * height job) k l))

    beyond : (k : ℕ) → width job * height job ≤ k → get_or after k 0 ≡ get_or wanted k 0
    unfolding wanted
    beyond k l =
        let n : ℕ = width job * height job in
        let none = kept_on (k % width job) (k / width job) ((le-div_iff_mul-le wide).1 (omega arith)) in
        let kept : get_or mid k 0 ≡ get_or before k 0 = f.entry k ∙ rw (and_false (leb 0 k) (le-ltb k n l)) in
        let e : k ≡ length (board_cells job) + (k - n) = omega (arith, cells_length job n) in
        let e' : n + (k - n) ≡ k = omega arith in
        painted k ∙ rw none
        (kept ∙ sym (ap (λ (m : ℕ). get_or (board_cells job ++ drop n before) m 0) e ∙ get_or-append-add (board_cells job) (drop n before) (k - n) 0
        ∙ get_or-drop n before (k - n) 0 ∙ ap (λ (m : ℕ). get_or before m 0) e'))

    same_length : length after ≡ length wanted
    unfolding wanted
    same_length = simp (length-append, length-drop) (omega (arith, p.long, f.long, cells_length job (width job * height job)))

    cells_drawn : after ≡ board_cells job ++ drop (width job * height job) before
    unfolding wanted
    cells_drawn =
        ext_get_or 0 after wanted same_length (λ (k : ℕ) (l : k < length after). ⊎_elim (on k) (beyond k) (order k (width job * height job)))

-- the same where the width and the number of cells are known by other names
module _ {job : List ℕ} (a : Accepted job) {w n : ℕ} (wide_is : w ≡ width job) (cells_are : n ≡ width job * height job) where
  pub cells_room : {m : ℕ} → n ≤ m → w * height job ≤ m
  cells_room l = rw wide_is (rw cells_are at l)

  pub cells_written : {before mid after : List ℕ} → n ≤ length before → Filled 0 n 0 before mid → Painted w (in_keepout job) mid after
      → after ≡ board_cells job ++ drop n before
  cells_written l f p = rw cells_are (cells_drawn a (rw cells_are at l) (rw cells_are at f) (rw wide_is at p))
