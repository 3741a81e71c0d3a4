-- What a record says, by its type, and which type it is if it says so. Assumes nothing.
use Prim.Native.Nat.{ℕ}
use mathlib.Core.Path.{◌≡◌, refl, sym, ◌∙◌}
use mathlib.Core.Logic.{⊎_elim}
use mathlib.Core.List.{List}
use mathlib.Core.Bool.{Bool, true, false, not, ◌||◌, cond}
use native.Mathlib.Omega.{arith}
use lib.Dec.{ltb, eqb}
use borrow.Author.Tests.{eqb-true, not-false}
use Rattle.std.proofs.lemmas.Bool.Decides.{nat_tests}
use Rattle.laws.proofs.Tests.{bool_cases}
use Rattle.std.specs.Prelude.{Some, None, Result, Ok, Err}
use Rattle.records.specs.Records.{record_bytes, byte, stray_byte}
use Rattle.kinds.specs.declared.Kind.{Kind}
use Rattle.kinds.specs.declared.Kind.TheVariants as kind
use Rattle.kinds.specs.declared.Record.{Record}
use Rattle.kinds.specs.declared.Record.TheVariants.{Board, Keepout, Net}
use Rattle.kinds.specs.declared.RecordFault.{RecordFault}
use Rattle.kinds.specs.declared.RecordFault.TheVariants.{Unknown, Unused}
use Rattle.kinds.specs.declared.Rectangle.{Rectangle}
use Rattle.kinds.specs.declared.Net as given
use Rattle.kinds.specs.Job.{is_board, is_keepout, is_net, is_unknown, used_by, coordinate}
use Rattle.kinds.specs.Kind.{code_of, kind_of}
use Rattle.kinds.specs.Inner.{stray_in, stray_place, rectangle_at, net_said, record_at}

-- what 23 is judged by
abbrev pub is_untidy : List ℕ → ℕ → Bool
is_untidy job i = ltb (stray_in job i) record_bytes

-- what is known of a record by what it says
pub data Says (job : List ℕ) (i : ℕ) : Result Record RecordFault → Type 0 where
  unknown : is_unknown job i ≡ true → Says job i (Err Unknown)
  unused : is_unknown job i ≡ false → is_untidy job i ≡ true → Says job i (Err (Unused (stray_in job i)))
  board : is_untidy job i ≡ false → byte job i 0 ≡ 1 → Says job i (Ok (Board (coordinate job i 2) (coordinate job i 3)))
  keepout : is_untidy job i ≡ false → byte job i 0 ≡ 2 → Says job i (Ok (Keepout (rectangle_at job i)))
  net : is_untidy job i ≡ false → byte job i 0 ≡ 3 → Says job i (Ok (Net (net_said job i)))

-- a type that is known, and not the first two, is the third
third : (b k n : Bool) → (b || (k || n)) ≡ true → b ≡ false → k ≡ false → n ≡ true
third b k n h p q = rw (p, q) at h

module _ (job : List ℕ) (i : ℕ) where
  says : Says job i (record_at job i)
  unfolding record_at
  says =
      ⊎_elim
      (λ (u : is_unknown job i ≡ true). rw u (unknown u))
      (λ (u : is_unknown job i ≡ false).
      ⊎_elim
      (λ (e : is_untidy job i ≡ true). rw (u, e) (unused u e))
      (λ (e : is_untidy job i ≡ false).
      ⊎_elim
      (λ (b : is_board job i ≡ true). rw (u, e, b) (board e (eqb-true (byte job i 0) 1 b)))
      (λ (b : is_board job i ≡ false).
      ⊎_elim
      (λ (k : is_keepout job i ≡ true). rw (u, e, b, k) (keepout e (eqb-true (byte job i 0) 2 k)))
      (λ (k : is_keepout job i ≡ false).
      let n = third (is_board job i) (is_keepout job i) (is_net job i) (not-false (is_board job i || (is_keepout job i || is_net job i)) u) b k in
      rw (u, e, b, k) (net e (eqb-true (byte job i 0) 3 n)))
      (bool_cases (is_keepout job i)))
      (bool_cases (is_board job i)))
      (bool_cases (is_untidy job i)))
      (bool_cases (is_unknown job i))

  pub said : {r : Result Record RecordFault} → r ≡ record_at job i → Says job i r
  said e = rw e says

  -- the same by the variant in an answer
  pub said_so : {r s : Record} → r ≡ s → Ok r ≡ record_at job i → Says job i (Ok s)
  said_so e f = rw e at (said f)

  pub said_fault : {r s : RecordFault} → r ≡ s → Err r ≡ record_at job i → Says job i (Err s)
  said_fault e f = rw e at (said f)

-- ---- a number that is a kind's, and one that isn't

code_is : (code : ℕ) (k : Kind) → Ok k ≡ kind_of code → code ≡ code_of k
code_is code kind.Board e = grind (arith, nat_tests)
code_is code kind.Keepout e = grind (arith, nat_tests)
code_is code kind.Net e = grind (arith, nat_tests)

no_code : (code : ℕ) (fault : RecordFault) → Err fault ≡ kind_of code → (fault ≡ Unknown) × (not (eqb code 1 || (eqb code 2 || eqb code 3)) ≡ true)
no_code code fault e = (grind (arith, nat_tests), grind (arith, nat_tests))

-- a place that a search told
found_at : (k n : ℕ) {at : ℕ} → Some at ≡ cond (ltb k n) (Some k) None → (at ≡ k) × (ltb k n ≡ true)
found_at k n e = (grind (arith, nat_tests), grind (arith, nat_tests))

found_none : (k n : ℕ) → None ≡ cond (ltb k n) (Some k) None → ltb k n ≡ false
found_none k n e = grind (arith, nat_tests)

-- ---- what it says, by its kind and its lowest stray byte

module _ (job : List ℕ) (i : ℕ) {code : ℕ} (read : code ≡ byte job i 0) where
  pub says_unknown : {fault : RecordFault} → Err fault ≡ kind_of code → Err fault ≡ record_at job i
  unfolding record_at
  says_unknown {fault} e = let u = no_code (byte job i 0) fault (rw read at e) in rw (u.0, u.1) refl

  -- what one of this kind says that has no stray byte
  abbrev read_as : Kind → Record
  read_as kind.Board = Board (coordinate job i 2) (coordinate job i 3)
  read_as kind.Keepout = Keepout (rectangle_at job i)
  read_as kind.Net = Net (net_said job i)

  by_kind : (k : Kind) → byte job i 0 ≡ code_of k → record_at job i ≡ cond (is_untidy job i) (Err (Unused (stray_in job i))) (Ok (read_as k))
  unfolding record_at
  by_kind kind.Board e = rw e refl
  by_kind kind.Keepout e = rw e refl
  by_kind kind.Net e = rw e refl

  module _ {k : Kind} (known : Ok k ≡ kind_of code) where
    -- the same with the kind's number in place of byte 0
    told : record_at job i ≡ (let lowest = stray_byte job (used_by (code_of k)) i in cond (ltb lowest record_bytes) (Err (Unused lowest)) (Ok (read_as k)))
    told = let t : byte job i 0 ≡ code_of k = sym read ∙ code_is code k known in by_kind k t ∙ rw t refl

    pub says_unused : {at : ℕ} → Some at ≡ stray_place job (used_by (code_of k)) i → Err (Unused at) ≡ record_at job i
    says_unused e = let f = found_at (stray_byte job (used_by (code_of k)) i) record_bytes e in rw (told, f.1, f.0) refl

    module _ (neat : None ≡ stray_place job (used_by (code_of k)) i) where
      says_neat : Ok (read_as k) ≡ record_at job i
      says_neat = rw (told, found_none (stray_byte job (used_by (code_of k)) i) record_bytes neat) refl

      pub says_board : {w h : ℕ} → k ≡ kind.Board → w ≡ coordinate job i 2 → h ≡ coordinate job i 3 → Ok (Board w h) ≡ record_at job i
      says_board e x y = rw (x, y) (rw e at says_neat)

      pub says_keepout : {r : Rectangle} → k ≡ kind.Keepout → r ≡ rectangle_at job i → Ok (Keepout r) ≡ record_at job i
      says_keepout e f = rw f (rw e at says_neat)

      pub says_net : {n : given.Net} → k ≡ kind.Net → n ≡ net_said job i → Ok (Net n) ≡ record_at job i
      says_net e f = rw f (rw e at says_neat)
