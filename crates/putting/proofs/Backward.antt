-- A number's digits put from the last one back. Assumes nothing.
use Prim.Native.Nat.{ℕ, suc, ◌+◌, ◌-◌, ◌/◌, ◌%◌, ◌≤◌, ◌<◌}
use mathlib.Core.Path.{◌≡◌, refl, sym, ap, ap₂, ◌∙◌}
use mathlib.Core.List.{List, [], ◌∷◌, ◌++◌}
use native.Mathlib.Omega.{arith}
use lib.ListN.{length, take, drop, get_or, set, length-append, length-drop, take-append-drop}
use lib.Seq.{length-take-le, take-length, drop-length, take-take, take-append-le, take_at, drop_at}
use lib.Seq.{get_or-take, get_or_at, drop-cons, set_split}
use Rattle.lines.specs.Lines.{digit, decimal}
use Rattle.lines.specs.Inner.{Put, Room}
use Rattle.lines.proofs.Decimal.{front, decimal_last, front_tenth}
use Rattle.putting.proofs.Puts.{put_length}

-- one byte before those that were put
put_before : (i byte : ℕ) {xs before mid : List ℕ} {at next : ℕ} → at ≡ suc i → at + length xs ≤ length before
    → Put xs before at next mid → Put (byte ∷ xs) before i next (set mid i byte)
put_before i byte {xs} {before} {mid} {at} {next} e fits p =
    let rest : List ℕ = xs ++ drop next before in
    let start : mid ≡ take (suc i) before ++ rest = rw (← e) p.after_is in
    let size : length (take (suc i) before) ≡ suc i = length-take-le (suc i) before (omega arith) in
    let ahead : take i mid ≡ take i before =
    ap (take i) start
    ∙ take-append-le i (take (suc i) before) rest (omega (arith, size))
    ∙ take-take i (suc i) before (omega arith) in
    let behind : drop (suc i) mid ≡ rest = ap (drop (suc i)) start ∙ drop_at (take (suc i) before) rest (suc i) size in
    record {
      next_is = omega (arith, p.next_is);
      after_is = set_split mid i byte (omega (arith, put_length fits p)) ∙ ap₂ (λ (a b : List ℕ). a ++ (byte ∷ b)) ahead behind;
    }

-- the digits of n from the left one on are put, and those before it are the digits of the rest
pub record Half (n : ℕ) (before : List ℕ) (at rest left : ℕ) (out : List ℕ) : Type 0 where
  pub few : left ≤ length (decimal n)
  pub ahead : 0 < left → decimal rest ≡ take left (decimal n)
  pub put : Put (drop left (decimal n)) before (at + left) (at + length (decimal n)) out

module _ {n : ℕ} {before : List ℕ} {at : ℕ} (r : Room (decimal n) before at) where
  pub half_begins : Half n before at n (length (decimal n)) before
  half_begins =
      let none : drop (length (decimal n)) (decimal n) ≡ [] = drop-length (decimal n) in
      record {
        few = omega arith;
        ahead = λ _. sym (take-length (decimal n));
        put = rw none (record { next_is = omega arith; after_is = sym (take-append-drop (at + length (decimal n)) before) });
      }

  pub half_ends : {rest : ℕ} {out : List ℕ} → Half n before at rest 0 out
      → Put (decimal n) before at (at + length (decimal n)) out
  half_ends h =
      let start : at + 0 ≡ at = omega arith in
      let rest : List ℕ = decimal n ++ drop (at + length (decimal n)) before in
      record { next_is = refl; after_is = h.put.after_is ∙ ap (λ (k : ℕ). take k before ++ rest) start }

  module _ {rest left : ℕ} {out : List ℕ} (h : Half n before at rest left out) (more : 0 < left) where
    -- the digits from the left one on have room
    room : at + left + length (drop left (decimal n)) ≤ length before
    room = omega (arith, r.room, length-drop left (decimal n), h.few)

    pub half_length : length out ≡ length before
    half_length = put_length room h.put

    split : take left (decimal n) ≡ front rest ++ (digit (rest % 10) ∷ [])
    split = sym (h.ahead more) ∙ decimal_last rest

    ahead_length : length (front rest) ≡ left - 1
    ahead_length =
        let size = length-append (front rest) (digit (rest % 10) ∷ []) in
        omega (arith, ap length split, size, length-take-le left (decimal n) h.few)

    here : get_or (decimal n) (left - 1) 0 ≡ digit (rest % 10)
    here =
        sym (get_or-take left (decimal n) (left - 1) 0 (omega arith))
        ∙ ap (λ (l : List ℕ). get_or l (left - 1) 0) split
        ∙ get_or_at (front rest) (digit (rest % 10)) [] 0 (left - 1) ahead_length

    before_here : 0 < left - 1 → decimal (rest / 10) ≡ take (left - 1) (decimal n)
    before_here some =
        sym
        (sym (take-take (left - 1) left (decimal n) (omega arith))
        ∙ ap (take (left - 1)) split
        ∙ take_at (front rest) (digit (rest % 10) ∷ []) (left - 1) ahead_length
        ∙ front_tenth rest (omega (arith, ahead_length)))

    pub half_turn : Half n before at (rest / 10) (left - 1) (set out (at + (left - 1)) (digit (rest % 10)))
    half_turn =
        let back : suc (left - 1) ≡ left = omega arith in
        let more-digits : drop (left - 1) (decimal n) ≡ digit (rest % 10) ∷ drop left (decimal n) =
        drop-cons (decimal n) (left - 1) 0 (omega (arith, h.few))
        ∙ ap₂ (λ (d k : ℕ). d ∷ drop k (decimal n)) here back in
        record {
          few = omega (arith, h.few);
          ahead = before_here;
          put = rw more-digits (put_before (at + (left - 1)) (digit (rest % 10)) (omega arith) room h.put);
        }
