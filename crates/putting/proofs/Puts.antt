-- Bytes put one after another at a place: what has room, and what the slice then holds. Assumes nothing.
use Prim.Native.Nat.{ℕ, ◌+◌, ◌≤◌}
use mathlib.Core.Path.{◌≡◌, sym, ap, ap₂, ◌∙◌}
use mathlib.Core.List.{List, ◌++◌, append_assoc}
use native.Mathlib.Omega.{arith}
use lib.ListN.{length, take, drop, length-append, length-drop}
use lib.Seq.{length-take-le, take_at, drop_at, drop-drop}
use Rattle.lines.specs.Inner.{Put, Room, Two, Three}
use Rattle.lines.proofs.Fields.{joined}

module _ {xs before mid : List ℕ} {at next : ℕ} (fits : at + length xs ≤ length before) (p : Put xs before at next mid) where
  ahead_length : length (take at before ++ xs) ≡ next
  ahead_length =
      omega (arith, length-append (take at before) xs, length-take-le at before (omega arith), p.next_is)

  parts : mid ≡ (take at before ++ xs) ++ drop next before
  parts = p.after_is ∙ sym (append_assoc (take at before) xs (drop next before))

  -- the slice is as long as before
  pub put_length : length mid ≡ length before
  put_length =
      let whole = length-append (take at before ++ xs) (drop next before) in
      omega (arith, ap length parts, whole, ahead_length, length-drop next before, p.next_is)

  ahead : take next mid ≡ take at before ++ xs
  ahead = ap (take next) parts ∙ take_at (take at before ++ xs) (drop next before) next ahead_length

  behind : (n : ℕ) → drop (next + n) mid ≡ drop (next + n) before
  behind n =
      sym (drop-drop n next mid)
      ∙ ap (drop n) (ap (drop next) parts ∙ drop_at (take at before ++ xs) (drop next before) next ahead_length)
      ∙ drop-drop n next before

-- ---- one piece after another

put_after : {xs ys before mid after : List ℕ} {at next last : ℕ} → Put xs before at next mid → Put ys mid next last after
    → at + length xs ≤ length before → Put (xs ++ ys) before at last after
put_after {xs} {ys} {before} {mid} {after} {at} {next} {last} p q fits =
    let tail : drop last mid ≡ drop last before = rw q.next_is (behind fits p (length ys)) in
    let joined : after ≡ (take at before ++ xs) ++ (ys ++ drop last before) =
    q.after_is ∙ ap₂ (λ (a b : List ℕ). a ++ (ys ++ b)) (ahead fits p) tail in
    record {
      next_is = omega (arith, length-append xs ys, p.next_is, q.next_is);
      after_is = joined ∙ simp append_assoc;
    }

room_first : (xs ys : List ℕ) {before : List ℕ} {at : ℕ} → Room (xs ++ ys) before at → Room xs before at
room_first xs ys r = record { room = omega (arith, r.room, length-append xs ys) }

module _ {xs ys before mid : List ℕ} {at next : ℕ} (r : Room (xs ++ ys) before at) (p : Put xs before at next mid) where
  room_then : Room ys mid next
  room_then =
      record { room = omega (arith, put_length (room_first xs ys r).room p, r.room, length-append xs ys, p.next_is) }

  put_then : {last : ℕ} {after : List ℕ} → Put ys mid next last after → Put (xs ++ ys) before at last after
  put_then q = put_after p q (room_first xs ys r).room

-- two pieces that make up a whole
module _ {xs ys whole before : List ℕ} {at : ℕ} (e : Two whole xs ys) (r : Room whole before at) where
  pub room_one : Room xs before at
  room_one = room_first xs ys (rw e.parts at r)

  module _ {mid : List ℕ} {next : ℕ} (p : Put xs before at next mid) where
    pub room_two : Room ys mid next
    room_two = room_then (rw e.parts at r) p

    pub put_two : {after : List ℕ} {last : ℕ} → Put ys mid next last after → Put whole before at last after
    put_two q = rw e.parts (put_then (rw e.parts at r) p q)

-- and three
module _ {xs ys zs whole before : List ℕ} {at : ℕ} (e : Three whole xs ys zs) (r : Room whole before at) where
  halves : Two whole xs (ys ++ zs)
  halves = record { parts = e.parts }

  pub room_front : Room xs before at
  room_front = room_one halves r

  module _ {mid : List ℕ} {next : ℕ} (p : Put xs before at next mid) where
    pub room_middle : Room ys mid next
    room_middle = room_one (joined ys zs) (room_two halves r p)

    module _ {mid' : List ℕ} {then : ℕ} (q : Put ys mid next then mid') where
      pub room_last : Room zs mid' then
      room_last = room_two (joined ys zs) (room_two halves r p) q

      pub put_three : {after : List ℕ} {last : ℕ} → Put zs mid' then last after → Put whole before at last after
      put_three s = put_two halves r p (put_two (joined ys zs) (room_two halves r p) q s)

-- ---- a turn of a loop that puts one piece: what is done, the piece, and the rest make up the whole

module _ (done piece rest : List ℕ) {whole before mid : List ℕ} {at next : ℕ} (e : whole ≡ (done ++ piece) ++ rest)
    (r : Room whole before at) (p : Put done before at next mid) where
  here : Room (done ++ piece) before at
  here = room_first (done ++ piece) rest (rw e at r)

  pub room_turn : Room piece mid next
  room_turn = room_then here p

  pub put_turn : {last : ℕ} {after : List ℕ} → Put piece mid next last after → Put (done ++ piece) before at last after
  put_turn q = put_then here p q
