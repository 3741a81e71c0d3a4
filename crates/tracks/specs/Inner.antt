-- What the code judges a record by: the record before it, as two numbers. No public contract cites it, so nobody need believe this.
use Rattle.std.specs.Prelude.{ℕ, zero, suc, Bool, not, ◌&&◌, ◌||◌, cond, List, ltb, eqb, Option, Some, None}
use Rattle.tracks.specs.Tracks.{is_point, net_of, place_of}
use Rattle.tracks.specs.Faults.{net_before}

-- the place that a further record of the net must have; 0 where it can have none
abbrev pub next_place : List ℕ → ℕ → ℕ
next_place file zero = 0
next_place file (suc i) = cond (is_point file i) (suc (place_of file i)) 0

-- the same as the code has it
abbrev pub wanted : ℕ → Option ℕ
wanted zero = None
wanted (suc n) = Some (suc n)

-- a record of this net, a point at this place or none, after a record of the net `last`
unfoldable pub wrong_after : (last next net place : ℕ) → (point : Bool) → Bool
wrong_after last next net place point =
    (eqb net 0 || ltb net last)
    || cond (eqb net last) (not (point && (not (eqb next 0) && eqb place next))) (point && not (eqb place 0))

-- record i is the first of its net
abbrev pub begins : List ℕ → ℕ → Bool
begins file i = not (eqb (net_of file i) (net_before file i))

-- a net has as many records as points, or one
abbrev pub records_for : (points : ℕ) → ℕ
records_for zero = 1
records_for (suc n) = suc n
