-- What src/inner.rt writes. No public contract cites it, so nobody need believe this.
use Rattle.std.specs.Prelude.{ℕ, ◌+◌, ◌*◌, ◌<◌, ◌≡◌, Bool, ◌&&◌, cond, List, leb, ltb, length, get_or, Option, Some, None, Result, Ok, Err}
use Rattle.kinds.specs.declared.Rectangle.{Rectangle}
use Rattle.kinds.specs.declared.Record.{Record}
use Rattle.kinds.specs.declared.Record.TheVariants.{Board, Keepout, Net}
use Rattle.kinds.specs.declared.RecordFault.{RecordFault}

-- the entries from one to just before another got a value, and the others kept theirs
pub record Filled (from to value : ℕ) (before after : List ℕ) : Type 0 where
  pub long : length after ≡ length before
  pub entry : (k : ℕ) → get_or after k 0 ≡ cond (leb from k && ltb k to) value (get_or before k 0)

-- the cells that pass a test were blocked, and the others kept theirs
pub record Painted (wide : ℕ) (test : ℕ → ℕ → Bool) (before after : List ℕ) : Type 0 where
  pub long : length after ≡ length before
  pub cell : (x y : ℕ) → x < wide → get_or after (y * wide + x) 0 ≡ cond (test x y) 1 (get_or before (y * wide + x) 0)

-- the keepout that a record says, if it says one
abbrev pub keepout_in : Result Record RecordFault → Option Rectangle
keepout_in (Ok (Board w h)) = None
keepout_in (Ok (Keepout r)) = Some r
keepout_in (Ok (Net n)) = None
keepout_in (Err e) = None
