-- Which record cannot come behind which, whatever is wanted next. No public contract cites it, so nobody need believe this.
use Rattle.std.specs.Prelude.{ℕ, Bool, not, ◌||◌, cond, ltb, eqb, Option, Some, None}
use Rattle.std.specs.Option.{option_eq}

-- a record of this net, a point at this place if there is one, after a record of the net `last`, where a further point of that
-- net has the place that is wanted, if there is one
abbrev pub wrong_behind : (last : ℕ) → (next : Option ℕ) → (net : ℕ) → (place : Option ℕ) → Bool
wrong_behind last next net None = (eqb net 0 || ltb net last) || eqb net last
wrong_behind last next net (Some at) =
    (eqb net 0 || ltb net last) || cond (eqb net last) (not (option_eq eqb next (Some at))) (not (eqb at 0))
