-- A step along a leg, as the walks over the cells take it. No public contract cites it, so nobody need believe this.
use Rattle.std.specs.Prelude.{ℕ, cond, ltb}

-- what a step from a towards b adds to an index where neighbours lie `stride` apart; `forward b a stride` is taken away
unfoldable pub forward : (a b stride : ℕ) → ℕ
forward a b stride = cond (ltb a b) stride 0
