-- Tests over the numbers below n: every, some, how many, and the first that passes.
use Rattle.std.specs.Prelude.{ℕ, zero, suc, ◌+◌, Bool, true, false, ◌&&◌, ◌||◌, cond, ltb}

-- every number below n passes
unfoldable pub every : ℕ → (ℕ → Bool) → Bool
every zero test = true
every (suc n) test = every n test && test n

-- some number below n passes
unfoldable pub some : ℕ → (ℕ → Bool) → Bool
some zero test = false
some (suc n) test = some n test || test n

-- 1 for yes, 0 for no
abbrev pub as_number : Bool → ℕ
as_number true = 1
as_number false = 0

-- how many numbers below n pass
unfoldable pub how_many : ℕ → (ℕ → Bool) → ℕ
how_many zero test = 0
how_many (suc n) test = how_many n test + as_number (test n)

-- the first number below n that passes; n if none does
unfoldable pub first_where : ℕ → (ℕ → Bool) → ℕ
first_where zero test = 0
first_where (suc n) test = let r = first_where n test in cond (ltb r n) r (cond (test n) n (suc n))
