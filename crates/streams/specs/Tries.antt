-- How often the route program tries.
use Rattle.std.specs.Prelude.{ℕ}

-- how often a read or a write that moves nothing is tried
abbrev pub most_tries : ℕ
most_tries = 100000000
