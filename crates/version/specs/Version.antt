-- The version of the library as one number.
use Rattle.std.specs.Prelude.{ℕ, ◌+◌, ◌*◌}

abbrev pub major : ℕ
major = 2

abbrev pub minor : ℕ
minor = 2

abbrev pub patch : ℕ
patch = 0

-- 20200 is version 2.2.0
abbrev pub version : ℕ
version = major * 10000 + minor * 100 + patch
