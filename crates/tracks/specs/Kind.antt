-- The kinds of records by the byte 0 of each.
use Rattle.std.specs.Prelude.{ℕ, ◌≡◌, false, ◌||◌, eqb, Result, MatchResult}
use Rattle.tracks.specs.declared.Kind.{Kind}
use Rattle.tracks.specs.declared.Kind.TheVariants.{Point, NoPath}
use Rattle.tracks.specs.declared.UnknownKind.{UnknownKind}

-- the byte that stands for a kind
abbrev pub code_of : Kind → ℕ
code_of Point = 4
code_of NoPath = 5

-- the kind that this byte stands for, or an error for a byte that stands for none
abbrev pub Decodes : ℕ → Result Kind UnknownKind → Type 0
Decodes byte r = MatchResult r (λ kind. code_of kind ≡ byte) (λ _. (eqb byte 4 || eqb byte 5) ≡ false)
