-- What the functions inside may rely on and say to each other and to the crates above. No public contract cites it, so nobody need believe this.
use Rattle.std.specs.Prelude.{ℕ, suc, ◌+◌, ◌≡◌, not, cond, List, ltb, eqb, Option, Some, None, option_map, is_some, Result, Ok, Err}
use Rattle.laws.specs.Below.{as_number, how_many}
use Rattle.board.specs.Handed.{passes}
use Rattle.records.specs.Records.{record_bytes, stray_byte}
use Rattle.tracks.specs.declared.Kind.{Kind}
use Rattle.tracks.specs.declared.Kind.TheVariants.{Point, NoPath}
use Rattle.tracks.specs.declared.RouteRefusal.{RouteRefusal}
use Rattle.tracks.specs.Tracks.{is_point, place_of}
use Rattle.tracks.specs.Faults.{net_before, record_rows, refusal_row}
use Rattle.tracks.specs.Inner.{next_place, wanted, begins}
use Rattle.scan.specs.declared.Progress.{Progress}

-- the first byte that a record of this kind does not use
abbrev pub first_unused : Kind → ℕ
first_unused Point = 6
first_unused NoPath = 2

-- the place of the lowest stray byte, if there is one
abbrev pub stray_place : List ℕ → (used : List ℕ) → ℕ → Option ℕ
stray_place file used i = let k = stray_byte file used i in cond (ltb k record_bytes) (Some k) None

-- the place that a record gives, if it is a point
abbrev pub place_given : List ℕ → ℕ → Kind → Option ℕ
place_given file i Point = Some (place_of file i)
place_given file i NoPath = None

-- what the records before record i say
unfoldable pub progress : List ℕ → ℕ → Progress
progress file i = record {
  last = net_before file i;
  next = wanted (next_place file i);
  nets = how_many i (begins file);
  points = how_many i (is_point file);
}

-- what is known after a record of this net, a point at this place if it is one
abbrev pub after_record : Progress → (net : ℕ) → (place : Option ℕ) → Progress
after_record past net place = record {
  last = net;
  next = option_map suc place;
  nets = past.nets + as_number (not (eqb net past.last));
  points = past.points + as_number (is_some place);
}

-- record i is judged
abbrev pub Judged : List ℕ → (i : ℕ) → Result Progress RouteRefusal → Type 0
Judged file i (Ok p) = (record_rows file i ≡ passes) × (p ≡ progress file (suc i))
Judged file i (Err why) = record_rows file i ≡ refusal_row why
