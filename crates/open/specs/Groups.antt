-- The groups of a board: eight vertices of a row each, or what is left of the row.
use Rattle.std.specs.Prelude.{ℕ, ◌+◌, ◌*◌, ◌/◌, min}
use Rattle.board.specs.Board.{column_of, row_of}
use Rattle.tournament.specs.Tournament.{Groups}

-- the vertices of a group
abbrev pub group : ℕ
group = 8

-- the groups of a row
abbrev pub per_row : ℕ → ℕ
per_row width = width / group + 1

-- the column in which the group of column x begins, and the one just past its last
abbrev pub group_start : ℕ → ℕ
group_start x = x / group * group

abbrev pub group_end : (width x : ℕ) → ℕ
group_end width x = min (group_start x + group) (width + 1)

-- the leaf of the group of (x, y)
abbrev pub leaf_at : (width height x y : ℕ) → ℕ
leaf_at width height x y = per_row width * (height + 1) + per_row width * y + x / group

-- each vertex by its place
abbrev pub groups_of : (width height : ℕ) → Groups
groups_of width height = record {
  leaves = per_row width * (height + 1);
  leaf = λ v. leaf_at width height (column_of width v) (row_of width v);
}

-- the nodes of a board, and node 0, which none uses
abbrev pub nodes_of : (width height : ℕ) → ℕ
nodes_of width height = 2 * (per_row width * (height + 1))
