-- What the route call hands back, and what it leaves in the lent slices: the definitions of `answer`.
pub use Rattle.answer.specs.Answers.{Route, no_route, found, none, handed_route, Slices, slices, searched, written, slices_after, Routed}
unfoldable pub use Rattle.answer.specs.Answers.{work_row, search_row, route_row}
