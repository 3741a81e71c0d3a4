-- `route::line_room`: the constant is the definition's number.
use Rattle.std.proofs.Common.{sym}
use Rattle.netroute.proofs.Limits.{line_room_lem}
use Rattle.route.proofs.line_room.Goals as goal

pub returns : goal.returns
returns c = sym line_room_lem
