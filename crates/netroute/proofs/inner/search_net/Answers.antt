use native.Mathlib.Omega.{arith}
use Rattle.netroute.proofs.Searching.{found_given}
use Rattle.netroute.proofs.inner.search_net.Goals as goal

pub returns : goal.returns
returns c =
    let a = c.args in
    found_given _ a.sx a.sy a.gx a.gy c.requires.gy_value _ (omega arith) (omega arith) (omega arith) (omega arith) c.requires.vertex_room_in_bounds
    c.route.ensures
