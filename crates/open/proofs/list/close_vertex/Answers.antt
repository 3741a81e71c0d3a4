use lib.ListN.{set}
use Rattle.open.specs.Marked.{Looked}
use Rattle.open.proofs.Listing.{listed_closed}
use Rattle.open.proofs.list.close_vertex.Goals as goal

-- the group is looked through with the vertex marked as expanded
looked : (k : goal.After-slice_known-5-1) → let a = k.args in
    Looked a.width a.height a.x a.y a.gx a.gy a.g.now (set a.marks.now a.v 2) a.legs.now k.look-leader.result.vertex k.look-leader.result.f
looked k = k.look-leader.ensures

pub returns : goal.returns
returns c =
    listed_closed c.requires.sited c.requires.v_value c.requires.listed (looked c) (rw c.leaf.ensures at c.renew.ensures)
