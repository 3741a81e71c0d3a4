use mathlib.Core.Path.{◌≡◌}
use Rattle.printing.specs.Inner.{line_for}
use Rattle.printing.proofs.Printing.{asked_bytes}
use Rattle.printing.proofs.Calls.{line_for_c}
use Rattle.printing.proofs.inner.line_for_c.Goals as goal

pub returns : goal.returns
returns c =
    let a = c.args in
    -- the line has what the call is given, each in its place
    let line_is : c.line_for-line.result ≡ line_for a.net a.number a.place a.second a.units a.expansions a.tests = c.line_for-line.ensures in
    let asked = asked_bytes a.net a.number a.place a.second a.units a.expansions a.tests line_is in
    line_for_c (asked a.width a.path.now) c.write_line.ensures c.from.ensures
