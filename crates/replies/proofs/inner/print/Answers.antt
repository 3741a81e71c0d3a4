-- `replies::inner::print` sends the line that it has composed: it has room in the buffer.
use Rattle.std.proofs.Common.{◌∙◌}
use Rattle.lines.proofs.Written.{line_front, line_has_room}
use Rattle.replies.proofs.inner.print.Goals as goal

-- the line stands at the front of the buffer
pub slice_bounds-send-end : goal.slice_bounds-send-end
slice_bounds-send-end g c = (line_front c.write_line.ensures c.in-Ok.is).within

pub slice_bounds-send-end-in-Ok : goal.slice_bounds-send-end-in-Ok
slice_bounds-send-end-in-Ok g c = (line_front c.write_line.ensures c.in-Ok.is).count

pub send-requires-clause-bytes_value : goal.send-requires-clause-bytes_value
send-requires-clause-bytes_value g c = (line_front c.write_line.ensures c.in-Ok.is).line ∙ c.requires.path_value

pub unreachable-requires : goal.unreachable-requires
unreachable-requires g c = line_has_room c.requires.path_in_bounds c.write_line.ensures c.in-Err.is
