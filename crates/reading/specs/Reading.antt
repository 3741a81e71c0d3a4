-- What C gets of a job's board and of its nets: the table's number and its two places, and each value in a field of its own, 0 where its
-- row has none.
use Rattle.board.specs.Handed.{Handed}
use Rattle.kinds.specs.Job as job-records
use Rattle.job.specs.Answers as job-calls
use Rattle.reading.specs.declared.Sides.{Sides}
use Rattle.reading.specs.declared.Net.{Net}

abbrev pub told_board : Handed job-calls.Sides → Sides
told_board h =
    let v = h.values in record { number = h.number; place = h.place; second = h.second; width = v.width; height = v.height; nets = v.nets }

abbrev pub told_net : Handed job-records.Net → Net
told_net h =
    let v = h.values in
    record { number = h.number; place = h.place; second = h.second; net = v.number; sx = v.sx; sy = v.sy; gx = v.gx; gy = v.gy }
