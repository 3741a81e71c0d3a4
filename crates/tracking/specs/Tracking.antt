-- What C gets of a route file that is read: the table's number and its two places, and how many nets and points it has.
use Rattle.board.specs.Handed.{Handed}
use Rattle.tracks.specs.Answers.{Sizes}
use Rattle.tracking.specs.declared.Routes.{Routes}

abbrev pub told_routes : Handed Sizes → Routes
told_routes h =
    record { number = h.number; place = h.place; second = h.second; nets = h.values.nets; points = h.values.points }
