-- What C gets of a route: the table's number and its two places, and each value in a field of its own, 0 where its row has none.
use Rattle.board.specs.Handed.{Handed}
use Rattle.router.specs.Answers.{Route}
use Rattle.routing.specs.declared.Found.{Found}

abbrev pub told_route : Handed Route → Found
told_route h =
    let v = h.values in
    record {
      number = h.number;
      place = h.place;
      second = h.second;
      cells = v.cells;
      units = v.units;
      vertices = v.vertices;
      legs = v.legs;
      expansions = v.expansions;
      tests = v.tests;
    }
