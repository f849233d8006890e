use Rattle.std.proofs.Common.{◌≡◌, ◌++◌, map, take, drop}
use Rattle.timetable.specs.Numbering.{number_in}
use Rattle.timetable.specs.Renumbering.{renumbered_trip}
use Rattle.timetable.proofs.numbering.renumber_trips.Given as goal

abbrev pub invariant-loop-trip : goal.invariant-loop-trip
invariant-loop-trip l =
    l.trips ≡ map (renumbered_trip (number_in l.numbers)) (take l.trip-index l.initial.trips)
    ++ drop l.trip-index l.initial.trips
