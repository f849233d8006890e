use Rattle.timetable.specs.Numbering.{AreBegun}
use Rattle.timetable.proofs.numbering.number_stops.Given as goal

abbrev pub invariant-loop-trip : goal.invariant-loop-trip
invariant-loop-trip l = AreBegun l.stops l.numbering.numbers.items l.numbering.order.items
