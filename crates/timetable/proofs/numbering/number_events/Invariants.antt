use Rattle.timetable.specs.Numbering.{AreBegun}
use Rattle.timetable.proofs.numbering.number_events.Given as goal

abbrev pub invariant-loop-event : goal.invariant-loop-event
invariant-loop-event l = AreBegun l.stops l.numbering.numbers.items l.numbering.order.items
