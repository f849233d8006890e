use Rattle.std.proofs.Common.{false, arith, refl}
use Rattle.timetable.specs.declared.trips.Event.{Event}
use Rattle.timetable.specs.Numbering.{number_in}
use Rattle.timetable.specs.Renumbering.{renumbered_event}
use Rattle.timetable.proofs.MappedLists.{mapped_more}
use Rattle.timetable.proofs.numbering.renumber_events.Goals as goal

pub loop-event-preserved : goal.loop-event-preserved
loop-event-preserved c =
    let none : Event = record { stop = record { 0 = 0 }; arrive = 0; depart = 0; board = false; alight = false } in
    let f = renumbered_event (number_in c.args.numbers.now) in
    let i = c.loop-event.event-index in
    rw c.loop-event.invariant (mapped_more f c.args.events.now i none _ (omega arith) refl)
