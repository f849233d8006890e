use Rattle.std.proofs.Common.{◌≡◌, ◌++◌, map, take, drop}
use Rattle.timetable.specs.Numbering.{number_in}
use Rattle.timetable.specs.Renumbering.{renumbered_event}
use Rattle.timetable.proofs.numbering.renumber_events.Given as goal

abbrev pub invariant-loop-event : goal.invariant-loop-event
invariant-loop-event l =
    l.events ≡ map (renumbered_event (number_in l.numbers)) (take l.event-index l.initial.events)
    ++ drop l.event-index l.initial.events
