use Rattle.std.proofs.Common.{◌≡◌, drop, length, map}
use Rattle.timetable.specs.Patterns.{mixed_all, place_of}
use Rattle.timetable.proofs.lines.mixed_stops.Given as goal

abbrev pub invariant-loop-event : goal.invariant-loop-event
invariant-loop-event l =
    mixed_all l.mixed (map place_of (drop l.event-index l.events))
    ≡ mixed_all (length l.events) (map place_of l.events)
