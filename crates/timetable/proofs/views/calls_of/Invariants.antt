use Rattle.std.proofs.Common.{◌≡◌, map, take}
use Rattle.timetable.specs.LineViews.{call_of}
use Rattle.timetable.proofs.views.calls_of.Given as goal

abbrev pub invariant-loop-event : goal.invariant-loop-event
invariant-loop-event l = l.calls.items ≡ map call_of (take l.event-index l.events)
