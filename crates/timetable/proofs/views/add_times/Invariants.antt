use Rattle.std.proofs.Common.{◌≡◌, ◌++◌, map, take}
use Rattle.timetable.specs.LineViews.{times_at}
use Rattle.timetable.proofs.views.add_times.Given as goal

abbrev pub invariant-loop-event : goal.invariant-loop-event
invariant-loop-event l = l.times.items ≡ l.initial.times.items ++ map times_at (take l.event-index l.events)
